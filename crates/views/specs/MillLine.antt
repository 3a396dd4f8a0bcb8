-- The mill's line (document 02, M-103) over the numbers c in an array. Load k + 1 is at place k.
use Rattle.std.specs.Prelude.{ℕ, suc, cond, not, List, [], ◌++◌, map, eqb, get_or}
use Rattle.model.specs.Lists.{upto, concat}
use Rattle.model.specs.Frames.{digits}
use Rattle.model.specs.Sheet.{lf}
use Rattle.model.specs.Views.{number_and_level}

-- "number and level (2 each)" of load k; nothing of a load that stands
unfoldable pub load_bytes : ℕ → ℕ → List ℕ
load_bytes k level = cond (not (eqb level 0)) (number_and_level k level) []

-- "of every running load, lowest first": of the first n loads
unfoldable pub loads_bytes : List ℕ → ℕ → List ℕ
loads_bytes picks n = concat (map (λ k. load_bytes (suc k) (get_or picks k 0)) (upto n))

-- "`09`, worth (8), then number and level"
unfoldable pub mill_bytes : ℕ → List ℕ → ℕ → List ℕ
mill_bytes worth picks n = digits 2 9 ++ digits 8 worth ++ loads_bytes picks n ++ lf
