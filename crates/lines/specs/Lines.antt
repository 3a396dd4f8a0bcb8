-- The lines of a sheet (document 01, "The sheet") over the numbers that the code holds.
use Rattle.std.specs.Prelude.{ℕ, ◌*◌, List, ◌++◌, map, get_or}
use Rattle.std.proofs.Math.IntN.{sub_ℕ}
use Rattle.model.specs.Lists.{upto, concat}
use Rattle.model.specs.Frames.{digits, unsigned}
use Rattle.model.specs.Sheet.{lf}

-- "c of each load (2 each)": the first n of an array
unfoldable pub numbers_in : List ℕ → ℕ → List ℕ
numbers_in picks n = concat (map (λ k. digits 2 (get_or picks k 0)) (upto n))

-- "The first line: `04`, worth (8 digits), trials (8), then c of each load (2 each)"
unfoldable pub first_bytes : List ℕ → ℕ → ℕ → ℕ → List ℕ
first_bytes picks n worth trials = digits 2 4 ++ digits 8 worth ++ digits 8 trials ++ numbers_in picks n ++ lf

-- "`05`, sum of P (8), sum of Q (8, two's complement of 32 bits), S (4)": the word is that of Q
unfoldable pub slot_bytes : ℕ → ℕ → ℕ → List ℕ
slot_bytes active word limit = digits 2 5 ++ digits 8 active ++ digits 8 word ++ digits 4 limit ++ lf

-- the word of the sum of Q in slot s, where each Q of `count` loads is raised by 32,768
abbrev pub word_in : ℕ → List ℕ → ℕ → ℕ
word_in count reactives s = unsigned 32 (sub_ℕ (get_or reactives s 0) (32768 * count))

-- "Then for each slot": the first n of three arrays
unfoldable pub slots_bytes : ℕ → List ℕ → List ℕ → List ℕ → ℕ → List ℕ
slots_bytes count actives reactives limits n =
    concat (map (λ s. slot_bytes (get_or actives s 0) (word_in count reactives s) (get_or limits s 0)) (upto n))
