-- `limits::keeps` meets its contract. The invariant: the slots that are left decide.
use mathlib.Core.Path.{◌≡◌}
use Prim.Native.Nat.{◌≤◌}
use lib.ListN.{length}
use Rattle.model.specs.Lists.{Every}
use Rattle.model.specs.Choice.{Choice}
use Rattle.model.specs.Grid.{slots_of, keeps_limits}
use Rattle.model.specs.Valid.{SettingSmall}
use Rattle.model.specs.Values.{problem_of}
use Rattle.sums.specs.Sums.{sums_value}
use Rattle.limits.proofs.KeepLaws.{keeps_from}
use Rattle.limits.proofs.keeps.Given as goal

abbrev pub invariant-loop-s : goal.invariant-loop-s
invariant-loop-s l =
    (l.book.slots ≤ 4)
    × ((c : Choice) → l.sums ≡ sums_value c → Every SettingSmall c → length c ≡ length (problem_of l.book).loads
    → keeps_from (problem_of l.book) l.s c ≡ keeps_limits (slots_of (problem_of l.book)) c)
