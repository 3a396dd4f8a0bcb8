-- `header::limits_of` meets its contract. The invariant: the first s entries are filled.
use Prim.Native.Nat.{◌≤◌, ◌-◌}
use mathlib.Core.Path.{◌≡◌}
use mathlib.Core.List.{map}
use lib.ListN.{length, get_or, take}
use Rattle.model.specs.Lists.{upto}
use Rattle.model.specs.Book.{limits_in}
use Rattle.header.proofs.limits_of.Given as goal

abbrev pub invariant-loop-s : goal.invariant-loop-s
invariant-loop-s l = (l.s ≤ 4) × (length l.limits ≡ 4) × (take l.s l.limits ≡ map (λ k. get_or (limits_in l.line) k 0) (upto l.s))

abbrev pub decreases-loop-s : goal.decreases-loop-s
decreases-loop-s l = 4 - l.s
