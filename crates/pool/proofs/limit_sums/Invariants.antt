-- `pool::limit_sums` meets its contract. The invariant: the first s entries are filled.
use Prim.Native.Nat.{◌+◌, ◌≤◌}
use mathlib.Core.Path.{◌≡◌}
use mathlib.Core.List.{map}
use lib.ListN.{length, get_or, take}
use Rattle.model.specs.Lists.{upto}
use Rattle.pool.proofs.limit_sums.Given as goal

abbrev pub invariant-loop-s : goal.invariant-loop-s
invariant-loop-s l = (l.s ≤ 4) × (length l.sums ≡ 4) × (take l.s l.sums ≡ map (λ k. get_or l.a k 0 + get_or l.b k 0) (upto l.s))
