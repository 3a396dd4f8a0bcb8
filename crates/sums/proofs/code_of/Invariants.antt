-- `sums::code_of` meets its contract. The invariant: the code is that of the loads from k on.
use mathlib.Core.Path.{◌≡◌}
use Prim.Native.Nat.{◌-◌, ◌≤◌}
use Rattle.model.specs.Bounds.{most_loads}
use Rattle.sums.proofs.PickLaws.{code_from}
use Rattle.sums.proofs.code_of.Given as goal

abbrev pub invariant-loop-k : goal.invariant-loop-k
invariant-loop-k l = (l.initial.k ≤ most_loads) × (l.code ≡ code_from l.picks l.k (l.initial.k - l.k))
