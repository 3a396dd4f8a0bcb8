-- `starts::running_mask` meets its contract. The invariant: the mask is that of the loads from k on.
use mathlib.Core.Path.{◌≡◌}
use Prim.Native.Nat.{suc, ◌-◌, ◌≤◌}
use Rattle.model.specs.Bounds.{most_loads}
use Rattle.model.specs.Order.{mask_from}
use Rattle.starts.specs.Places.{running_in}
use Rattle.starts.proofs.running_mask.Given as goal

abbrev pub invariant-loop-k : goal.invariant-loop-k
invariant-loop-k l = (l.count ≤ most_loads) × (l.mask ≡ mask_from (running_in l.count l.picks) (suc l.k) (l.count - l.k))
