-- `starts::start_count` meets its contract.
use mathlib.Core.Path.{ap₂, ◌∙◌}
use Prim.Native.Nat.{◌^◌, ◌<◌}
use native.Mathlib.Omega.{arith}
use lib.Count.{ones}
use Rattle.model.specs.Bounds.{most_loads}
use Rattle.model.specs.Order.{and_not, start_count}
use Rattle.model.proofs.MaskLaws.{mask_small}
use Rattle.starts.specs.Places.{running_in}
use Rattle.starts.proofs.start_count.Goals as goal

-- of either mask
small : (c : goal.After-running_mask-new) → (c.running_mask-new.result < 2 ^ most_loads) × (c.running_mask-old.result < 2 ^ most_loads)
small c =
    let a = c.args in (
      omega (arith, c.running_mask-new.ensures, mask_small a.count (running_in a.count a.new) c.requires),
      omega (arith, c.running_mask-old.ensures, mask_small a.count (running_in a.count a.old) c.requires),
    )

pub ones_and_not-requires-clause-x_bound : goal.ones_and_not-requires-clause-x_bound
ones_and_not-requires-clause-x_bound c = omega (arith, (small c).0, (small c).1)

pub ones_and_not-requires-clause-y_bound : goal.ones_and_not-requires-clause-y_bound
ones_and_not-requires-clause-y_bound c = omega (arith, (small c).0, (small c).1)

pub returns : goal.returns
unfolding start_count
returns c = c.ones_and_not.ensures ∙ ap₂ (λ x y. ones (and_not x y)) c.running_mask-new.ensures c.running_mask-old.ensures
