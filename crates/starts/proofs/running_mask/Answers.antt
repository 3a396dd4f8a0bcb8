-- `starts::running_mask` meets its contract. The invariant: the mask is that of the loads from k on.
use mathlib.Core.Path.{◌≡◌, refl, ap₂, ◌∙◌}
use mathlib.Core.Bool.{Bool, true, false, cond, not}
use Prim.Native.Nat.{suc, ◌-◌, ◌≤◌, ◌<◌}
use native.Mathlib.Omega.{arith}
use lib.Dec.{eqb}
use lib.ListN.{get_or}
use mir.Val.{bool_byte}
use Rattle.model.specs.Bounds.{most_loads}
use Rattle.model.specs.Order.{mask_from, running_mask}
use Rattle.model.proofs.MaskLaws.{mask_below}
use Rattle.starts.specs.Places.{running_in}
use Rattle.starts.proofs.running_mask.Goals as goal

bit_small : (t : Bool) → bool_byte t ≤ 1
bit_small true = omega arith
bit_small false = omega arith

bit_is : (t : Bool) → bool_byte t ≡ cond t 1 0
bit_is true = refl
bit_is false = refl

-- the mask so far leaves room for a bit more
small : (c : goal.In-loop-k) → c.loop-k.mask < 16777216
small c =
    let l = c.loop-k in
    let a = c.args in
    omega (arith, l.invariant.1, mask_below (running_in a.count a.picks) (suc l.k) (a.count - l.k) most_loads (omega (arith, l.invariant.0)))

pub overflow_mul-mask : goal.overflow_mul-mask
overflow_mul-mask c = omega (arith, small c)

pub overflow_add-mask : goal.overflow_add-mask
overflow_add-mask c = omega (arith, small c, bit_small (not (eqb (get_or c.args.picks (c.loop-k.k - 1) 0) 0)))

pub returns : goal.returns
unfolding running_mask
returns c =
    let l = c.loop-k in
    let a = c.args in
    let first : suc l.k ≡ 1 = omega arith in
    let all : a.count - l.k ≡ a.count = omega arith in
    l.invariant.1 ∙ ap₂ (mask_from (running_in a.count a.picks)) first all
