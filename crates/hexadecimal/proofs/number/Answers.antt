-- `hexadecimal::number` meets its contract. The invariant: the value is that of the digits passed.
use Prim.Native.Nat.{◌+◌}
use mathlib.Core.Path.{refl}
use lib.ListN.{get_or}
use Rattle.model.specs.Frames.{value_from, field}
use Rattle.model.proofs.FrameLaws.{field-small, value_below}
use Rattle.hexadecimal.proofs.FieldLaws.{field-more}
use native.Mathlib.Omega.{arith}
use Rattle.hexadecimal.proofs.number.Goals as goal

pub loop-i-init : goal.loop-i-init
unfolding field value_from
loop-i-init c = refl

pub overflow_mul-v : goal.overflow_mul-v
overflow_mul-v c =
    let a = c.args in
    omega (arith, field-small a.line.now a.at c.loop-i.i 7 (omega arith))

pub overflow_add-v : goal.overflow_add-v
overflow_add-v c =
    let a = c.args in
    let i = c.loop-i.i in
    omega (arith, field-small a.line.now a.at i 7 (omega arith), value_below (get_or a.line.now (a.at + i) 0))

pub loop-i-preserved : goal.loop-i-preserved
loop-i-preserved c =
    let a = c.args in
    let i = c.loop-i.i in
    omega (arith, field-more a.line.now a.at i (omega arith))
