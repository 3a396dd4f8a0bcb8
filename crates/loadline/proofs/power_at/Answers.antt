-- `loadline::power_at_lem` meets its contract.
use mathlib.Core.Path.{◌≡◌}
use Rattle.model.specs.Frames.{field, signed}
use Rattle.model.specs.Values.{raised}
use Prim.Native.Nat.{◌+◌, ◌%◌}
use Rattle.model.proofs.FrameLaws.{field_below}
use Rattle.loadline.proofs.LineLaws.{raised-signed}
use native.Mathlib.Omega.{arith}
use Rattle.loadline.proofs.power_at.Goals as goal

pub overflow_add-result : goal.overflow_add-result
overflow_add-result c =
    let a = c.args in
    omega (arith, field_below a.line.now (a.at + 4) 4)

pub returns : goal.returns
returns c =
    let a = c.args in
    let e : raised (signed 16 (field a.line.now (a.at + 4) 4)) ≡ (c.number-2.result + 32768) % 65536
    = rw c.number-2.ensures (raised-signed _ (field_below a.line.now (a.at + 4) 4)) in
    rw (e, c.number.ensures)
