-- `loadline::exceeds_at` meets its contract: Q plus 32,768 is as far from 32,768 as |Q|.
use mathlib.Core.Path.{ap}
use Prim.Native.Nat.{◌*◌, ◌≤◌}
use native.Mathlib.Nat.{mul-le-mul}
use native.Mathlib.Omega.{arith}
use lib.Dec.{ltb}
use Rattle.model.specs.Bounds.{most_ratio}
use Rattle.model.specs.Book.{settings}
use Rattle.model.specs.Choice.{setting_of, power_in}
use Rattle.model.proofs.ValidLaws.{small-settings}
use Rattle.model.proofs.NumberLaws.{setting_small}
use Rattle.loadline.specs.declared.PowerValue.{PowerValue}
use Rattle.loadline.proofs.LineLaws.{abs_raised}
use Rattle.loadline.proofs.exceeds_at.Goals as goal

pub overflow_mul-result : goal.overflow_mul-result
overflow_mul-result c =
    let vs = settings c.args.slots c.args.line.now in
    let p = c.power_of-power.result.active in
    let small : p ≤ 65535
    = omega (arith, ap (λ (x : PowerValue). x.active) c.power_of-power.ensures, (setting_small vs (small-settings c.args.slots c.args.line.now) c.args.c).active c.args.s) in
    let most : c.args.ratio * p ≤ most_ratio * 65535 = mul-le-mul c.requires.ratio_le_most_ratio small in
    omega (arith, most)

pub returns : goal.returns
returns c =
    let a = c.args in
    let vs = settings a.slots a.line.now in
    let v = setting_of vs a.c in
    rw (c.abs_diff.ensures, c.power_of-power.ensures)
    (ap (ltb (a.ratio * (power_in a.s v).p)) (abs_raised (power_in a.s v).q ((setting_small vs (small-settings a.slots a.line.now) a.c).reactive a.s)))
