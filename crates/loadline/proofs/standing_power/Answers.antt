-- `loadline::standing_power` meets its contract: a pair that the line carries, or none.
use mathlib.Core.Path.{sym, ap, ◌∙◌}
use Rattle.loadline.specs.LoadLine.{power_value}
use Rattle.loadline.proofs.LineLaws.{standing_at, standing-none}
use native.Mathlib.Omega.{arith}
use Rattle.loadline.proofs.standing_power.Goals as goal

pub returns-then-s-pairs : goal.returns-then-s-pairs
returns-then-s-pairs c =
    c.power_at.ensures
    ∙ ap power_value (sym (standing_at c.args.slots c.args.s c.args.line.now (omega (arith, c.requires.pairs_value, c.if-s-pairs.true))))

pub returns : goal.returns
returns c =
    c.none.ensures
    ∙ ap power_value (sym (standing-none c.args.slots c.args.s c.args.line.now (omega (arith, c.requires.pairs_value, c.if-s-pairs.false))))
