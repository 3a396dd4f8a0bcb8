-- `header::ratio_of` meets its contract.
use mathlib.Core.Path.{sym, ap, ◌∙◌}
use Rattle.model.specs.Frames.{field}
use Rattle.model.proofs.LengthLaws.{ratio_few}
use Rattle.header.proofs.HeaderLaws.{ratio_unstated, ratio-stated}
use native.Mathlib.Omega.{arith}
use Rattle.header.proofs.ratio_of.Goals as goal

pub returns-then-digits-lt1 : goal.returns-then-digits-lt1
returns-then-digits-lt1 c = sym (ratio_unstated c.args.line.now (omega (arith, c.ratio_digits-digits.ensures)))

pub number-requires : goal.number-requires
number-requires c = omega (arith, c.ratio_digits-digits.ensures, ratio_few c.args.line.now)

pub returns : goal.returns
returns c =
    let l = c.args.line.now in
    c.number.ensures ∙ ap (field l 8) c.ratio_digits-digits.ensures ∙ sym (ratio-stated l (omega (arith, c.ratio_digits-digits.ensures)))
