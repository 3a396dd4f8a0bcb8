-- `lines::write_numbers` meets its contract. The invariant: the numbers passed are written.
use mathlib.Core.Path.{sym, ap, ◌∙◌}
use Rattle.hexadecimal.specs.Written.{written}
use Rattle.hexadecimal.proofs.WrittenLaws.{written_none}
use Rattle.lines.proofs.LineLaws.{numbers-none, numbers_go}
use native.Mathlib.Omega.{arith}
use Rattle.lines.proofs.write_numbers.Goals as goal

pub loop-k-init : goal.loop-k-init
loop-k-init c =
    let a = c.args in
    sym (ap (written a.buf.now a.at) (numbers-none a.picks) ∙ written_none a.buf.now a.at)

pub loop-k-preserved : goal.loop-k-preserved
loop-k-preserved c =
    let a = c.args in
    let l = c.loop-k in
    numbers_go a.buf.now l.buf _ a.picks a.at _ l.k a.count l.invariant c.write.ensures (omega arith) (omega arith) c.requires.1
