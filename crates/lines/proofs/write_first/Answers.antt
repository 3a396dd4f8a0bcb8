-- `lines::write_first` meets its contract: five writes in a row make the line.
use Rattle.lines.proofs.LineLaws.{first-written}
use native.Mathlib.Omega.{arith}
use Rattle.lines.proofs.write_first.Goals as goal

pub returns : goal.returns
returns c =
    let a = c.args in
    first-written a.buf.now _ _ _ _ a.picks _ _ _ _ a.count a.worth a.trials
    c.write.ensures
    c.write-2.ensures
    c.write-3.ensures
    c.write_numbers.ensures
    (omega arith) (omega arith) (omega arith) (omega arith) c.requires.1
