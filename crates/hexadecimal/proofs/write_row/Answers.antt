-- `hexadecimal::write_row` meets its contract. The invariant: the numbers passed are written.
use mathlib.Core.Path.{sym}
use Rattle.hexadecimal.proofs.WrittenLaws.{written_none, row_more}
use native.Mathlib.Omega.{arith}
use Rattle.hexadecimal.proofs.write_row.Goals as goal

pub loop-i-init : goal.loop-i-init
loop-i-init c = sym (written_none c.args.buf.now c.args.at)

pub loop-i-preserved : goal.loop-i-preserved
loop-i-preserved c =
    let a = c.args in
    let l = c.loop-i in
    row_more a.n a.xs.now a.buf.now l.buf _ a.at _ l.i l.invariant c.write.ensures (omega arith) (omega arith) c.requires
