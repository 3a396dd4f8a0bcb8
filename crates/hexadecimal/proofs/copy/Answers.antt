-- `hexadecimal::copy` meets its contract. The invariant: the bytes passed are written.
use mathlib.Core.Path.{refl, sym}
use Rattle.hexadecimal.proofs.WrittenLaws.{written_none, copied_more}
use borrow.Author.Rules.{rules}
use Rattle.hexadecimal.proofs.copy.Goals as goal

pub loop-i-init : goal.loop-i-init
loop-i-init c = (refl, sym (written_none _ _))

pub loop-i-preserved : goal.loop-i-preserved
loop-i-preserved c =
    let l = c.loop-i in
    (search rules, copied_more c.args.bytes.now c.args.buf.now l.buf c.args.at l.i l.invariant.1 (search rules) c.requires l.invariant.0)
