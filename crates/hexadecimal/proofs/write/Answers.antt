-- `hexadecimal::write` meets its contract. The invariant: the digits from place i on are written, and `rest` is what is left of x.
use Rattle.hexadecimal.proofs.WrittenLaws.{digits-none, digits_more}
use native.Mathlib.Omega.{arith}
use Rattle.hexadecimal.proofs.write.Goals as goal

pub loop-i-init : goal.loop-i-init
loop-i-init c = let a = c.args in digits-none a.buf.now a.at a.n a.x

pub loop-i-preserved : goal.loop-i-preserved
loop-i-preserved c =
    let a = c.args in
    let l = c.loop-i in
    digits_more a.buf.now a.at a.n a.x l.buf l.i l.rest _ (omega arith) (omega arith) c.requires l.invariant.0 c.digit_of.ensures l.invariant.1
