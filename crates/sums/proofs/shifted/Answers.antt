-- `sums::shifted` meets its contract. The invariant: the entries of the slots passed are filled.
use Rattle.model.proofs.UptoLaws.{fill_all}
use Rattle.sums.specs.Sums.{shifted_in, shifted}
use native.Mathlib.Omega.{arith}
use Rattle.sums.proofs.shifted.Goals as goal

pub returns : goal.returns
unfolding shifted
returns c =
    let l = c.loop-s in
    let a = c.args in
    fill_all (shifted_in a.sums a.powers a.c a.less a.from) l.next 4 l.s l.invariant.0 (omega arith) (omega arith) l.invariant.1
