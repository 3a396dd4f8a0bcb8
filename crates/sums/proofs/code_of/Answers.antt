-- `sums::code_of` meets its contract. The invariant: the code is that of the loads from k on.
use mathlib.Core.Path.{◌≡◌, sym, ap, ◌∙◌}
use Prim.Native.Nat.{◌-◌}
use native.Mathlib.Omega.{arith}
use Rattle.model.proofs.HeldLaws.{held-few}
use Rattle.sums.proofs.PickLaws.{code_from, held_pick, held-code-small, held-code}
use Rattle.sums.proofs.code_of.Goals as goal

pub loop-k-init : goal.loop-k-init
loop-k-init c =
    let none : c.args.book.count - c.args.book.count ≡ 0 = omega arith in
    (held-few c.args.book c.requires.held, sym (ap (code_from c.args.picks c.args.book.count) none))

pub overflow_mul-code : goal.overflow_mul-code
overflow_mul-code c =
    let l = c.loop-k in
    omega (arith, held-code-small c.args.book c.requires.held c.args.picks c.requires.picked l.k (omega arith) (omega arith))

pub overflow_add-code : goal.overflow_add-code
overflow_add-code c =
    let l = c.loop-k in
    omega (arith, held-code-small c.args.book c.requires.held c.args.picks c.requires.picked l.k (omega arith) (omega arith), held_pick c.args.book c.requires.held c.args.picks c.requires.picked (l.k - 1) (omega arith))

pub returns : goal.returns
returns c =
    c.loop-k.invariant.1 ∙ held-code c.args.book c.requires.held c.args.picks c.requires.picked c.loop-k.k (omega arith)
