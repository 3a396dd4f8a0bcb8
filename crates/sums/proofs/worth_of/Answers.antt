-- `sums::worth_of` meets its contract. The invariant: the worth is that of the loads passed.
use mathlib.Core.Path.{refl, ◌∙◌}
use Rattle.model.specs.Choice.{worth_of}
use Rattle.model.proofs.HeldLaws.{no_load, held-few}
use borrow.Author.Rules.{rules}
use native.Mathlib.Omega.{arith}
use Rattle.sums.proofs.PickLaws.{held_pick, held-worth, held-worth-small, held_all}
use Rattle.sums.proofs.worth_of.Goals as goal

pub loop-k-init : goal.loop-k-init
loop-k-init c = (held-few c.args.book c.requires.held, refl)

pub offset_bounds-load-c : goal.offset_bounds-load-c
offset_bounds-load-c c =
    omega (arith, held_pick c.args.book c.requires.held c.args.picks c.requires.picked c.loop-k.k (omega arith))

pub bounds-load-c : goal.bounds-load-c
bounds-load-c c =
    omega (arith, held_pick c.args.book c.requires.held c.args.picks c.requires.picked c.loop-k.k (omega arith))

pub overflow_add-worth : goal.overflow_add-worth
overflow_add-worth c =
    let l = c.loop-k in
    omega (arith, held-worth c.args.book c.requires.held c.args.picks c.requires.picked l.k no_load (omega arith) l.worth l.invariant.1, held-worth-small c.args.book c.requires.held c.args.picks c.requires.picked l.k no_load (omega arith))

pub loop-k-preserved : goal.loop-k-preserved
loop-k-preserved c =
    let l = c.loop-k in
    (search rules, held-worth c.args.book c.requires.held c.args.picks c.requires.picked l.k no_load (omega arith) l.worth l.invariant.1)

pub returns : goal.returns
returns c =
    c.loop-k.invariant.1 ∙ held_all c.args.book c.requires.held c.args.picks c.requires.picked worth_of c.loop-k.k (omega arith)
