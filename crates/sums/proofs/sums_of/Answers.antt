-- `sums::sums_of` meets its contract. The invariant: the sums are those of the loads passed.
use mathlib.Core.Path.{◌∙◌}
use Rattle.model.proofs.HeldLaws.{held-few}
use Rattle.sums.specs.Sums.{sums_value}
use borrow.Author.Rules.{rules}
use native.Mathlib.Omega.{arith}
use Rattle.sums.proofs.PickLaws.{held_can_add, held-sums, held_all}
use Rattle.sums.proofs.sums_of.Goals as goal

pub loop-k-init : goal.loop-k-init
loop-k-init c = (held-few c.args.book c.requires.held, c.none-sums.ensures)

pub plus-sums-requires : goal.plus-sums-requires
plus-sums-requires c =
    let l = c.loop-k in
    held_can_add c.args.book c.requires.held c.args.picks c.requires.picked l.k _ (omega arith) l.sums l.invariant.1

pub loop-k-preserved : goal.loop-k-preserved
loop-k-preserved c =
    let l = c.loop-k in
    (search rules, c.plus-sums.ensures ∙ held-sums c.args.book c.requires.held c.args.picks c.requires.picked l.k _ (omega arith) l.sums l.invariant.1)

pub returns : goal.returns
returns c =
    c.loop-k.invariant.1 ∙ held_all c.args.book c.requires.held c.args.picks c.requires.picked sums_value c.loop-k.k (omega arith)
