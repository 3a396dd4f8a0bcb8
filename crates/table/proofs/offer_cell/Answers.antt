-- `table::offer_cell` meets its contract.
use mathlib.Core.Path.{sym, ap, ◌∙◌}
use Rattle.table.specs.Table.{offered_at}
use Rattle.table.proofs.WordLaws.{offered-none}
use Rattle.table.proofs.offer_cell.Goals as goal

pub returns-then-src-eq0 : goal.returns-then-src-eq0
returns-then-src-eq0 c =
    let a = c.args in
    let g = c.get-src in
    offered-none a.work.now a.from a.to a.gain a.digit (ap (λ x. x.worth) (sym g.ensures) ∙ c.if-src-eq0.true)

pub returns : goal.returns
unfolding offered_at
returns c = cc
