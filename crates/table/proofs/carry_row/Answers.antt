-- `table::carry_row` meets its contract.
use Rattle.table.proofs.WordLaws.{carried}
use Rattle.table.proofs.carry_row.Goals as goal

pub returns : goal.returns
returns c =
    carried _ _ _ _ _ c.requires.count_bound.0 c.copy_row.ensures c.clear.ensures
    c.clear-2.ensures
