-- `table::copy_row` meets its contract. The invariant: the first j cells are copied, and every other cell is as it was.
use Rattle.table.proofs.WordLaws.{copied_more}
use Rattle.table.proofs.copy_row.Goals as goal

pub loop-j-preserved : goal.loop-j-preserved
loop-j-preserved c = search copied_more
