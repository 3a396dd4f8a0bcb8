-- `table::clear` meets its contract. The invariant: the first j cells are empty, and every other cell is as it was.
use native.Mathlib.Omega.{arith}
use Rattle.table.specs.Table.{no_cell, empty}
use Rattle.table.proofs.WordLaws.{filled_more}
use Rattle.table.proofs.clear.Goals as goal

pub loop-j-preserved : goal.loop-j-preserved
unfolding empty no_cell
loop-j-preserved c = filled_more c.loop-j.invariant (omega arith) c.put.ensures
