-- `table::clear` meets its contract. The invariant: the first j cells are empty, and every other cell is as it was.
use Rattle.table.specs.Table.{Filled, no_cell}
use Rattle.table.proofs.clear.Given as goal

abbrev pub invariant-loop-j : goal.invariant-loop-j
invariant-loop-j l = Filled l.initial.work l.work l.at l.j no_cell
