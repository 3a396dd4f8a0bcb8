-- `table::copy_row` meets its contract. The invariant: the first j cells are copied, and every other cell is as it was.
use Rattle.table.specs.Table.{Filled, copied_row}
use Rattle.table.proofs.copy_row.Given as goal

abbrev pub invariant-loop-j : goal.invariant-loop-j
invariant-loop-j l = Filled l.initial.work l.work l.to l.j (copied_row l.initial.work l.from)
