-- `table::offer_row` meets its contract. The invariant: the first j cells were offered their choice, and every other cell is as it was.
use Rattle.table.specs.Table.{Filled, offered_row}
use Rattle.table.proofs.offer_row.Given as goal

abbrev pub invariant-loop-j : goal.invariant-loop-j
invariant-loop-j l = Filled l.initial.work l.work l.to l.j (offered_row l.initial.work l.from l.to l.gain l.digit)
