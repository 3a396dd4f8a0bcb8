-- `table::offer_row` meets its contract. The invariant: the first j cells were offered their choice, and every other cell is as it was.
use Rattle.table.proofs.WordLaws.{source_room, offered-more_row}
use Rattle.table.proofs.offer_row.Goals as goal

pub offer_cell-requires-clause-room : goal.offer_cell-requires-clause-room
offer_cell-requires-clause-room c = search source_room

pub loop-j-preserved : goal.loop-j-preserved
loop-j-preserved c = search offered-more_row
