-- `rows::setting_row` meets its contract. The row and its source row lie within their layers, as the part is what the setting offers.
use Rattle.rows.specs.Row.{Ends}
use Rattle.rows.proofs.MoveLaws.{move_ends, move_rows, move_roomy, move_keys, move_still}
use Rattle.rows.proofs.setting_row.Goals as goal

-- where the pass begins and ends
ends : (c : goal.Then-part) → Ends c.args.grid.now c.args.row c.args.mv c.part_of-part.result
ends c =
    move_ends _ _ _ _ c.requires.grid_fits c.requires.stretches_fit c.requires.row_lt_rows c.requires.move_fits c.part_of-part.ensures c.if-part.true

pub source_cell-from-requires-clause-ends : goal.source_cell-from-requires-clause-ends
source_cell-from-requires-clause-ends c = ends c

pub offer_row-requires-clause-rows : goal.offer_row-requires-clause-rows
offer_row-requires-clause-rows c =
    let p = c.requires in
    rw c.source_cell-from.ensures (move_rows _ _ _ _ p.grid_fits p.stretches_fit p.row_lt_rows p.move_fits c.part_of-part.ensures p.rows c.if-part.true)

pub offer_row-requires-clause-roomy : goal.offer_row-requires-clause-roomy
offer_row-requires-clause-roomy c =
    let p = c.requires in
    rw c.source_cell-from.ensures (move_roomy _ _ _ _ p.grid_fits p.stretches_fit p.row_lt_rows p.move_fits c.part_of-part.ensures p.rows c.if-part.true p.move_room)

pub returns-then-part : goal.returns-then-part
returns-then-part c =
    let q = c.part_of-part.ensures in
    let f = rw c.source_cell-from.ensures at c.offer_row.ensures in
    move_keys _ _ _ _ c.requires.grid_fits c.requires.stretches_fit c.requires.row_lt_rows c.requires.move_fits q c.requires.rows c.if-part.true f

pub returns-else-part : goal.returns-else-part
returns-else-part c =
    move_still _ _ _ _ c.requires.grid_fits c.requires.stretches_fit c.requires.row_lt_rows c.requires.move_fits c.part_of-part.ensures _ _ c.if-part.false
