-- `pass::load_row` meets its contract. An emptied stretch that is offered what each setting brings holds the best of the offers.
use Rattle.pass.proofs.LayerLaws.{opened_room, row_made, row_empty}
use Rattle.pass.proofs.load_row.Goals as goal

pub settings_row-requires-clause-load_room : goal.settings_row-requires-clause-load_room
settings_row-requires-clause-load_room c =
    let q = c.span_of-s.ensures in
    let h = c.if-s.true in
    let f = c.open_row-first.ensures in
    opened_room _ _ _ _ c.requires.grid_fits c.requires.row_lt_rows q c.requires.rows h f c.requires.load_room

pub returns-then-s : goal.returns-then-s
returns-then-s c =
    let q = c.span_of-s.ensures in
    let h = c.if-s.true in
    let f = c.open_row-first.ensures in
    row_made _ _ _ _ c.requires.grid_fits c.requires.row_lt_rows q c.requires.rows h f c.settings_row.ensures c.requires.load_room c.count_if-count.ensures.0 c.count_if-count.ensures.1

pub returns : goal.returns
returns c =
    row_empty _ _ _ _ c.requires.grid_fits c.requires.row_lt_rows c.span_of-s.ensures _ _ _ c.if-s.false
