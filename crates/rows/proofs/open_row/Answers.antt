-- `rows::open_row` meets its contract.
use Prim.Native.Nat.{◌+◌, ◌-◌, ◌*◌, ◌<◌, ◌≤◌}
use mathlib.Core.Path.{◌≡◌}
use native.Mathlib.Omega.{arith}
use Rattle.stretch.specs.Stretch.{move_of}
use Rattle.rows.specs.Row.{Ends}
use Rattle.rows.proofs.MoveLaws.{move_ends, move_rows}
use Rattle.rows.proofs.OpenLaws.{part_inside, opened_empty, opened_copied, clear_room}
use Rattle.rows.proofs.open_row.Goals as goal

-- where the copy begins and ends, and that it lies within the stretch
ends : (c : goal.Then-part) → Ends c.args.grid.now c.args.row (move_of c.args.load 0) c.part_of-part.result
ends c =
    let still : (0 < c.args.load.count) × ((move_of c.args.load 0).gain ≡ 0) × ((move_of c.args.load 0).digit ≡ 0) = c.adds_no_key.ensures c.if-adds_no_key.true in
    move_ends _ _ _ _ c.requires.grid_fits c.requires.stretches_fit c.requires.row_lt_rows (c.requires.load_fits.each 0 (still).0) c.part_of-part.ensures c.if-part.true

pub source_cell-from-requires-clause-ends : goal.source_cell-from-requires-clause-ends
source_cell-from-requires-clause-ends c =
    let still : (0 < c.args.load.count) × ((move_of c.args.load 0).gain ≡ 0) × ((move_of c.args.load 0).digit ≡ 0) = c.adds_no_key.ensures c.if-adds_no_key.true in
    ends c

pub overflow_sub-part : goal.overflow_sub-part
overflow_sub-part c =
    let still : (0 < c.args.load.count) × ((move_of c.args.load 0).gain ≡ 0) × ((move_of c.args.load 0).digit ≡ 0) = c.adds_no_key.ensures c.if-adds_no_key.true in
    let within : (c.args.s.low ≤ c.part_of-part.result.low) × (c.part_of-part.result.high ≤ c.args.s.high) = part_inside _ _ _ _ c.requires.spans (still).0 _ c.part_of-part.ensures c.if-part.true in
    omega (arith, within)

pub carry_row-requires-clause-rows : goal.carry_row-requires-clause-rows
carry_row-requires-clause-rows c =
    let still : (0 < c.args.load.count) × ((move_of c.args.load 0).gain ≡ 0) × ((move_of c.args.load 0).digit ≡ 0) = c.adds_no_key.ensures c.if-adds_no_key.true in
    let within : (c.args.s.low ≤ c.part_of-part.result.low) × (c.part_of-part.result.high ≤ c.args.s.high) = part_inside _ _ _ _ c.requires.spans (still).0 _ c.part_of-part.ensures c.if-part.true in
    let a = c.args in
    let part = c.part_of-part.result in
    let room = clear_room _ _ _ _ c.requires.grid_fits c.requires.row_lt_rows c.requires.spans c.requires.rows c.requires.low_lt_high.0 in
    let e : a.at + (part.low - a.s.low) ≡ a.next + a.row * a.grid.now.width + part.low = omega (arith, within) in
    let r = move_rows _ _ _ _ c.requires.grid_fits c.requires.stretches_fit c.requires.row_lt_rows (c.requires.load_fits.each 0 (still).0) c.part_of-part.ensures c.requires.rows c.if-part.true in
    rw (c.source_cell-from.ensures, e) r

pub carry_row-requires-clause-count_bound : goal.carry_row-requires-clause-count_bound
carry_row-requires-clause-count_bound c =
    let still : (0 < c.args.load.count) × ((move_of c.args.load 0).gain ≡ 0) × ((move_of c.args.load 0).digit ≡ 0) = c.adds_no_key.ensures c.if-adds_no_key.true in
    let within : (c.args.s.low ≤ c.part_of-part.result.low) × (c.part_of-part.result.high ≤ c.args.s.high) = part_inside _ _ _ _ c.requires.spans (still).0 _ c.part_of-part.ensures c.if-part.true in
    let a = c.args in
    let part = c.part_of-part.result in
    let room = clear_room _ _ _ _ c.requires.grid_fits c.requires.row_lt_rows c.requires.spans c.requires.rows c.requires.low_lt_high.0 in
    let e : a.at + (part.low - a.s.low) ≡ a.next + a.row * a.grid.now.width + part.low = omega (arith, within) in
    let r = move_rows _ _ _ _ c.requires.grid_fits c.requires.stretches_fit c.requires.row_lt_rows (c.requires.load_fits.each 0 (still).0) c.part_of-part.ensures c.requires.rows c.if-part.true in
    (omega (arith, within), omega (arith, room))

pub returns-then-part : goal.returns-then-part
returns-then-part c =
    let still : (0 < c.args.load.count) × ((move_of c.args.load 0).gain ≡ 0) × ((move_of c.args.load 0).digit ≡ 0) = c.adds_no_key.ensures c.if-adds_no_key.true in
    let ends : Ends c.args.grid.now c.args.row (move_of c.args.load 0) c.part_of-part.result = move_ends _ _ _ _ c.requires.grid_fits c.requires.stretches_fit c.requires.row_lt_rows (c.requires.load_fits.each 0 (still).0) c.part_of-part.ensures c.if-part.true in
    let n = still in
    opened_copied _ _ _ _ c.requires.spans _ _ _ c.requires.low_lt_high.1 n.0 n.1 n.2 c.requires.stretches_fit c.requires.row_lt_rows _ c.part_of-part.ensures
    c.if-part.true (ends) _ c.source_cell-from.ensures c.carry_row.ensures

pub returns : goal.returns
returns c =
    opened_empty _ _ _ _ c.requires.spans _ _ _ c.requires.low_lt_high.1 c.clear.ensures
