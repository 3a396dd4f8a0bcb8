-- `scan::scan` meets its contract. The invariant: `best` is the best of the cells of the rows before `row` that pass.
use Prim.Native.Nat.{◌+◌, ◌*◌, ◌≤◌}
use native.Mathlib.Omega.{arith}
use lib.ListN.{get_or, length}
use Rattle.model.specs.Values.{problem_of}
use Rattle.scan.specs.Scan.{test_of}
use Rattle.scan.proofs.ScanLaws.{rows_none, rows_more, rows_all, row_coded, row_room}
use Rattle.scan.proofs.scan.Goals as goal

pub loop-row-init : goal.loop-row-init
loop-row-init c =
    let a = c.args in
    rows_none (test_of a.test (problem_of a.book)) a.work.now a.layer.now.lows a.layer.now.highs a.cur a.grid.width

-- the row's cells lie within the words
room : (c : goal.After-high-1) → 2 * (c.args.cur + c.loop-row.row * c.args.grid.width + get_or c.args.layer.now.highs c.loop-row.row 0) ≤ length c.args.work.now
room c =
    let l = c.loop-row in
    let t = c.loop-row-test.true in
    row_room l.row c.args.cur c.args.grid c.requires.grid_fits c.requires.cells_in_bounds t (c.requires.stretches_fit.high_fits l.row t)

pub scan_row-best-requires-clause-row_coded : goal.scan_row-best-requires-clause-row_coded
scan_row-best-requires-clause-row_coded c =
    let a = c.args in
    let l = c.loop-row in
    let t = c.loop-row-test.true in
    row_coded (problem_of a.book) a.work.now a.layer.now.lows a.layer.now.highs a.grid a.cur l.row c.requires.layer_coded t (c.requires.stretches_fit.high_fits l.row t)

pub loop-row-preserved : goal.loop-row-preserved
loop-row-preserved c =
    let a = c.args in
    let l = c.loop-row in
    rows_more (test_of a.test (problem_of a.book)) a.work.now a.layer.now.lows a.layer.now.highs a.cur a.grid.width l.row l.invariant
    (c.scan_row-best.ensures a.grid.width (c.requires.stretches_fit.high_fits l.row c.loop-row-test.true))

pub returns : goal.returns
returns c =
    let a = c.args in
    let l = c.loop-row in
    rows_all (test_of a.test (problem_of a.book)) a.work.now a.layer.now.lows a.layer.now.highs a.grid a.cur l.row c.loop-row-test.false (omega arith) l.invariant
