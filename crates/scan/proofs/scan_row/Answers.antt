-- `scan::scan_row` meets its contract. The invariant: `best` is the best of `first` and of the cells before column col that pass.
use mathlib.Core.Path.{◌∙◌, ap}
use Rattle.model.specs.Values.{problem_of}
use Rattle.table.specs.Table.{key_of}
use Rattle.scan.specs.Scan.{test_of}
use Rattle.scan.proofs.BestLaws.{row_start, row_next, row_less, row_past, cell_in_row}
use Rattle.scan.proofs.scan_row.Goals as goal
use Rattle.scan.proofs.scan_row.Goals.{then-best-worth, else-best-worth}

pub loop-col-init : goal.loop-col-init
loop-col-init c =
    let a = c.args in
    row_start (test_of a.test (problem_of a.book)) a.work.now a.at a.low a.high a.row (key_of a.first)

pub better_at-best-requires-clause-coded : goal.better_at-best-requires-clause-coded
better_at-best-requires-clause-coded c =
    let a = c.args in
    let l = c.loop-col in
    let k = c.loop-col-test.true in
    cell_in_row (problem_of a.book) a.work.now a.at a.low a.high l.col c.requires.row_coded c.loop-col.auto.col k

pub loop-col-preserved : goal.loop-col-preserved
loop-col-preserved c =
    let a = c.args in
    let l = c.loop-col in
    let k = c.loop-col-test.true in
    let t = test_of a.test (problem_of a.book) in
    elim c.if-best-worth.branch [
      | then-best-worth w ↦ ap key_of w.best-is ∙ row_next t a.work.now a.at a.low a.high a.row (key_of a.first) l.col l.auto.col k l.invariant w.better_at-best.ensures
      | else-best-worth w ↦ ap key_of w.best-is ∙ row_less t a.work.now a.at a.low a.high a.row (key_of a.first) l.col l.best l.auto.col k l.invariant w.if-best-worth.false
    ]

pub returns : goal.returns
returns c =
    let a = c.args in
    let l = c.loop-col in
    λ width k. row_past (test_of a.test (problem_of a.book)) a.work.now a.at a.low a.high a.row (key_of a.first) l.col width c.loop-col-test.false k l.invariant
