-- `scan::scan_row` meets its contract. The invariant: `best` is the best of `first` and of the cells before column col that pass.
use mathlib.Core.Path.{◌≡◌}
use Rattle.model.specs.Cells.{join, join_upto}
use Rattle.model.specs.Values.{problem_of}
use Rattle.table.specs.Table.{key_of}
use Rattle.scan.specs.Scan.{test_of, passed_in}
use Rattle.scan.proofs.scan_row.Given as goal

abbrev pub invariant-loop-col : goal.invariant-loop-col
invariant-loop-col l =
    (key_of l.best ≡ join (key_of l.initial.best) (join_upto l.col (passed_in (test_of l.test (problem_of l.book)) l.work l.at l.low l.high l.row)))
