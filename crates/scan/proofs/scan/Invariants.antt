-- `scan::scan` meets its contract. The invariant: `best` is the best of the cells of the rows before `row` that pass.
use mathlib.Core.Path.{◌≡◌}
use Rattle.model.specs.Values.{problem_of}
use Rattle.table.specs.Table.{key_of}
use Rattle.scan.specs.Scan.{test_of}
use Rattle.scan.proofs.ScanLaws.{best_of_rows}
use Rattle.scan.proofs.scan.Given as goal

abbrev pub invariant-loop-row : goal.invariant-loop-row
invariant-loop-row l =
    (key_of l.best ≡ best_of_rows (test_of l.test (problem_of l.book)) l.work l.layer.lows l.layer.highs l.cur l.width l.row)
