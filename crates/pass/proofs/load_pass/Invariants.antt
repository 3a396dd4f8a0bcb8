-- `pass::load_pass` meets its contract. The invariant: the first `row` rows are made and counted. Nothing reaches the rows from `rows` on.
use Prim.Native.Nat.{◌≤◌, ◌*◌}
use mathlib.Core.Path.{◌≡◌}
use mathlib.Core.Bool.{true}
use Rattle.rows.specs.Row.{held}
use Rattle.stretch.specs.Stretch.{EmptyFrom}
use Rattle.pass.specs.Pass.{count_rows, LayerMade}
use Rattle.pass.proofs.load_pass.Given as goal

abbrev pub invariant-loop-row : goal.invariant-loop-row
invariant-loop-row l =
    (l.reached ≤ l.row * l.grid.width)
    × (l.asked ≡ true → l.reached ≡ count_rows l.row l.grid.width (held l.work l.fresh.lows l.fresh.highs l.next l.grid.width))
    × LayerMade l.initial.work l.work l.layer.lows l.layer.highs l.fresh.lows l.fresh.highs l.grid l.cur l.next l.load l.row × EmptyFrom l.fresh.lows l.fresh.highs l.rows
