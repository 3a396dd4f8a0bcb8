-- `search::run_loads` meets its contract. The invariant: the layer, the reached cells and the trials are those of the first k loads.
use Prim.Native.Nat.{◌≤◌, ◌*◌}
use mathlib.Core.Path.{◌≡◌}
use lib.ListN.{length}
use Rattle.model.specs.Bounds.{most_rows}
use Rattle.stretch.specs.Stretch.{EmptyFrom}
use Rattle.search.specs.Search.{Modelled, Run}
use Rattle.search.proofs.run_loads.Given as goal

abbrev pub invariant-loop-k : goal.invariant-loop-k
invariant-loop-k l =
    (l.trials ≤ l.k * 4194304) × (length l.fresh.lows ≡ most_rows) × (length l.fresh.highs ≡ most_rows)
    × (l.used ≤ l.grid.rows) × EmptyFrom l.layer.lows l.layer.highs l.used × EmptyFrom l.fresh.lows l.fresh.highs l.used
    × ((m : Modelled l.grid l.n l.moves) → Run l.initial.work l.work l.layer.lows l.layer.highs l.grid l.n l.moves m l.k l.cur l.reached l.trials)
