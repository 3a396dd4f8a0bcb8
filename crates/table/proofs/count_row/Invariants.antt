-- `table::count_row` meets its contract. The invariant: `count` is the number of reached cells among the first j.
use Prim.Native.Nat.{◌≤◌}
use mathlib.Core.Path.{◌≡◌}
use Rattle.model.specs.Cells.{count_upto}
use Rattle.table.specs.Table.{reached}
use Rattle.table.proofs.count_row.Given as goal

abbrev pub invariant-loop-j : goal.invariant-loop-j
invariant-loop-j l = (l.count ≤ l.j) × (l.count ≡ count_upto l.j (reached l.work l.at))
