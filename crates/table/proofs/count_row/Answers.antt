-- `table::count_row` meets its contract. The invariant: `count` is the number of reached cells among the first j.
use native.Mathlib.Omega.{arith}
use Rattle.table.proofs.WordLaws.{counted-more}
use Rattle.table.proofs.count_row.Goals as goal

pub loop-j-preserved : goal.loop-j-preserved
loop-j-preserved c = (omega arith, search counted-more)
