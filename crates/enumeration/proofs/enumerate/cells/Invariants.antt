use Rattle.std.proofs.Common.{◌≤◌}
use Rattle.enumeration.proofs.enumerate.cells.Given as goal

abbrev pub invariant-loop-slot : goal.invariant-loop-slot
invariant-loop-slot l = l.product ≤ 4000000
