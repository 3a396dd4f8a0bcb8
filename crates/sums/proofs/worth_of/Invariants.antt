-- `sums::worth_of` meets its contract. The invariant: the worth is that of the loads passed.
use mathlib.Core.Path.{◌≡◌}
use Prim.Native.Nat.{◌≤◌}
use Rattle.model.specs.Choice.{worth_of}
use Rattle.model.specs.Values.{problem_of}
use Rattle.model.specs.Bounds.{most_loads}
use Rattle.sums.proofs.PickLaws.{picks_upto}
use Rattle.sums.proofs.worth_of.Given as goal

abbrev pub invariant-loop-k : goal.invariant-loop-k
invariant-loop-k l = (l.book.count ≤ most_loads) × (l.worth ≡ worth_of (picks_upto (problem_of l.book) l.picks l.k))
