-- `sums::sums_of` meets its contract. The invariant: the sums are those of the loads passed.
use mathlib.Core.Path.{◌≡◌}
use Prim.Native.Nat.{◌≤◌}
use Rattle.model.specs.Values.{problem_of}
use Rattle.model.specs.Bounds.{most_loads}
use Rattle.sums.specs.Sums.{sums_value}
use Rattle.sums.proofs.PickLaws.{picks_upto}
use Rattle.sums.proofs.sums_of.Given as goal

abbrev pub invariant-loop-k : goal.invariant-loop-k
invariant-loop-k l = (l.book.count ≤ most_loads) × (l.sums ≡ sums_value (picks_upto (problem_of l.book) l.picks l.k))
