-- `chosen::picks_on` meets its contract. The invariant: the numbers of the loads passed stand in the array.
use Prim.Native.Nat.{◌≤◌}
use Rattle.model.specs.Bounds.{most_loads}
use Rattle.model.specs.Values.{problem_of}
use Rattle.chosen.proofs.SheetChoiceLaws.{ReadUpto}
use Rattle.chosen.proofs.picks_on.Given as goal

abbrev pub invariant-loop-k : goal.invariant-loop-k
invariant-loop-k l = (l.book.count ≤ most_loads) × ReadUpto l.sheet (problem_of l.book) l.k l.picks
