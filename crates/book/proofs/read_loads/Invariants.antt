-- `book::read_loads` meets its contract. The invariant: k lines are read, and what is left decides.
use Prim.Native.Nat.{◌≤◌}
use mathlib.Core.Path.{◌≡◌}
use lib.ListN.{length}
use Rattle.model.specs.Bounds.{most_loads}
use Rattle.book.proofs.LoadsLaws.{Read}
use Rattle.book.proofs.read_loads.Given as goal

abbrev pub invariant-loop-k : goal.invariant-loop-k
invariant-loop-k l = (l.at ≤ length l.s) × (length l.loads ≡ most_loads) × Read l.slots l.ratio l.count l.s l.at l.k l.loads
