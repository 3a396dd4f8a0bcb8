-- `day::write_books` meets its contract. The invariant: what the books left put out makes the whole.
use Prim.Native.Nat.{◌+◌, ◌-◌}
use lib.ListN.{length}
use Rattle.day.proofs.ProgressLaws.{Progress}
use Rattle.day.proofs.write_books.Given as goal

abbrev pub invariant-loop-from : goal.invariant-loop-from
invariant-loop-from l = Progress l.books l.initial.work l.initial.out l.work l.out l.at l.from

abbrev pub decreases-loop-from : goal.decreases-loop-from
decreases-loop-from l = length l.books + 1 - l.from
