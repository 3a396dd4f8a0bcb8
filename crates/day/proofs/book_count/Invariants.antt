-- `day::book_count` meets its contract. The invariant: the books counted and those left are all.
use Prim.Native.Nat.{◌+◌, ◌≤◌, ◌-◌}
use mathlib.Core.Path.{◌≡◌}
use lib.ListN.{length}
use Rattle.model.specs.Day.{books_of}
use Rattle.day.proofs.SplitLaws.{books_left}
use Rattle.day.proofs.book_count.Given as goal

abbrev pub invariant-loop-from : goal.invariant-loop-from
invariant-loop-from l =
    (l.count ≤ l.from) × (l.from ≤ length l.books + 1) × (l.count + length (books_left l.from l.books) ≡ length (books_of l.books))

abbrev pub decreases-loop-from : goal.decreases-loop-from
decreases-loop-from l = length l.books + 1 - l.from
