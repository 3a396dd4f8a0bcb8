-- `day::book_end` meets its contract. The invariant: what is left has the rest of the book.
use Prim.Native.Nat.{◌+◌}
use mathlib.Core.Bool.{true}
use mathlib.Core.Path.{◌≡◌}
use lib.ListN.{drop}
use Rattle.day.specs.BookLength.{book_length}
use Rattle.day.proofs.book_end.Given as goal

abbrev pub invariant-loop-at : goal.invariant-loop-at
invariant-loop-at l = l.at + book_length l.starts (drop l.at l.books) ≡ l.from + book_length true (drop l.from l.books)
