-- `day::book_count` meets its contract. The invariant: the books counted and those left are all.
use Prim.Native.Nat.{ℕ, suc, ◌+◌, ◌≤◌}
use mathlib.Core.Path.{◌≡◌, ap}
use mathlib.Core.List.{List}
use lib.ListN.{length}
use Rattle.day.proofs.SplitLaws.{end-within, books_left, left_next, left-none}
use native.Mathlib.Omega.{arith}
use Rattle.day.proofs.book_count.Goals as goal

-- the end of the next book, and the books after it
module _ (c : goal.After-book_end-from) where
  abbrev books : List ℕ
  books = c.args.books.now

  abbrev from : ℕ
  from = c.loop-from.from

  within : (from ≤ c.book_end-from.result) × (c.book_end-from.result ≤ length books)
  within = end-within from c.book_end-from.result books (omega arith) c.book_end-from.ensures

  one_less : length (books_left from books) ≡ suc (length (books_left (c.book_end-from.result + 1) books))
  one_less = ap length (left_next from c.book_end-from.result books (omega arith) c.book_end-from.ensures)

pub overflow_add-from : goal.overflow_add-from
overflow_add-from c = omega (arith, within c)

pub loop-from-preserved : goal.loop-from-preserved
loop-from-preserved c = (omega (arith, within c), omega (arith, within c), omega (arith, one_less c))

pub returns : goal.returns
returns c = let l = c.loop-from in omega (arith, ap length (left-none l.from c.args.books.now (omega arith)))
