-- The books of a day one after the other: what is put out for them, and the words that they may change.
-- Assumes nothing.
use mathlib.Core.Path.{◌≡◌, refl, sym, ap, ◌∙◌}
use mathlib.Core.Bool.{true}
use mathlib.Core.List.{List, [], ◌∷◌, ◌++◌}
use Prim.Native.Nat.{ℕ, max, ◌+◌, ◌*◌, ◌-◌, ◌<◌, ◌≤◌}
use native.Mathlib.Nat.{le-max_left, le-max_right}
use native.Mathlib.Omega.{arith}
use lib.ListN.{length, take, drop, length-append}
use lib.Seq.{drop-drop}
use Rattle.model.specs.Bounds.{most_sheet}
use Rattle.model.specs.Calls.{free_words}
use Rattle.model.specs.Trials.{WordsKept}
use Rattle.model.specs.Day.{books_of, book_output, day_output, most_free}
use Rattle.model.proofs.DayLaws.{output_few, outputs_few}
use Rattle.hexadecimal.specs.Written.{written}
use Rattle.hexadecimal.proofs.WrittenLaws.{length-written, written_none, write_on}
use Rattle.day.specs.BookLength.{book_length}
use Rattle.day.proofs.SplitLaws.{end-within, books_left, left_next, left-none}

-- ---- words that are kept

-- a call after another, which may change no further words
kept_then : (n m : ℕ) (a b c : List ℕ) → WordsKept n a b → WordsKept m b c → m ≤ n → WordsKept n a c
kept_then n m a b c h k l =
    record { same_length = k.same_length ∙ h.same_length; kept = sym (past c) ∙ ap (drop (n - m)) k.kept ∙ past b ∙ h.kept }
  where
    past : (xs : List ℕ) → drop (n - m) (drop m xs) ≡ drop n xs
    past xs = let e : m + (n - m) ≡ n = omega arith in drop-drop (n - m) m xs ∙ ap (λ i. drop i xs) e

-- ---- outputs

output_next : (words : ℕ) (book : List ℕ) (books : List (List ℕ)) → day_output words (book ∷ books) ≡ book_output words book ++ day_output words books
unfolding day_output
output_next words book books = refl

output_none : (words : ℕ) → day_output words [] ≡ []
unfolding day_output
output_none words = refl

-- ---- the loop over the books

-- where it stands, before the book that begins at `from`: what the books left put out, written from `at` on, makes the whole
pub record Progress (books work₀ out₀ work out : List ℕ) (at from : ℕ) : Type 0 where
  pub place : from ≤ length books + 1
  pub same_length : length out ≡ length out₀
  pub room : at + length (books_left from books) * most_sheet ≤ length out₀
  pub bytes : written out at (day_output (length work₀) (books_left from books)) ≡ written out₀ 0 (day_output (length work₀) (books_of books))
  pub count : at + length (day_output (length work₀) (books_left from books)) ≡ length (day_output (length work₀) (books_of books))
  pub free : most_free (length work₀) (books_left from books) ≤ most_free (length work₀) (books_of books)
  pub words : WordsKept (most_free (length work₀) (books_of books)) work₀ work

pub progress_none : (books work out : List ℕ) → length (books_of books) * most_sheet ≤ length out → Progress books work out work out 0 0
progress_none books work out h =
    record {
      place = omega arith;
      same_length = refl;
      room = omega arith;
      bytes = refl;
      count = omega arith;
      free = omega arith;
      words = record { same_length = refl; kept = refl };
    }

module _ (books work₀ out₀ work out : List ℕ) (at from : ℕ) (p : Progress books work₀ out₀ work out at from) where
  -- while a book is left there is room for it
  pub room_left : (end : ℕ) → from ≤ length books → end ≡ from + book_length true (drop from books) → at + most_sheet ≤ length out
  room_left end h e = omega (arith, p.room, p.same_length, ap length (left_next from end books h e))

  -- one book more
  pub progress_more : (end n : ℕ) (book work' out' : List ℕ) → from ≤ length books → end ≡ from + book_length true (drop from books)
      → book ≡ take (end - from) (drop from books) → n ≡ length (book_output (length work) book) → out' ≡ written out at (book_output (length work) book)
      → WordsKept (free_words book (length work) most_sheet) work work' → Progress books work₀ out₀ work' out' (at + n) (end + 1)
  progress_more end n book work' out' h e q count bytes words =
      record {
        place = omega (arith, end-within from end books h e);
        same_length = ap length put ∙ length-written out at x (omega (arith, few, p.room, p.same_length, less)) ∙ p.same_length;
        room = omega (arith, p.room, few, less, ap length same);
        bytes =
            write_on out out' at (at + n) x y put (omega (arith, ap length same)) (omega (arith, few, p.room, p.same_length, less, ap length same, outputs_few (length work₀) after))
            ∙ ap (written out at) (sym whole)
            ∙ p.bytes;
        count = omega (arith, p.count, ap length whole, length-append x y, ap length same);
        free = omega (arith, p.free, most, le-max_right (free_words book (length work₀) most_sheet) (most_free (length work₀) after));
        words =
            kept_then (most_free (length work₀) (books_of books)) (free_words book (length work) most_sheet) work₀ work work' p.words words
            (omega (arith, p.free, most, le-max_left (free_words book (length work₀) most_sheet) (most_free (length work₀) after), ap (λ m. free_words book m most_sheet) p.words.same_length));
      }
    where
      after : List (List ℕ)
      after = books_left (end + 1) books

      next : books_left from books ≡ book ∷ after
      next = left_next from end books h e ∙ ap {B = List (List ℕ)} (λ b. b ∷ after) (sym q)

      x : List ℕ
      x = book_output (length work₀) book

      y : List ℕ
      y = day_output (length work₀) after

      same : book_output (length work) book ≡ x
      same = ap (λ m. book_output m book) p.words.same_length

      put : out' ≡ written out at x
      put = bytes ∙ ap (written out at) same

      few : length x ≤ most_sheet
      few = output_few (length work₀) book

      less : length (books_left from books) ≡ length after + 1
      less = ap length next ∙ (omega arith)

      whole : day_output (length work₀) (books_left from books) ≡ x ++ y
      whole = ap (day_output (length work₀)) next ∙ output_next (length work₀) book after

      most : most_free (length work₀) (books_left from books) ≡ max (free_words book (length work₀) most_sheet) (most_free (length work₀) after)
      most = ap (most_free (length work₀)) next

  -- no book is left
  pub progress_all : length books < from → (out ≡ written out₀ 0 (day_output (length work₀) (books_of books))) × (at ≡ length (day_output (length work₀) (books_of books)))
  progress_all h =
      let e : day_output (length work₀) (books_left from books) ≡ [] = ap (day_output (length work₀)) (left-none from books h) ∙ output_none (length work₀) in
      (sym (written_none out at) ∙ ap (written out at) (sym e) ∙ p.bytes, omega (arith, p.count, ap length e))
