-- The day's result and its words by cases: 18, 19, and the output.
-- Assumes nothing.
use mathlib.Core.Path.{◌≡◌, sym, ap, ◌∙◌}
use mathlib.Core.Bool.{cond}
use mathlib.Core.List.{List, [], ◌∷◌}
use Prim.Native.Nat.{ℕ, ◌<◌, ◌≤◌}
use native.Mathlib.Omega.{arith}
use lib.Dec.{ltb}
use lib.ListN.{length, take, drop, length-append}
use lib.Seq.{take_at}
use borrow.Author.Tests.{lt-ltb, le-ltb}
use Rattle.model.specs.declared.Answer.{Answer}
use Rattle.model.specs.declared.Refusal.TheVariants.{TooManyBooks, OutputTooLong}
use Rattle.model.specs.Bounds.{most_books}
use Rattle.model.specs.Refusals.{done, ◌⇒◌, checked}
use Rattle.model.specs.Answers.{bytes_only, success_answer, refusal_answer, Writes}
use Rattle.model.specs.Day.{books_of, day_output, day_rules, day_of, most_free, day_free_words}
use Rattle.model.proofs.RefusalLaws.{first_here, first_next}
use Rattle.model.proofs.AnswerLaws.{writes-same, refused-writes}
use Rattle.model.proofs.DayLaws.{day_given}
use Rattle.hexadecimal.specs.Written.{written}
use Rattle.hexadecimal.proofs.WrittenLaws.{written_start}

-- what was written lies within the buffer
pub written-within : (blank waiting bytes : List ℕ) (n : ℕ) → waiting ≡ written blank 0 bytes → n ≡ length bytes → n ≤ length waiting
written-within blank waiting bytes n e q = omega (arith, q, ap length (e ∙ written_start blank bytes), length-append bytes (drop (length bytes) blank))

module _ (books : List (List ℕ)) (words : ℕ) (out : List ℕ) (a : Answer) where
  pub many_writes : most_books < length books → a ≡ refusal_answer TooManyBooks 0 → Writes (day_of books words (length out)) out out a
  unfolding day_of day_rules
  many_writes h e =
      refused-writes (day_of books words (length out)) TooManyBooks 0 out a e
      (ap (λ f. checked 0 f (done (bytes_only (day_output words books)))) (first_here TooManyBooks _ (ltb most_books (length books)) (lt-ltb most_books (length books) h)))

  pub long-writes : (n : ℕ) → length books ≤ most_books → n ≡ length (day_output words books) → length out < n → a ≡ refusal_answer OutputTooLong 0
      → Writes (day_of books words (length out)) out out a
  unfolding day_of day_rules
  long-writes n few q h e =
      refused-writes (day_of books words (length out)) OutputTooLong 0 out a e
      (ap (λ f. checked 0 f (done (bytes_only (day_output words books))))
      (first_next TooManyBooks ((ltb (length out) (length (day_output words books)) ⇒ OutputTooLong) ∷ []) (ltb most_books (length books)) (le-ltb most_books (length books) few)
      ∙ first_here OutputTooLong [] (ltb (length out) (length (day_output words books))) (lt-ltb (length out) (length (day_output words books)) (omega (arith, q)))))

  -- the output waits in `waiting`, and is copied from there
  pub given_writes : (n : ℕ) (blank waiting out' : List ℕ) → length books ≤ most_books → n ≡ length (day_output words books) → n ≤ length out
      → waiting ≡ written blank 0 (day_output words books) → out' ≡ written out 0 (take n waiting) → a ≡ success_answer n 0 0
      → Writes (day_of books words (length out)) out out' a
  given_writes n blank waiting out' few q h w c e =
      let o = day_output words books in
      let t : take n waiting ≡ o = ap (take n) (w ∙ written_start blank o) ∙ take_at o (drop (length o) blank) n (sym q) in
      writes-same (sym (day_given words books (length out) few (omega (arith, q))))
      (record { answers = e ∙ ap (λ m. success_answer m 0 0) q; leaves = c ∙ ap (written out 0) t ∙ written_start out o })

-- the words that are needed, where there are not too many books
pub few-free : (input : List ℕ) (words : ℕ) → length (books_of input) ≤ most_books → most_free words (books_of input) ≡ day_free_words input words
unfolding day_free_words
few-free input words h = sym (ap (λ t. cond t 0 (most_free words (books_of input))) (le-ltb most_books (length (books_of input)) h))
