-- What a caller of the book reader knows of what it gives: a book that was read is held, and a refusal is the caller's own answer.
-- Assumes nothing.
use mathlib.Core.Path.{◌≡◌, refl, sym, ap, subst}
use mathlib.Core.List.{List}
use Prim.Native.Nat.{ℕ, ◌≤◌}
use Rattle.std.specs.Prelude.{Result as Outcome}
use Rattle.std.specs.Prelude.{Ok, Err}
use Rattle.model.specs.declared.Answer.{Answer}
use Rattle.model.specs.declared.Book.{Book}
use Rattle.model.specs.declared.Refusal.{Refusal}
use Rattle.model.specs.declared.Refused.{Refused}
use Rattle.model.specs.Refusals.{Result, refused, done, and_then}
use Rattle.model.specs.Answers.{Output, Writes, refusal_answer}
use Rattle.model.specs.Book.{Problem, read_book}
use Rattle.model.specs.Values.{Held, book_value, problem_of, reading_of}
use Rattle.model.proofs.RefusalLaws.{RefusalMost}
use Rattle.model.proofs.ValidLaws.{book-valid, book_bounded}
use Rattle.model.proofs.ValueLaws.{book-kept}

IsBook : Outcome Book Refused → Type 0
IsBook (Ok v) = Unit {0}
IsBook (Err x) = ⊥

same_book : (v w : Book) → Path (Outcome Book Refused) (Ok v) (Ok w) → v ≡ w
same_book v w e = cc

-- ---- a book

module _ (bytes : List ℕ) (v : Book) (is : Path (Outcome Book Refused) (Ok v) (reading_of (read_book bytes))) where
  pub reading_held : Held v
  unfolding IsBook
  reading_held = go (read_book bytes) refl is
    where
      go : (x : Result Problem) → read_book bytes ≡ x → Path (Outcome Book Refused) (Ok v) (reading_of x) → Held v
      go (refused r line) e q = absurd (subst IsBook q tt)
      go (done b) e q = record { b = b; valid = book-valid bytes b e; is = same_book v (book_value b) q }

  -- the book that was read
  pub reading_is : read_book bytes ≡ done (problem_of v)
  unfolding IsBook
  reading_is = go (read_book bytes) refl is
    where
      go : (x : Result Problem) → read_book bytes ≡ x → Path (Outcome Book Refused) (Ok v) (reading_of x) → read_book bytes ≡ done (problem_of v)
      go (refused r line) e q = absurd (subst IsBook q tt)
      go (done b) e q = subst (λ w. read_book bytes ≡ done (problem_of w)) (sym (same_book v (book_value b) q)) (subst (λ p. read_book bytes ≡ done p) (sym (book-kept bytes b e)) e)

  -- what is made of it
  pub reading_done : {A : Type 0} (f : Problem → Result A) → f (problem_of v) ≡ and_then (read_book bytes) f
  reading_done f = sym (ap (λ x. and_then x f) reading_is)

-- ---- a refusal

module _ (bytes : List ℕ) (v : Refused) (is : Path (Outcome Book Refused) (Err v) (reading_of (read_book bytes))) where
  pub reading_refusal : read_book bytes ≡ refused v.refusal v.line
  unfolding IsBook
  reading_refusal = go (read_book bytes) refl is
    where
      go : (x : Result Problem) → read_book bytes ≡ x → Path (Outcome Book Refused) (Err v) (reading_of x) → read_book bytes ≡ refused v.refusal v.line
      go (refused r line) e q = subst (λ w. read_book bytes ≡ refused w.refusal w.line) (sym (same_refused v (record { refusal = r; line = line }) q)) e
        where
          same_refused : (x y : Refused) → Path (Outcome Book Refused) (Err x) (Err y) → x ≡ y
          same_refused x y e = cc
      go (done b) e q = absurd (subst IsBook (sym q) tt)

  -- what is so of every refusal and its answer is so of this one, whatever would be made of the book
  pub refusal_passed_on : {A : Type 0} (P : Result A → Answer → Type 0) → ((r : Refusal) (line : ℕ) → P (refused r line) (refusal_answer r line))
      → (f : Problem → Result A) (answer : Answer) → answer ≡ refusal_answer v.refusal v.line → P (and_then (read_book bytes) f) answer
  refusal_passed_on P each f answer e =
      subst (λ a. P (and_then (read_book bytes) f) a) (sym e) (subst (λ y. P (and_then y f) (refusal_answer v.refusal v.line)) (sym reading_refusal) (each v.refusal v.line))

  -- and the buffer as before
  pub reading_refused : (f : Problem → Result Output) (buffer : List ℕ) (answer : Answer) → answer ≡ refusal_answer v.refusal v.line
      → Writes (and_then (read_book bytes) f) buffer buffer answer
  reading_refused f buffer =
      refusal_passed_on (λ x a. Writes x buffer buffer a) (λ r line. record { answers = refl; leaves = refl }) f

  -- its line is small
  pub refused-line : v.line ≤ 257
  refused-line = (subst (λ (y : Result Problem). RefusalMost 8 257 y) reading_refusal (book_bounded bytes)).1
