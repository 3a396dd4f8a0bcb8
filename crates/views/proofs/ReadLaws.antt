-- What is made of a book and a sheet that were read.
-- Assumes nothing.
use Prim.Native.Nat.{ℕ}
use mathlib.Core.Path.{◌≡◌, sym, ap, ◌∙◌}
use mathlib.Core.List.{List}
use Rattle.std.specs.Prelude.{Result as Outcome, Ok, Err, None}
use Rattle.model.specs.declared.Answer.{Answer}
use Rattle.model.specs.declared.Book.{Book}
use Rattle.model.specs.declared.Refused.{Refused}
use Rattle.model.specs.declared.Refusal.TheVariants.{ForeignSheet}
use Rattle.model.specs.Refusals.{Result, refused, done, and_then}
use Rattle.model.specs.Answers.{Output, refusal_answer, Writes}
use Rattle.model.specs.Book.{read_book}
use Rattle.model.specs.Choice.{Choice}
use Rattle.model.specs.Values.{reading_of, choice_of, problem_of}
use Rattle.model.specs.Views.{Accepted, accepted_for, accepted}
use Rattle.model.proofs.AnswerLaws.{refused-writes}
use Rattle.model.proofs.ReadingLaws.{reading_held, reading_done, reading_refusal}
use Rattle.chosen.specs.declared.OnSheet.{OnSheet}
use Rattle.chosen.specs.Chosen.{Stated, ChoiceOn}
use Rattle.chosen.proofs.SheetChoiceLaws.{then_foreign, then_read}
use Rattle.views.specs.declared.SheetRead.{SheetRead}
use Rattle.views.specs.Read.{Accepts}

-- ---- the book and the sheet

module _ (book sheet : List ℕ) where
  pub book-refused : (x : Refused) → Path (Outcome Book Refused) (Err x) (reading_of (read_book book)) → accepted book sheet ≡ refused x.refusal x.line
  unfolding accepted
  book-refused x is = ap (λ y. and_then y (accepted_for sheet)) (reading_refusal book x is)

  module _ (v : Book) (is : Path (Outcome Book Refused) (Ok v) (reading_of (read_book book))) where
    abbrev with_choice : Choice → Result Accepted
    with_choice c = done (record { b = problem_of v; choice = c })

    pub sheet-foreign : ChoiceOn sheet (problem_of v) None → accepted book sheet ≡ refused ForeignSheet 0
    unfolding accepted
    sheet-foreign foreign = sym (then_foreign sheet (problem_of v) with_choice foreign ∙ reading_done book v is (accepted_for sheet))

    pub both_accepted : (on : OnSheet) → Stated sheet (problem_of v) on → Accepts book sheet (record { book = v; picks = on.picks })
    unfolding accepted
    both_accepted on choice =
        record {
          held = reading_held book v is;
          picked = choice.picked;
          is = sym (then_read sheet (problem_of v) with_choice on choice ∙ reading_done book v is (accepted_for sheet));
        }

-- what is made of both
module _ (book sheet : List ℕ) (f : Accepted → Result Output) where
  pub refused_view : (x : Refused) → accepted book sheet ≡ refused x.refusal x.line → (buffer : List ℕ) (answer : Answer) → answer ≡ refusal_answer x.refusal x.line
      → Writes (and_then (accepted book sheet) f) buffer buffer answer
  refused_view x r buffer answer e = refused-writes (and_then (accepted book sheet) f) x.refusal x.line buffer answer e (ap (λ y. and_then y f) r)

  pub accepted_then : (v : SheetRead) → Accepts book sheet v
      → f (record { b = problem_of v.book; choice = choice_of (problem_of v.book) v.picks }) ≡ and_then (accepted book sheet) f
  accepted_then v a = sym (ap (λ x. and_then x f) a.is)
