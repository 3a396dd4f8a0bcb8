-- The planner's result by cases: what is read of the book, refusal 20, each refusal of 9 to 12, 17, and the plan's sheet.
-- Assumes nothing.
use mathlib.Core.Path.{◌≡◌, refl, sym, ap, ◌∙◌}
use mathlib.Core.Bool.{true, false}
use mathlib.Core.List.{List, []}
use Prim.Native.Nat.{ℕ}
use Rattle.std.specs.Prelude.{Ok, Result as Outcome}
use Rattle.model.specs.declared.Book.{Book}
use Rattle.model.specs.declared.Refused.{Refused}
use Rattle.model.specs.declared.Refusal.TheVariants.{TooCoarse}
use Rattle.model.specs.Refusals.{Result, refused, done, first, checked, and_then}
use Rattle.model.specs.Book.{Problem, read_book}
use Rattle.model.specs.Calls.{size_rules, fitting, fitting_book, plan_sheet, planner_result, free_for, free_words}
use Rattle.model.specs.Answers.{Output}
use Rattle.model.specs.Strict.{fine, strict_book, strict_result, strict_free}
use Rattle.model.specs.Values.{problem_of, reading_of}
use Rattle.model.proofs.RefusalLaws.{first_here, first_last}
use Rattle.model.proofs.ReadingLaws.{reading_done}
use Rattle.scan.specs.declared.Test.{Test}
use Rattle.scan.specs.declared.Test.TheVariants.{Admission, TrueSums}
use Rattle.found.specs.Found.{plan_by}
use Rattle.planner.specs.Planner.{fitted_plan, coarse, fine_by, result_by, free_by}

module _ {A B C : Type 0} where
  then_assoc : (x : Result A) (f : A → Result B) (g : B → Result C) → and_then (and_then x f) g ≡ and_then x (λ a. and_then (f a) g)
  then_assoc (refused r number) f g = refl
  then_assoc (done a) f g = refl

-- the plan of the book that is left after some refusals
fitted_is : (test : Test) (words room : ℕ) (x : Result Problem)
    → and_then (and_then x (fitting words room)) (plan_sheet (plan_by test)) ≡ and_then x (fitted_plan test words room)
fitted_is test words room x = then_assoc x (fitting words room) (plan_sheet (plan_by test))

-- ---- by what is read of the book

module _ (words room : ℕ) where
  -- of a book that was read: the book after 20 and 9 to 11, and the result
  abbrev pub fine_fitting : Test → Problem → Result Problem
  fine_fitting test b = and_then (fine_by test b) (fitting words room)

  abbrev pub fine_plan : Test → Problem → Result Output
  fine_plan test b = and_then (fine_by test b) (fitted_plan test words room)

  pub result_is : (test : Test) (book : List ℕ) → result_by test book words room ≡ and_then (read_book book) (fine_plan test)
  unfolding planner_result fitting_book strict_result strict_book first
  result_is Admission book = fitted_is Admission words room (read_book book)
  result_is TrueSums book = fitted_is TrueSums words room (and_then (read_book book) fine) ∙ then_assoc (read_book book) fine (fitted_plan TrueSums words room)

  pub free-is : (test : Test) (book : List ℕ) → free_by test book words room ≡ free_for (and_then (read_book book) (fine_fitting test))
  unfolding free_words fitting_book strict_free strict_book first
  free-is Admission book = refl
  free-is TrueSums book = ap free_for (then_assoc (read_book book) fine (fitting words room))

-- refusal 20
module _ (test : Test) (v : Book) where
  pub too_coarse : coarse test v.fineness ≡ true → fine_by test (problem_of v) ≡ refused TooCoarse 0
  unfolding problem_of
  too_coarse e = ap (λ f. checked 0 f (done (problem_of v))) (first_here TooCoarse [] (coarse test v.fineness) e)

  pub fine_enough : coarse test v.fineness ≡ false → fine_by test (problem_of v) ≡ done (problem_of v)
  unfolding problem_of
  fine_enough e = ap (λ f. checked 0 f (done (problem_of v))) (first_last TooCoarse (coarse test v.fineness) e)

-- the book is fine enough: what is made of it is the call's result, and so are the words
module _ (words room : ℕ) (test : Test) (book : List ℕ) (v : Book) (is : Path (Outcome Book Refused) (Ok v) (reading_of (read_book book))) (fine : coarse test v.fineness ≡ false) where
  pub fitted_result : fitted_plan test words room (problem_of v) ≡ result_by test book words room
  fitted_result =
      sym (ap (λ x. and_then x (fitted_plan test words room)) (fine_enough test v fine))
      ∙ reading_done book v is (fine_plan words room test)
      ∙ sym (result_is words room test book)

  pub fitted-free : free_for (fitting words room (problem_of v)) ≡ free_by test book words room
  fitted-free =
      ap free_for (sym (ap (λ x. and_then x (fitting words room)) (fine_enough test v fine)) ∙ reading_done book v is (fine_fitting words room test))
      ∙ sym (free-is words room test book)

-- past refusals 9 to 11 the plan decides
pub fitting-plan : (test : Test) (words room : ℕ) (b : Problem) → first (size_rules b words room) ≡ Ok tt → fitted_plan test words room b ≡ plan_sheet (plan_by test) b
fitting-plan test words room b e = ap (λ f. and_then (checked 0 f (done b)) (plan_sheet (plan_by test))) e
