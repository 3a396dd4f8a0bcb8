-- The plain and the strict planner, by the test of the search, over the definitions of model.
use Rattle.std.specs.Prelude.{ℕ, Bool, false, List, [], ◌∷◌, eqb, Ok, Err}
use Rattle.std.specs.Prelude as std
use Rattle.model.specs.declared.Answer.{Answer}
use Rattle.model.specs.declared.Refusal.{Refusal}
use Rattle.model.specs.declared.Refusal.TheVariants.{TooCoarse}
use Rattle.model.specs.Refusals.{Result, done, ◌⇒◌, first, checked, and_then}
use Rattle.model.specs.Book.{Problem}
use Rattle.model.specs.Answers.{Output, refusal_answer}
use Rattle.model.specs.Calls.{fitting, plan_sheet, planner_result, free_words}
use Rattle.model.specs.Strict.{strict_result, strict_free}
use Rattle.scan.specs.declared.Test.{Test}
use Rattle.scan.specs.declared.Test.TheVariants.{Admission, TrueSums}
use Rattle.found.specs.Found.{plan_by}

-- the plan of a book that was read, by the test of the search, after refusals 9 to 11
abbrev pub fitted_plan : Test → ℕ → ℕ → Problem → Result Output
fitted_plan test words room b = and_then (fitting words room b) (plan_sheet (plan_by test))

-- the answer of a call that gave one, or a refusal of no line
abbrev pub answered : std.Result Answer Refusal → Answer
answered (Ok a) = a
answered (Err r) = refusal_answer r 0

-- refusal 20, which only the strict planner gives
abbrev pub coarse : Test → ℕ → Bool
coarse Admission d = false
coarse TrueSums d = eqb d 1

abbrev pub fine_by : Test → Problem → Result Problem
fine_by test b = checked 0 (first ((coarse test b.fineness ⇒ TooCoarse) ∷ [])) (done b)

-- the result of the planner with a test, and how many words it may change
abbrev pub result_by : Test → List ℕ → ℕ → ℕ → Result Output
result_by Admission = planner_result
result_by TrueSums = strict_result

abbrev pub free_by : Test → List ℕ → ℕ → ℕ → ℕ
free_by Admission = free_words
free_by TrueSums = strict_free
