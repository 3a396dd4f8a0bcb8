-- From what the search found to the plan's sheet.
-- Assumes nothing.
use mathlib.Core.Path.{◌≡◌, refl, ap, sym, subst, ◌∙◌}
use mathlib.Core.Bool.{Bool, true, false, cond}
use mathlib.Core.List.{List, [], ◌∷◌}
use mathlib.Core.Option.{Option, none, some}
use Prim.Native.Nat.{ℕ}
use lib.Dec.{ltb}
use lib.ListN.{take}
use Rattle.std.specs.Prelude as std
use Rattle.std.specs.Prelude.{Ok, Err, Some, None, Result as Outcome}
use Rattle.model.specs.declared.Book.{Book}
use Rattle.model.specs.declared.Refusal.{Refusal}
use Rattle.model.specs.declared.Refusal.TheVariants.{BudgetExceeded, NoPlan}
use Rattle.model.specs.Refusals.{Result, refused, done, ◌⇒◌, first, checked}
use Rattle.model.specs.Book.{Problem}
use Rattle.model.specs.Choice.{Choice, IsChoice, code_of, decode}
use Rattle.model.specs.Trials.{trials}
use Rattle.model.specs.Sheet.{sheet_of}
use Rattle.model.specs.Answers.{Output}
use Rattle.model.specs.Calls.{planned, plan_sheet}
use Rattle.model.specs.Values.{Held, IsCode, problem_of, Picked, choice_of}
use Rattle.model.proofs.PlanLaws.{plan-is}
use Rattle.model.proofs.StrictLaws.{strict_is}
use Rattle.sums.proofs.PickLaws.{held-code-picked, held-code-choice}
use Rattle.scan.specs.declared.Test.{Test}
use Rattle.scan.specs.declared.Test.TheVariants.{Admission, TrueSums}
use Rattle.found.specs.declared.Planned.{Planned}
use Rattle.found.specs.Found.{plan_by, plan_code, found_for}

-- each planner's plan is a choice of the book
plan-choice : (test : Test) (b : Problem) (c : Choice) → plan_by test b ≡ some c → IsChoice b.loads c
plan-choice Admission b c e = (plan-is b c e).choice
plan-choice TrueSums b c e = (strict_is b c e).compared.choice

IsFound : Outcome Planned Refusal → Type 0
IsFound (Ok v) = Unit {0}
IsFound (Err r) = ⊥

HasCode : std.Option ℕ → Type 0
HasCode (Some code) = Unit {0}
HasCode None = ⊥

module _ (b : Problem) where
  -- what a result says of the sheet, where `over` is whether the trials are over the budget and m is the plan
  abbrev found_at : Bool → Option Choice → Outcome Planned Refusal
  found_at over m = cond over (Err BudgetExceeded) (Ok (record { trials = trials b; code = plan_code m }))

  abbrev sheet_at : Bool → Option Choice → Result Output
  sheet_at over m = checked 0 (first ((over ⇒ BudgetExceeded) ∷ [])) (planned b m)

  refused_at : (r : Refusal) (over : Bool) (m : Option Choice) → Path (Outcome Planned Refusal) (Err r) (found_at over m)
      → (r ≡ BudgetExceeded) × (sheet_at over m ≡ refused BudgetExceeded 0)
  unfolding IsFound first
  refused_at r true m e = (same r BudgetExceeded e, refl)
    where
      same : (x y : Refusal) → Path (Outcome Planned Refusal) (Err x) (Err y) → x ≡ y
      same x y e = cc
  refused_at r false m e = absurd (subst IsFound (sym e) tt)

  -- within the budget there is no plan, or the plan's sheet
  module _ (v : Planned) where
    same : (w : Planned) → Path (Outcome Planned Refusal) (Ok v) (Ok w) → v ≡ w
    same w e = cc

    missing_at : (over : Bool) (m : Option Choice) → Path (Outcome Planned Refusal) (Ok v) (found_at over m) → v.code ≡ None → sheet_at over m ≡ refused NoPlan 0
    unfolding IsFound HasCode first
    missing_at true m e z = absurd (subst IsFound e tt)
    missing_at false none e z = refl
    missing_at false (some c) e z = absurd (subst HasCode (sym (ap (λ (x : Planned). x.code) (same _ e)) ∙ z) tt)

    planned_at : (code : ℕ) (over : Bool) (m : Option Choice) → Path (Outcome Planned Refusal) (Ok v) (found_at over m) → v.code ≡ Some code
        → (c : Choice) × (m ≡ some c) × (code ≡ code_of c) × (done (sheet_of b c v.trials) ≡ sheet_at over m)
    unfolding IsFound HasCode first
    planned_at code true m e z = absurd (subst IsFound e tt)
    planned_at code false none e z = absurd (subst HasCode (sym z ∙ ap (λ (x : Planned). x.code) (same _ e)) tt)
    planned_at code false (some c) e z =
        let q : v ≡ record { trials = trials b; code = Some (code_of c) } = same _ e in
        let k : code ≡ code_of c = some_same _ _ (sym z ∙ ap (λ (x : Planned). x.code) q) in
        (c, refl, k, ap (λ (x : Planned). done (sheet_of b c x.trials)) q)
      where
        some_same : (x y : ℕ) → Path (std.Option ℕ) (Some x) (Some y) → x ≡ y
        some_same x y e = cc

-- a refusal is 12
pub search-refused : (test : Test) (b : Problem) (r : Refusal) → Path (Outcome Planned Refusal) (Err r) (found_for test b)
    → (r ≡ BudgetExceeded) × (plan_sheet (plan_by test) b ≡ refused BudgetExceeded 0)
unfolding found_for plan_sheet
search-refused test b r = refused_at b r (ltb b.budget (trials b)) (plan_by test b)

-- no plan
pub search-missing : (test : Test) (b : Problem) (s : Planned) → Path (Outcome Planned Refusal) (Ok s) (found_for test b) → s.code ≡ None → plan_sheet (plan_by test) b ≡ refused NoPlan 0
unfolding found_for plan_sheet
search-missing test b s = missing_at b s (ltb b.budget (trials b)) (plan_by test b)

module _ (test : Test) (v : Book) (held : Held v) (s : Planned) (found : Path (Outcome Planned Refusal) (Ok s) (found_for test (problem_of v)))
    (code : ℕ) (is : s.code ≡ Some code) (picks : List ℕ) (digits : take v.count picks ≡ decode v.count code) where
  the_plan : (c : Choice) × (plan_by test (problem_of v) ≡ some c) × (code ≡ code_of c) × (done (sheet_of (problem_of v) c s.trials) ≡ plan_sheet (plan_by test) (problem_of v))
  unfolding found_for plan_sheet problem_of
  the_plan = planned_at (problem_of v) s code (ltb v.budget (trials (problem_of v))) (plan_by test (problem_of v)) found is

  coded : IsCode (problem_of v) code
  coded = record { choice = the_plan.0; of_book = plan-choice test (problem_of v) the_plan.0 the_plan.1; is = the_plan.2 }

  pub found-picked : Picked (problem_of v) picks
  found-picked = held-code-picked v held coded picks digits

  pub found-sheet : done (sheet_of (problem_of v) (choice_of (problem_of v) picks) s.trials) ≡ plan_sheet (plan_by test) (problem_of v)
  unfolding coded
  found-sheet = ap (λ c. done (sheet_of (problem_of v) c s.trials)) (held-code-choice v held coded picks digits) ∙ the_plan.3
