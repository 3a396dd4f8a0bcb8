-- When the planner gives a sheet, and when refusal 17, in both directions; that no choice keeps the limits where it gives 17, that there is a sheet where the
-- quick planner's start keeps them, when the quick planner gives 17, and that it does where the planner does.
-- Assumes nothing.
use mathlib.Core.Path.{◌≡◌, refl, sym, ap, ◌∙◌, subst}
use mathlib.Core.Bool.{Bool, true, false}
use mathlib.Core.Logic.{◌⊎◌, inl, inr, ◌↔◌}
use mathlib.Core.List.{List, [], ◌∷◌}
use mathlib.Core.Option.{Option, none, some}
use Prim.Native.Nat.{ℕ, ◌<◌, ◌≤◌}
use native.Mathlib.Omega.{arith}
use lib.Dec.{T, ltb}
use borrow.Author.Tests.{le-ltb, ltb-false}
use Rattle.model.specs.declared.Answer.{Answer}
use Rattle.model.specs.declared.Refusal.{Refusal}
use Rattle.model.specs.declared.Refusal.TheVariants.{BudgetExceeded}
use Rattle.std.specs.Prelude.{Ok, Err}
use Rattle.model.specs.Refusals.{Finding, Result, refused, done, ◌⇒◌, first, checked, and_then, number_of}
use Rattle.model.specs.Bounds.{most_cells}
use Rattle.model.specs.Book.{Problem, read_book}
use Rattle.model.specs.Choice.{Choice, IsChoice}
use Rattle.model.specs.Grid.{slots_of, keeps_limits, plan}
use Rattle.model.specs.Trials.{cells, needed_words, trials}
use Rattle.model.specs.Sheet.{sheet_length}
use Rattle.model.specs.Calls.{size_rules, fitting, fitting_book, planned, plan_sheet, planner_result}
use Rattle.model.specs.Quick.{first_settings, quick_sheet, quick_result}
use Rattle.model.specs.Valid.{ValidBook}
use Rattle.model.specs.Demand.{Past12, SomeAdmitted, NumberIs, Answered}
use Rattle.model.specs.Answers.{Output, answer_of}
use Rattle.model.proofs.IntegerLaws.{split}
use Rattle.model.proofs.RefusalLaws.{number-some, NoneApplies, first_passed, first-none, first_most, RulesMost, RefusalMost}
use Rattle.model.proofs.PlanLaws.{plan-is, plan-none, keeps-admissible}
use Rattle.model.proofs.QuickLaws.{firsts_chosen, quick_short, quick_over, quick_given}
use Rattle.model.proofs.ValidLaws.{book-valid, book_bounded}

-- a number that refusals 1 to 12 do not have
abbrev pub Past : ℕ → Type 0
Past n = (n ≡ 0) ⊎ (12 < n)

-- a sheet's number, or 17
abbrev pub Given : ℕ → Type 0
Given n = (n ≡ 0) ⊎ (n ≡ 17)

pub given_past : {n : ℕ} → Given n → Past n
given_past (inl e) = inl e
given_past (inr e) = inr (omega (arith, e))

not_past : {A : Type 0} (r : Refusal) → number_of r ≤ 12 → Past (number_of r) → A
not_past r h (inl e) = absurd (number-some r e)
not_past r h (inr l) = absurd (omega arith)

-- ---- plans and admitted choices

with_plan : (b : Problem) (c : Choice) → plan b ≡ some c → SomeAdmitted b
with_plan b c e = record { choice = c; of_book = (plan-is b c e).choice; admissible = (plan-is b c e).admissible }

without_plan : (b : Problem) → plan b ≡ none → SomeAdmitted b → ⊥
without_plan b e a = plan-none b e a.choice a.of_book a.admissible

-- a choice that keeps the limits is admitted
keeps-some : (b : Problem) (c : Choice) → IsChoice b.loads c → T (keeps_limits (slots_of b) c) → SomeAdmitted b
keeps-some b c m k = record { choice = c; of_book = m; admissible = keeps-admissible b c m k }

-- ---- the number of a planner with the plan p

module _ (p : Problem → Option Choice) where
  module _ (book : List ℕ) (words room : ℕ) where
    -- its result
    abbrev pub result_with : Result Output
    result_with = and_then (fitting_book book words room) (plan_sheet p)

    size_rules_most : (b : Problem) → RulesMost 12 (size_rules b words room)
    unfolding size_rules
    size_rules_most b = (omega arith, (omega arith, (omega arith, tt)))

    -- what it answers once none of 1 to 12 applies
    pub result_with_lem : (b : Problem) → Past12 book words room b → result_with ≡ planned b (p b)
    unfolding fitting_book plan_sheet size_rules
    result_with_lem b h =
        ap (λ x. and_then (and_then x (fitting words room)) (plan_sheet p)) h.reads
        ∙ ap (λ f. and_then (checked 0 f (done b)) (plan_sheet p))
        (first-none (size_rules b words room)
        (le-ltb most_cells (cells b) h.few, (le-ltb words (needed_words b) h.wide, (le-ltb room (sheet_length b) h.long, tt))))
        ∙ ap (λ f. checked 0 f (planned b (p b)))
        (first-none ((ltb b.budget (trials b) ⇒ BudgetExceeded) ∷ []) (le-ltb b.budget (trials b) h.enough, tt))

    -- and a number that they do not have is given only there
    pub only_with : Past (answer_of result_with).number → (b : Problem) × Past12 book words room b
    unfolding fitting_book plan_sheet size_rules first
    only_with n = at_book (read_book book) refl (book_bounded book) n
      where
        at_budget : (b : Problem) → read_book book ≡ done b → first (size_rules b words room) ≡ Ok tt → (t : Bool) → ltb b.budget (trials b) ≡ t
            → Past (answer_of (checked 0 (first ((t ⇒ BudgetExceeded) ∷ [])) (planned b (p b)))).number
            → (b : Problem) × Past12 book words room b
        at_budget b e f true q n = not_past BudgetExceeded (omega arith) n
        at_budget b e f false q n =
            let a : NoneApplies (size_rules b words room) = first_passed (size_rules b words room) f in (
              b,
              record {
                reads = e;
                few = ltb-false most_cells (cells b) a.0;
                wide = ltb-false words (needed_words b) a.1.0;
                long = ltb-false room (sheet_length b) a.1.1.0;
                enough = ltb-false b.budget (trials b) q;
              },
            )

        at_size : (b : Problem) → read_book book ≡ done b → (f : Finding) → first (size_rules b words room) ≡ f
            → Past (answer_of (and_then (checked 0 f (done b)) (plan_sheet p))).number → (b : Problem) × Past12 book words room b
        at_size b e (Err r) q n = not_past r (first_most 12 (size_rules b words room) r (size_rules_most b) q) n
        at_size b e (Ok tt) q n = at_budget b e q (ltb b.budget (trials b)) refl n

        at_book : (x : Result Problem) → read_book book ≡ x → RefusalMost 8 257 x → Past (answer_of (and_then (and_then x (fitting words room)) (plan_sheet p))).number
            → (b : Problem) × Past12 book words room b
        at_book (refused r line) e h n = not_past r (omega arith) n
        at_book (done b) e h n = at_size b e (first (size_rules b words room)) refl n

  -- WHEN A SHEET IS GIVEN, AND WHEN 17: where `SomePlan` says that there is a plan, and `PastAll` that no refusal before 17 applies
  module _ (SomePlan : Problem → Type 0) (with : (b : Problem) (c : Choice) → p b ≡ some c → SomePlan b) (without : (b : Problem) → p b ≡ none → SomePlan b → ⊥)
      (PastAll : Problem → Type 0) (number : ℕ) (number_is : (b : Problem) → PastAll b → number ≡ (answer_of (planned b (p b))).number)
      (only : Given number → (b : Problem) × PastAll b) where
    pub number_with : NumberIs PastAll SomePlan number
    number_with =
        record {
          sheet = λ b h a. number_is b h ∙ given b a (p b) refl;
          sheet_only = λ e. let x = only (inl e) in (x.0, x.1, found x.0 (p x.0) refl (sym (number_is x.0 x.1) ∙ e));
          no_plan = λ b h n. number_is b h ∙ missing b n (p b) refl;
          no_plan_only = λ e. let x = only (inr e) in (x.0, x.1, lacking x.0 (p x.0) refl (sym (number_is x.0 x.1) ∙ e));
        }
      where
        given : (b : Problem) → SomePlan b → (m : Option Choice) → p b ≡ m → (answer_of (planned b m)).number ≡ 0
        given b a none e = absurd (without b e a)
        given b a (some c) e = refl

        found : (b : Problem) (m : Option Choice) → p b ≡ m → (answer_of (planned b m)).number ≡ 0 → SomePlan b
        found b none e q = absurd (omega arith)
        found b (some c) e q = with b c e

        missing : (b : Problem) → (SomePlan b → ⊥) → (m : Option Choice) → p b ≡ m → (answer_of (planned b m)).number ≡ 17
        missing b n none e = refl
        missing b n (some c) e = absurd (n (with b c e))

        lacking : (b : Problem) (m : Option Choice) → p b ≡ m → (answer_of (planned b m)).number ≡ 17 → SomePlan b → ⊥
        lacking b none e q = without b e
        lacking b (some c) e q = absurd (omega arith)

-- ---- the planner's number

module _ (book : List ℕ) (words room : ℕ) where
  pub past_result : (b : Problem) → Past12 book words room b → planner_result book words room ≡ planned b (plan b)
  unfolding planner_result
  past_result = result_with_lem plan book words room

  pub past-only : Past (answer_of (planner_result book words room)).number → (b : Problem) × Past12 book words room b
  unfolding planner_result
  past-only = only_with plan book words room

  answered : Answered book words room (answer_of (planner_result book words room)).number
  answered =
      number_with plan SomeAdmitted with_plan without_plan (Past12 book words room) (answer_of (planner_result book words room)).number
      (λ b h. ap (λ x. (answer_of x).number) (past_result b h))
      (λ n. past-only (given_past n))

-- the same of an answer that is the planner's
pub answered_as : (book : List ℕ) (words room : ℕ) (a : Answer) → a ≡ answer_of (planner_result book words room) → Answered book words room a.number
answered_as book words room a e = subst (λ (x : Answer). Answered book words room x.number) (sym e) (answered book words room)

-- 17 says that no choice of the book keeps the limits
pub none-keeps : (book : List ℕ) (words room : ℕ) → (answer_of (planner_result book words room)).number ≡ 17
    → (b : Problem) × (read_book book ≡ done b) × ((c : Choice) → IsChoice b.loads c → T (keeps_limits (slots_of b) c) → ⊥)
none-keeps book words room e =
    let x = (answered book words room).no_plan_only e in
    (x.0, x.1.reads, λ c m k. x.2 (keeps-some x.0 c m k))

-- ---- the quick planner's start: what must run at option 1, and all others standing

-- where it keeps the limits there is a sheet, once none of 1 to 12 applies
pub firsts_planned : (book : List ℕ) (words room : ℕ) (b : Problem) → Past12 book words room b → T (keeps_limits (slots_of b) (first_settings b))
    → (answer_of (planner_result book words room)).number ≡ 0
firsts_planned book words room b h k =
    (answered book words room).sheet b h (keeps-some b (first_settings b) (firsts_chosen b (book-valid book b h.reads)) k)

-- where no choice is admitted it breaks a limit
firsts_over : (b : Problem) → ValidBook b → (SomeAdmitted b → ⊥) → keeps_limits (slots_of b) (first_settings b) ≡ false
firsts_over b valid n = go (keeps_limits (slots_of b) (first_settings b)) refl
  where
    go : (t : Bool) → keeps_limits (slots_of b) (first_settings b) ≡ t → t ≡ false
    go false e = refl
    go true e = absurd (n (keeps-some b (first_settings b) (firsts_chosen b valid) (subst T (sym e) tt)))

-- THE QUICK PLANNER GIVES 17 exactly where none of 1 to 8 and 11 applies and its start breaks a limit
pub quick_exactly : (book : List ℕ) (room : ℕ) → ((answer_of (quick_result book room)).number ≡ 17)
    ↔ ((b : Problem) × (read_book book ≡ done b) × (sheet_length b ≤ room) × (keeps_limits (slots_of b) (first_settings b) ≡ false))
unfolding quick_result
quick_exactly book room =
    (at_book (read_book book) refl (book_bounded book), λ x. ap (λ r. (answer_of (and_then r (quick_sheet room))).number) x.1 ∙ ap (λ r. (answer_of r).number) (quick_over x.0 room x.2 x.3))
  where
    at_start : (b : Problem) → sheet_length b ≤ room → (t : Bool) → keeps_limits (slots_of b) (first_settings b) ≡ t → (answer_of (quick_sheet room b)).number ≡ 17 → t ≡ false
    at_start b l false q e = refl
    at_start b l true q e = absurd (omega (arith, e, ap (λ r. (answer_of r).number) (quick_given b room l q)))

    at_room : (b : Problem) → (room < sheet_length b) ⊎ (sheet_length b ≤ room) → (answer_of (quick_sheet room b)).number ≡ 17
        → (sheet_length b ≤ room) × (keeps_limits (slots_of b) (first_settings b) ≡ false)
    at_room b (inl l) e = absurd (omega (arith, e, ap (λ r. (answer_of r).number) (quick_short b room l)))
    at_room b (inr l) e = (l, at_start b l (keeps_limits (slots_of b) (first_settings b)) refl e)

    at_book : (x : Result Problem) → read_book book ≡ x → RefusalMost 8 257 x → (answer_of (and_then x (quick_sheet room))).number ≡ 17
        → (b : Problem) × (read_book book ≡ done b) × (sheet_length b ≤ room) × (keeps_limits (slots_of b) (first_settings b) ≡ false)
    at_book (refused r line) q h e = absurd (omega arith)
    at_book (done b) q h e = let x = at_room b (split room (sheet_length b)) e in (b, q, x.0, x.1)

-- WHERE THE PLANNER GIVES 17, the quick planner gives it too, with room for as many bytes
pub quick_none : (book : List ℕ) (words room : ℕ) → (answer_of (planner_result book words room)).number ≡ 17 → (answer_of (quick_result book room)).number ≡ 17
quick_none book words room e =
    let x = (answered book words room).no_plan_only e in
    (quick_exactly book room).1 (x.0, x.1.reads, x.1.long, firsts_over x.0 (book-valid book x.0 x.1.reads) x.2)
