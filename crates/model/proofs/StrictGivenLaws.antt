-- When the strict planner gives a sheet, and when refusal 17 (document 02, M-109), in both directions; what holds of a sheet that it gave; that no choice has
-- the margin where it gives 17; and that it gives the plain planner's sheet where that keeps every limit.
-- Assumes nothing.
use mathlib.Core.Path.{◌≡◌, refl, sym, ap, ◌∙◌, subst}
use mathlib.Core.Logic.{inl, inr, ⊎_elim}
use mathlib.Core.List.{List, [], ◌∷◌}
use mathlib.Core.Option.{Option, none, some}
use Prim.Native.Nat.{ℕ, ◌≤◌}
use native.Mathlib.Decide.{ℕ_discrete}
use native.Mathlib.Omega.{arith}
use lib.Dec.{ltb}
use lib.ListN.{length, drop}
use borrow.Author.Tests.{eq-eqb, ne_eqb}
use Rattle.model.specs.declared.Answer.{Answer}
use Rattle.model.specs.declared.Refusal.{Refusal}
use Rattle.model.specs.declared.Refusal.TheVariants.{BudgetExceeded, TooCoarse}
use Rattle.std.specs.Prelude.{Ok, Err}
use Rattle.model.specs.Refusals.{Finding, Result, refused, done, ◌⇒◌, first, checked, and_then}
use Rattle.model.specs.Book.{Problem, read_book}
use Rattle.model.specs.Choice.{Choice, IsChoice, worth_of}
use Rattle.model.specs.Grid.{plan}
use Rattle.model.specs.Trials.{trials}
use Rattle.model.specs.Sheet.{sheet_of, sheet_bytes}
use Rattle.model.specs.Answers.{Output, answer_of, buffer_after}
use Rattle.model.specs.Calls.{size_rules, fitting, fitting_book, planned, plan_sheet, planner_result}
use Rattle.model.specs.Demand.{Past12}
use Rattle.model.specs.Strict.{strict_plan, IsStrictPlan, fine, strict_book, strict_result, StrictPast, SomeKeeping, StrictAnswered, HasMargin, NoMargin, NeverAbove, SameSheet}
use Rattle.model.proofs.RefusalLaws.{refused-done, done-same}
use Rattle.model.proofs.ValidLaws.{book-valid}
use Rattle.model.proofs.MustRunLaws.{book-runs}
use Rattle.model.proofs.SheetGivenLaws.{Given, given_past, result_with, result_with_lem, only_with, number_with, past_result}
use Rattle.model.proofs.DemandLaws.{stands_on}
use Rattle.model.proofs.StrictLaws.{strict_is, strict_none, margin_some, margin_worth, plain_too, plain-kept}

-- ---- the number

module _ (book : List ℕ) (words room : ℕ) where
  -- the result by what is read of the book
  abbrev result_for : Result Problem → Result Output
  result_for x = and_then (and_then (and_then x fine) (fitting words room)) (plan_sheet strict_plan)

  at_book : (x : Result Problem) → read_book book ≡ x → strict_result book words room ≡ result_for x
  unfolding strict_result strict_book
  at_book x e = ap result_for e

  -- it is that of a planner with the strict plan, but for refusal 20
  at_fine : (b : Problem) → read_book book ≡ done b → (b.fineness ≡ 1 → ⊥) → strict_result book words room ≡ result_with strict_plan book words room
  unfolding fitting_book first
  at_fine b e n =
      at_book (done b) e
      ∙ ap (λ t. and_then (and_then (checked 0 (first ((t ⇒ TooCoarse) ∷ [])) (done b)) (fitting words room)) (plan_sheet strict_plan)) (ne_eqb b.fineness 1 n)
      ∙ sym (ap (λ x. and_then (and_then x (fitting words room)) (plan_sheet strict_plan)) e)

  at_coarse : (b : Problem) → read_book book ≡ done b → b.fineness ≡ 1 → strict_result book words room ≡ refused TooCoarse 0
  unfolding first
  at_coarse b e q =
      at_book (done b) e
      ∙ ap (λ t. and_then (and_then (checked 0 (first ((t ⇒ TooCoarse) ∷ [])) (done b)) (fitting words room)) (plan_sheet strict_plan)) (eq-eqb b.fineness 1 q)

  at_refused : (r : Refusal) (line : ℕ) → read_book book ≡ refused r line → strict_result book words room ≡ result_with strict_plan book words room
  unfolding fitting_book
  at_refused r line e = at_book (refused r line) e ∙ sym (ap (λ x. and_then (and_then x (fitting words room)) (plan_sheet strict_plan)) e)

  -- what it answers once no refusal before 17 applies
  strict_result_lem : (b : Problem) → StrictPast book words room b → strict_result book words room ≡ planned b (strict_plan b)
  strict_result_lem b h = at_fine b h.past.reads h.fine_enough ∙ result_with_lem strict_plan book words room b h.past

  -- and a sheet or 17 is given only there
  abbrev GivenBy : Result Output → Type 0
  GivenBy x = Given (answer_of x).number

  only-fine : GivenBy (result_with strict_plan book words room) → (b : Problem) × Past12 book words room b
  only-fine n = only_with strict_plan book words room (given_past n)

  strict_only : GivenBy (strict_result book words room) → (b : Problem) × StrictPast book words room b
  strict_only n = go (read_book book) refl
    where
      at : (b : Problem) → read_book book ≡ done b → Dec (b.fineness ≡ 1) → (b : Problem) × StrictPast book words room b
      at b e (yes q) =
          absurd (⊎_elim (λ z. omega (arith, z)) (λ z. omega (arith, z)) (subst GivenBy (at_coarse b e q) n))
      at b e (no q) =
          let x : (b : Problem) × Past12 book words room b = only-fine (subst GivenBy (at_fine b e q) n) in
          let same : b ≡ x.0 = done-same b x.0 (sym e ∙ x.1.reads) in
          (x.0, record { past = x.1; fine_enough = λ z. q (ap (λ (y : Problem). y.fineness) same ∙ z) })

      go : (x : Result Problem) → read_book book ≡ x → (b : Problem) × StrictPast book words room b
      go (refused r line) e =
          let x : (b : Problem) × Past12 book words room b = only-fine (subst GivenBy (at_refused r line e) n) in
          absurd (refused-done r line x.0 (sym e ∙ x.1.reads))
      go (done b) e = at b e (ℕ_discrete b.fineness 1)

  number_is : (b : Problem) → StrictPast book words room b → (answer_of (strict_result book words room)).number ≡ (answer_of (planned b (strict_plan b))).number
  number_is b h = ap (λ x. (answer_of x).number) (strict_result_lem b h)

  strict_answered : StrictAnswered book words room (answer_of (strict_result book words room)).number
  strict_answered =
      number_with strict_plan SomeKeeping
      (λ b c e. let p = strict_is b c e in record { choice = c; compared = p.compared; keeps = p.keeps })
      strict_none (StrictPast book words room) (answer_of (strict_result book words room)).number number_is strict_only

-- the same of an answer that is the strict planner's
pub strict_answered_as : (book : List ℕ) (words room : ℕ) (a : Answer) → a ≡ answer_of (strict_result book words room) → StrictAnswered book words room a.number
strict_answered_as book words room a e = subst (λ (x : Answer). StrictAnswered book words room x.number) (sym e) (strict_answered book words room)

-- d is 2 or more
two_or_more : (book : List ℕ) (words room : ℕ) (b : Problem) → StrictPast book words room b → 2 ≤ b.fineness
two_or_more book words room b h = more b.fineness (book-valid book b h.past.reads).fine_some h.fine_enough
  where
    more : (d : ℕ) → 1 ≤ d → (d ≡ 1 → ⊥) → 2 ≤ d
    more d l n = omega arith

-- NO CHOICE HAS THE MARGIN where the answer has number 17
pub no_margin : (book : List ℕ) (words room : ℕ) → (answer_of (strict_result book words room)).number ≡ 17 → NoMargin book
no_margin book words room e b reads c m h =
    let x : (b : Problem) × StrictPast book words room b = strict_only book words room (inr e) in
    let same : x.0 ≡ b = done-same x.0 b (sym x.1.past.reads ∙ reads) in
    let past : StrictPast book words room b = subst (StrictPast book words room) same x.1 in
    go b past (strict_plan b) refl (sym (number_is book words room b past) ∙ e) c m h
  where
    go : (b : Problem) → StrictPast book words room b → (x : Option Choice) → strict_plan b ≡ x → (answer_of (planned b x)).number ≡ 17
        → (c : Choice) → IsChoice b.loads c → HasMargin b c → ⊥
    go b past none q z c m h = margin_some b (two_or_more book words room b past) c m h q
    go b past (some d) q z c m h = omega arith

-- ---- a sheet that was given

-- NEVER ABOVE THE LIMIT, whenever the answer has number 0
pub never_above : (book : List ℕ) (words : ℕ) (before : List ℕ) → (answer_of (strict_result book words (length before))).number ≡ 0
    → NeverAbove book words (length before) (buffer_after (strict_result book words (length before)) before)
never_above book words before e =
    let x : (b : Problem) × StrictPast book words (length before) b = strict_only book words (length before) (inl e) in
    let r : strict_result book words (length before) ≡ planned x.0 (strict_plan x.0) = strict_result_lem book words (length before) x.0 x.1 in
    subst (λ (y : Result Output). NeverAbove book words (length before) (buffer_after y before)) (sym r)
    (go x.0 x.1 (strict_plan x.0) refl (sym (ap (λ y. (answer_of y).number) r) ∙ e))
  where
    go : (b : Problem) → StrictPast book words (length before) b → (m : Option Choice) → strict_plan b ≡ m → (answer_of (planned b m)).number ≡ 0
        → NeverAbove book words (length before) (buffer_after (planned b m) before)
    go b past none q z = absurd (omega arith)
    go b past (some c) q z =
        let reads : read_book book ≡ done b = past.past.reads in
        let is : IsStrictPlan b c = strict_is b c q in
        let too : (d : Choice) × (plan b ≡ some d) × (worth_of c ≤ worth_of d) = plain_too b c q in
        record {
          b = b;
          reads = reads;
          choice = c;
          on_sheet = stands_on b c (trials b) (drop (length (sheet_bytes b c (trials b))) before) (book-valid book b reads) is.compared.choice;
          runs = book-runs book b reads c is.compared.choice;
          keeps = is.keeps;
          worth = λ other m h. margin_worth b (two_or_more book words (length before) b past) other m h c q;
          plain = (
            sheet_of b too.0 (trials b),
            past_result book words (length before) b past.past ∙ ap (planned b) too.1,
            too.2,
          );
        }

-- ---- the same sheet

-- two planners whose plans of a book are the same have the same result for it
same_result : (p q : Problem → Option Choice) (book : List ℕ) (words room : ℕ) (b : Problem) → read_book book ≡ done b → p b ≡ q b
    → result_with p book words room ≡ result_with q book words room
unfolding fitting_book plan_sheet
same_result p q book words room b e s =
    ap (result p) e ∙ go (first (size_rules b words room)) ∙ sym (ap (result q) e)
  where
    result : (Problem → Option Choice) → Result Problem → Result Output
    result f x = and_then (and_then x (fitting words room)) (plan_sheet f)

    go : (f : Finding) → and_then (checked 0 f (done b)) (plan_sheet p) ≡ and_then (checked 0 f (done b)) (plan_sheet q)
    go (Err r) = refl
    go (Ok tt) = ap (λ m. checked 0 (first ((ltb b.budget (trials b) ⇒ BudgetExceeded) ∷ [])) (planned b m)) s

pub same-sheet : SameSheet
unfolding planner_result
same-sheet book words room b e n c q k =
    at_fine book words room b e n ∙ same_result strict_plan plan book words room b e (plain-kept b (book-valid book b e) c q k ∙ sym q)
