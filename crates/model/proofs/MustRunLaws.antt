-- Loads that must run: the choices of a book that was read are those that run every one of them, and the quick planner begins with them at option 1 and keeps
-- them there.
-- Assumes nothing.
use mathlib.Core.Path.{◌≡◌, refl, sym, ap, ◌∙◌, subst}
use mathlib.Core.Bool.{true, not, cond, false≢true}
use mathlib.Core.Logic.{inl, inr, ◌↔◌}
use mathlib.Core.List.{List, [], ◌∷◌}
use Prim.Native.Nat.{ℕ, zero, suc, ◌<◌, ◌≤◌}
use native.Mathlib.Nat.{le_refl, le_of_suc-le-suc}
use native.Mathlib.Omega.{arith}
use lib.Dec.{eqb}
use lib.ListN.{length, get_or, take, get_or-map}
use lib.Seq.{take-length}
use borrow.Author.Tests.{ne_eqb, not-false}
use Rattle.model.specs.Lists.{within, Mem}
use Rattle.model.specs.Frames.{line_of, after_line, line_at}
use Rattle.model.specs.Refusals.{done}
use Rattle.model.specs.Book.{Setting, Settings, Problem, slot_count, load_count, ratio_in, option_count, must_run, options, standing, settings, load_rules, read_loads, read_book}
use Rattle.model.specs.Choice.{Choice, IsChoice, level_on, first_setting, least_of}
use Rattle.model.specs.MustRun.{least_number, RunsRequired, with_standing, ChoicesRun}
use Rattle.model.specs.Quick.{first_settings, quick_choice}
use Rattle.model.proofs.ListLaws.{within-is}
use Rattle.model.proofs.RefusalLaws.{NoneApplies}
use Rattle.model.proofs.NumberLaws.{number_from, offers_one, offered-number}
use Rattle.model.proofs.ValidLaws.{options-numbered, settings_by, least-settings, LoadsRead, loads_read, book_read, loads-count, book-valid, load_labelled}
use Rattle.model.proofs.QuickLaws.{quick_one}

-- ---- one load

abbrev Runs : Setting → Type 0
Runs v = not (eqb v.number 0) ≡ true

option-runs : (t : ℕ) (line : List ℕ) (v : Setting) → Mem v (options t line) → Runs v
option-runs t line v m = ap not (ne_eqb v.number 0 (λ e. omega (arith, (number_from 1 (options t line) v (options-numbered t line) m).0)))

-- what the load offers is standing or an option, and runs where it must
setting_runs : (t : ℕ) (line : List ℕ) (v : Setting)
    → Mem v (settings t line) ↔ (Mem v (standing t line ∷ options t line) × (must_run line ≡ true → Runs v))
setting_runs t line v =
    settings_by (λ b vs. Mem v vs ↔ (Mem v (standing t line ∷ options t line) × (b ≡ true → Runs v))) t line
    (λ e. ((λ m. (inr m, λ q. option-runs t line v m)), λ x. option x.0 (x.1 refl)))
    (λ e. ((λ m. (m, λ q. absurd (false≢true q))), λ x. x.0))
  where
    option : Mem v (standing t line ∷ options t line) → Runs v → Mem v (options t line)
    option (inl e) r = absurd (false≢true (sym (ap (λ (x : Setting). not (eqb x.number 0)) e) ∙ r))
    option (inr m) r = m

-- ---- the loads on the lines of a book

module _ (t ratio : ℕ) where
  runs : (k left number : ℕ) (lines : List ℕ) (loads : List Settings) → k ≤ left → read_loads t ratio left number lines ≡ done loads → (c : Choice)
      → IsChoice (take k loads) c ↔ (IsChoice (with_standing t k lines) c × RunsRequired lines c)
  runs zero left number lines loads few e [] = ((λ m. (m, λ k l. absurd (omega arith))), λ x. x.0)
  runs zero left number lines loads few e (v ∷ c) = ((λ m. absurd m), λ x. x.0)
  runs (suc k) zero number lines loads few e c = absurd (omega arith)
  runs (suc k) (suc left) number lines loads few e c =
      let r : LoadsRead t ratio left number lines loads = loads_read t ratio left number lines loads e in
      subst (λ ls. IsChoice (take (suc k) ls) c ↔ (IsChoice (with_standing t (suc k) lines) c × RunsRequired lines c)) r.same
      (both r.others (runs k left (suc number) (after_line lines) r.others (le_of_suc-le-suc few) r.rest) c)
    where
      both : (others : List Settings)
          → ((d : Choice) → IsChoice (take k others) d ↔ (IsChoice (with_standing t k (after_line lines)) d × RunsRequired (after_line lines) d))
          → (c : Choice) → IsChoice (settings t (line_of lines) ∷ take k others) c ↔ (IsChoice (with_standing t (suc k) lines) c × RunsRequired lines c)
      both others rest [] = ((λ m. absurd m), λ x. x.0)
      both others rest (v ∷ c) = (there, back)
        where
          each : (must_run (line_of lines) ≡ true → Runs v) → RunsRequired (after_line lines) c → RunsRequired lines (v ∷ c)
          each a z zero l = a
          each a z (suc i) l = z i (le_of_suc-le-suc l)

          there : IsChoice (settings t (line_of lines) ∷ take k others) (v ∷ c) → IsChoice (with_standing t (suc k) lines) (v ∷ c) × RunsRequired lines (v ∷ c)
          there m =
              let a = (setting_runs t (line_of lines) v).0 m.0 in
              let z = (rest c).0 m.1 in
              ((a.0, z.0), each a.1 z.1)

          back : IsChoice (with_standing t (suc k) lines) (v ∷ c) × RunsRequired lines (v ∷ c) → IsChoice (settings t (line_of lines) ∷ take k others) (v ∷ c)
          back x = ((setting_runs t (line_of lines) v).1 (x.0.0, x.1 0 (omega arith)), (rest c).1 (x.0.1, λ i l. x.1 (suc i) (omega arith)))

  -- the first number that load k + 1 offers
  least_on : (left number : ℕ) (lines : List ℕ) (loads : List Settings) → read_loads t ratio left number lines ≡ done loads → (k : ℕ) → k < left
      → least_of (get_or loads k []) ≡ least_number (line_at k lines)
  unfolding load_rules
  least_on zero number lines loads e k l = absurd (omega arith)
  least_on (suc left) number lines loads e k l =
      let r : LoadsRead t ratio left number lines loads = loads_read t ratio left number lines loads e in
      subst (λ ls. least_of (get_or ls k []) ≡ least_number (line_at k lines)) r.same (at k l r.others (some r.rules) (least_on left (suc number) (after_line lines) r.others r.rest))
    where
      some : NoneApplies (load_rules t ratio (line_of lines)) → 1 ≤ option_count (line_of lines)
      some rules = (within-is 1 3 (option_count (line_of lines)) (not-false (within 1 3 (option_count (line_of lines))) rules.1.1.0)).0

      at : (k : ℕ) → k < suc left → (others : List Settings) → 1 ≤ option_count (line_of lines)
          → ((i : ℕ) → i < left → least_of (get_or others i []) ≡ least_number (line_at i (after_line lines)))
          → least_of (get_or (settings t (line_of lines) ∷ others) k []) ≡ least_number (line_at k lines)
      at zero l others h rest = least-settings t (line_of lines) h
      at (suc i) l others h rest = rest i (le_of_suc-le-suc l)

-- THE CHOICES OF A BOOK run every load that must run, and are all that do
pub choices_run : ChoicesRun
choices_run book b e k l c =
    runs (slot_count (line_of book)) (ratio_in (line_of book)) k (load_count (line_of book)) 2 (after_line book) b.loads (omega (arith, loads-count book b e)) (book_read book b e).loads c

module _ (book : List ℕ) (b : Problem) (e : read_book book ≡ done b) where
  pub book-runs : (c : Choice) → IsChoice b.loads c → RunsRequired (after_line book) c
  book-runs c m = ((choices_run book b e (length b.loads) (le_refl (length b.loads)) c).0 (subst (λ ls. IsChoice ls c) (sym (take-length b.loads)) m)).1

  module _ (k : ℕ) (l : k < length b.loads) where
    least-is : least_of (get_or b.loads k []) ≡ least_number (line_at (suc k) book)
    least-is =
        least_on (slot_count (line_of book)) (ratio_in (line_of book)) (load_count (line_of book)) 2 (after_line book) b.loads (book_read book b e).loads k (omega (arith, loads-count book b e))

    -- THE QUICK PLANNER begins with what must run at option 1 and all others standing
    pub start_on : level_on (first_settings b) (suc k) ≡ least_number (line_at (suc k) book)
    start_on = ap (λ (v : Setting). v.number) (get_or-map first_setting b.loads k []) ∙ least-is

    -- and what must run has option 1 in its choice
    pub quick_runs : must_run (line_at (suc k) book) ≡ true → level_on (quick_choice b) (suc k) ≡ 1
    unfolding least_number
    quick_runs m =
        let labels = load_labelled (book-valid book b e) k l in
        ap (λ (v : Setting). v.number) (quick_one b k (book-valid book b e) l (least-is ∙ ap (λ t. cond t 1 0) m))
        ∙ offered-number (get_or b.loads k []) labels 1 (offers_one (get_or b.loads k []) labels)
