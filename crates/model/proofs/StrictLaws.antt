-- What the strict planner promises (document 02, M-109): its plan keeps every limit and is the best of the compared choices that do, of which there is one for each
-- list of grid pairs; it is worth at least as much as every choice with the margin; the plain planner's is worth at least that, and where it keeps the limits it is
-- the same.
-- Assumes nothing.
use mathlib.Core.Path.{◌≡◌, refl, sym, ap, ◌∙◌, subst}
use mathlib.Core.Bool.{Bool}
use mathlib.Core.Logic.{⊎_elim, ◌↔◌}
use mathlib.Core.Option.{Option, none, some}
use Prim.Native.Nat.{◌+◌, ◌*◌, ◌-◌, ◌<◌, ◌≤◌}
use native.Mathlib.Nat.{le_trans, le_antisymm, le-max_left, mul-le-mul_right}
use native.Mathlib.Omega.{arith}
use lib.Dec as Dec
use lib.IntN.{pos, nat_abs, ◌+ℤ◌}
use lib.ListN.{length}
use Rattle.model.specs.Lists.{keep}
use Rattle.model.specs.Book.{Problem}
use Rattle.model.specs.Choice.{Choice, IsChoice, choices, worth_of, sum_in}
use Rattle.model.specs.Grid.{Slot, slots_of, keeps_limits, grid_in, grids_of, spread_of, times, Admitted, best, NoBetter, plan, IsPlan}
use Rattle.model.specs.Demand.{S, KeepsLimits}
use Rattle.model.specs.Strict.{same_pairs, compared, compared_keeping, best_keeping, strict_plan, Compared, OneForEach, IsStrictPlan, SomeKeeping, HasMargin}
use Rattle.model.specs.Valid.{ValidBook}
use Rattle.model.specs.Cells.{admits_all}
use Rattle.model.proofs.ListLaws.{both, each, map_each}
use Rattle.model.proofs.AdmissionLaws.{admitted-is, Rounded, rounded-choice}
use Rattle.model.proofs.RecurrenceLaws.{admitted_grids}
use Rattle.model.proofs.PlanLaws.{chosen_length, kept-sound, kept-best, kept-none, no_better, not_better, plan-is, plan-none, keeps-admissible, plan-worth}
use Rattle.model.proofs.CodeLaws.{code_same}
use Rattle.model.proofs.ValidLaws.{book-valid}
use Rattle.model.proofs.IndexLaws.{pairs_eq, pairs_refl, pairs_same}
use Rattle.model.proofs.ComparedLaws.{compared_is}
use Rattle.model.proofs.DemandLaws.{slot_in, slots-each, keeps-is, abs_near, spread_small, as_squares}
use Rattle.model.proofs.Overload as Overload

-- ---- the strict plan

-- the test of a compared choice is that property
compared_tested : (b : Problem) (c : Choice) → IsChoice b.loads c → Dec.T (compared (slots_of b) b.loads c) ↔ Compared b c
compared_tested b c m = (
  λ t. record { choice = m; greatest = λ other l e. no_better other c ((compared_is (slots_of b) b.loads c).0 t other l e) },
  λ h. (compared_is (slots_of b) b.loads c).1 (λ d l e. not_better d c (h.greatest d l e)),
)

abbrev returnable : Problem → Choice → Bool
returnable b = compared_keeping (slots_of b) b.loads

of_keeping : (b : Problem) (c : Choice) → Compared b c → KeepsLimits b c → Dec.T (returnable b c)
of_keeping b c h k = each (keeps_limits (slots_of b) c) (compared (slots_of b) b.loads c) ((keeps-is b c).1 k) ((compared_tested b c h.choice).1 h)

-- THE STRICT PLAN, in the request's words
pub strict_is : (b : Problem) (c : Choice) → strict_plan b ≡ some c → IsStrictPlan b c
unfolding strict_plan best_keeping
strict_is b c e =
    let sound : IsChoice b.loads c × Dec.T (returnable b c) = kept-sound (returnable b) b.loads c e in
    let parts : Dec.T (keeps_limits (slots_of b) c) × Dec.T (compared (slots_of b) b.loads c)
    = both (keeps_limits (slots_of b) c) (compared (slots_of b) b.loads c) sound.1 in
    record {
      compared = (compared_tested b c sound.0).0 parts.1;
      keeps = (keeps-is b c).0 parts.0;
      greatest = λ other h k. no_better other c (kept-best (returnable b) b.loads c e other h.choice (of_keeping b other h k));
    }

-- where there is none, none of the compared choices fits
pub strict_none : (b : Problem) → strict_plan b ≡ none → SomeKeeping b → ⊥
unfolding strict_plan best_keeping
strict_none b e h = kept-none (returnable b) b.loads e h.choice h.compared.choice (of_keeping b h.choice h.compared h.keeps)

-- ---- one for each list of grid pairs

-- two choices of a book of which none is better are one
neither_better : (b : Problem) → ValidBook b → (c d : Choice) → IsChoice b.loads c → IsChoice b.loads d → NoBetter c d → NoBetter d c → c ≡ d
neither_better b good c d m l h k =
    code_same b.loads c d good.loads.labels m l
    (⊎_elim (λ x. absurd (⊎_elim (λ y. omega arith) (λ y. omega (arith, y.0)) k))
    (λ x. ⊎_elim (λ y. absurd (omega (arith, x.0))) (λ y. le_antisymm y.1 x.1) k) h)

-- each choice has a compared one with its pairs, and that is worth at least as much
record SamePairs (b : Problem) (c : Choice) : Type 0 where
  pub choice : Choice
  pub compared : Compared b choice
  pub pairs : grids_of (slots_of b) choice ≡ grids_of (slots_of b) c
  pub worth : worth_of c ≤ worth_of choice

with_pairs : (b : Problem) (c : Choice) → IsChoice b.loads c → SamePairs b c
with_pairs b c m = go (best (keep same (choices b.loads))) refl
  where
    same : Choice → Bool
    same d = same_pairs (slots_of b) c d

    go : (x : Option Choice) → best (keep same (choices b.loads)) ≡ x → SamePairs b c
    go none e = absurd (kept-none same b.loads e c m (pairs_refl (grids_of (slots_of b) c)))
    go (some d) e =
        let sound : IsChoice b.loads d × Dec.T (same d) = kept-sound same b.loads d e in
        let q : grids_of (slots_of b) c ≡ grids_of (slots_of b) d = pairs_eq (grids_of (slots_of b) c) (grids_of (slots_of b) d) sound.1 in
        record {
          choice = d;
          compared = record {
            choice = sound.0;
            greatest = λ other l p.
                no_better other d
                (kept-best same b.loads d e other l (pairs_same (grids_of (slots_of b) c) (grids_of (slots_of b) other) (p ∙ sym q)));
          };
          pairs = sym q;
          worth = ⊎_elim (λ l. omega arith) (λ t. omega (arith, t.0)) (no_better c d (kept-best same b.loads d e c m (pairs_refl (grids_of (slots_of b) c))));
        }

pub one_for-each : OneForEach
one_for-each book b e c m =
    let x : SamePairs b c = with_pairs b c m in (
      x.choice,
      x.compared,
      x.pairs,
      λ other h q.
          neither_better b (book-valid book b e) other x.choice h.choice x.compared.choice
          (x.compared.greatest other h.choice (q ∙ sym x.pairs)) (h.greatest x.choice x.compared.choice (x.pairs ∙ sym q)),
    )

-- ---- the margin

-- the true sums of two choices with one grid pair lie at most e apart
record Apart (s : Slot) (c d : Choice) : Type 0 where
  pub active : (sum_in s.place d).p ≤ (sum_in s.place c).p + spread_of s
  pub reactive : nat_abs (sum_in s.place d).q ≤ nat_abs (sum_in s.place c).q + spread_of s

apart : (s : Slot) (c d : Choice) → 0 < s.step → length c ≤ s.loads → length d ≤ s.loads → grid_in s d ≡ grid_in s c → Apart s c d
apart s c d h n m e =
    let x : Rounded s.step (length c * (s.step - 1)) (sum_in s.place c) (grid_in s c) = rounded-choice s h c in
    let y : Rounded s.step (length d * (s.step - 1)) (sum_in s.place d) (grid_in s c)
    = subst (Rounded s.step (length d * (s.step - 1)) (sum_in s.place d)) e (rounded-choice s h d) in
    let few : x.j ≤ spread_of s = le_trans x.j_fits (mul-le-mul_right (s.step - 1) n) in
    let fed : y.j ≤ spread_of s = le_trans y.j_fits (mul-le-mul_right (s.step - 1) m) in
    record {
      active = omega (arith, x.p_is, y.p_is, le_trans y.i_fits (mul-le-mul_right (s.step - 1) m));
      reactive =
          subst (λ z. nat_abs (sum_in s.place d).q ≤ nat_abs z + spread_of s) (sym x.q_is)
          (subst (λ z. nat_abs z ≤ nat_abs (times (grid_in s c).q s.step +ℤ pos x.j) + spread_of s) (sym y.q_is)
          (abs_near (grid_in s c).q s.step (spread_of s) y.j x.j fed few));
    }

-- a choice with the pairs of one that has the margin keeps every limit
margin_keeps : (b : Problem) (c d : Choice) → 2 ≤ b.fineness → IsChoice b.loads c → IsChoice b.loads d → grids_of (slots_of b) d ≡ grids_of (slots_of b) c
    → HasMargin b c → KeepsLimits b d
margin_keeps b c d two m l e h slot k =
    let s : Slot = slot_in b slot in
    let near : Apart s c d
    = apart s c d (le-max_left 1 _) (omega (arith, chosen_length b.loads c m)) (omega (arith, chosen_length b.loads d l))
    ((slots-each (λ x. grid_in x d ≡ grid_in x c) b).0 (map_each (λ x. grid_in x d) (λ x. grid_in x c) (slots_of b) e) slot k) in
    Overload.margin (sum_in slot d).p (nat_abs (sum_in slot d).q) (sum_in slot c).p (nat_abs (sum_in slot c).q) (spread_of s) near.active near.reactive
    b.fineness (S b slot) two (spread_small (length b.loads) b.fineness b.ratio slot (S b slot))
    (subst (λ x. b.fineness * b.fineness * x ≤ (b.fineness - 2) * (b.fineness - 2) * (S b slot * S b slot)) (as_squares slot c) (h slot k))
    _ (as_squares slot d)

module _ (b : Problem) (two : 2 ≤ b.fineness) (c : Choice) (m : IsChoice b.loads c) (h : HasMargin b c) where
  keeping : (x : SamePairs b c) → KeepsLimits b x.choice
  keeping x = margin_keeps b c x.choice two m x.compared.choice x.pairs h

  -- THE MARGIN: there is a strict plan, of at least that worth
  pub margin_some : strict_plan b ≡ none → ⊥
  margin_some e =
      let x : SamePairs b c = with_pairs b c m in
      strict_none b e (record { choice = x.choice; compared = x.compared; keeps = keeping x })

  pub margin_worth : (d : Choice) → strict_plan b ≡ some d → worth_of c ≤ worth_of d
  margin_worth d e =
      let x : SamePairs b c = with_pairs b c m in
      let y : NoBetter x.choice d = (strict_is b d e).greatest x.choice x.compared (keeping x) in
      ⊎_elim (λ l. omega (arith, x.worth)) (λ t. omega (arith, t.0, x.worth)) y

-- ---- beside the plain plan

-- a choice with the pairs of an admitted one is admitted
same-admitted : (b : Problem) (c d : Choice) → grids_of (slots_of b) d ≡ grids_of (slots_of b) c → Admitted (slots_of b) c → Admitted (slots_of b) d
same-admitted b c d q h =
    (admitted-is (slots_of b) d).0
    (subst Dec.T (admitted_grids (slots_of b) c ∙ ap (admits_all (slots_of b)) (sym q) ∙ sym (admitted_grids (slots_of b) d)) ((admitted-is (slots_of b) c).1 h))

-- the plain planner has a plan too, of at least that worth
pub plain_too : (b : Problem) (c : Choice) → strict_plan b ≡ some c → (d : Choice) × (plan b ≡ some d) × (worth_of c ≤ worth_of d)
plain_too b c e = go (plan b) refl
  where
    m : IsChoice b.loads c
    m = (strict_is b c e).compared.choice

    keeps : Dec.T (keeps_limits (slots_of b) c)
    keeps = (keeps-is b c).1 (strict_is b c e).keeps

    go : (x : Option Choice) → plan b ≡ x → (d : Choice) × (plan b ≡ some d) × (worth_of c ≤ worth_of d)
    go none q = absurd (plan-none b q c m (keeps-admissible b c m keeps))
    go (some d) q = (d, q, plan-worth b d q c m keeps)

-- a plan of the plain planner that keeps every limit is the strict plan: choices with its pairs are admitted as it is, and so is every choice that keeps the limits
pub plain-kept : (b : Problem) → ValidBook b → (c : Choice) → plan b ≡ some c → KeepsLimits b c → strict_plan b ≡ some c
plain-kept b good c e k = go (strict_plan b) refl
  where
    is : IsPlan b c
    is = plan-is b c e

    mine : Compared b c
    mine = record { choice = is.choice; greatest = λ other m q. is.greatest other m (same-admitted b c other q is.admissible) }

    go : (x : Option Choice) → strict_plan b ≡ x → strict_plan b ≡ some c
    go none q = absurd (strict_none b q (record { choice = c; compared = mine; keeps = k }))
    go (some d) q =
        let s : IsStrictPlan b d = strict_is b d q in
        q
        ∙ ap some
        (neither_better b good d c s.compared.choice is.choice
        (is.greatest d s.compared.choice (keeps-admissible b d s.compared.choice ((keeps-is b d).1 s.keeps))) (s.greatest c mine k))
