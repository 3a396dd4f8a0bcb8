-- What the ratio of a book means: the promise of its powers, that its cells suffice, and that no plan depends on it.
-- Assumes nothing.
use Prim.Native.Nat.{ℕ, suc, ◌*◌}
use mathlib.Core.Path.{◌≡◌, refl, ap, ap₂, ◌∙◌, fun_ext}
use mathlib.Core.Bool.{Bool, cond, not, ◌&&◌}
use mathlib.Core.List.{List, [], ◌∷◌, map}
use mathlib.Core.Option.{Option, none, some}
use native.Mathlib.Omega.{arith}
use lib.Dec.{leb, ltb}
use lib.ListN.{length, get_or, set, take, length-take}
use Rattle.model.specs.declared.Refusal.TheVariants.{BudgetExceeded, NoPlan}
use Rattle.model.specs.Lists.{Every, keep, all, sum_below, distinct, same_lists}
use Rattle.model.specs.Refusals.{done, ◌⇒◌, first, checked}
use Rattle.model.specs.Book.{Problem}
use Rattle.model.specs.Choice.{Choice, choices, plus, power_in, sum_in, square, apparent_squared}
use Rattle.model.specs.Grid.{Slot, step_for, slot_at, slots_from, slots_of, keeps_limits, GridPair, grid_of, grid_in, grids_of, admits, admitted, better, best, best_admitted, plan}
use Rattle.model.specs.Trials.{grid_top, same_pair, in_range, reached_count, trials}
use Rattle.model.specs.Answers.{room_rule}
use Rattle.model.specs.Sheet.{sums_and_limits, sheet_bytes, sheet_of, sheet_length}
use Rattle.model.specs.Calls.{planned, plan_sheet}
use Rattle.model.specs.Quick.{Candidate, candidates_from, sorted, take_if_fits, take_each, first_settings, quick_choice, quick_rules, quick_sheet}
use Rattle.model.specs.Strict.{compared, best_keeping, strict_plan}
use Rattle.model.specs.Valid.{SettingKept}
use Rattle.model.specs.Ratio.{PromiseKept, PairsWithin, with_ratio, SamePlan}
use Rattle.model.proofs.ListLaws.{every_take, every_mem}
use Rattle.model.proofs.ChoiceLaws.{choice_every}
use Rattle.model.proofs.PlanLaws.{chosen_length}
use Rattle.model.proofs.AdmissionLaws.{slots-for}
use Rattle.model.proofs.ValidLaws.{book-valid}
use Rattle.model.proofs.TableLaws.{slots-within}

pub promise_kept : PromiseKept
promise_kept book b e = let valid = book-valid book b e in (valid.ratio_some, valid.ratio_few, valid.loads.keeps)

-- EVERY PAIR OF A CHOICE HAS A CELL
pub pairs_within : PairsWithin
pairs_within book b e k c m =
    let p = promise_kept book b e in
    slots-within b.ratio (length b.loads) p.0 (slots_of b) (slots-for b) c
    (omega (arith, chosen_length (take k b.loads) c m, length-take k b.loads))
    (choice_every (Every (SettingKept b.ratio)) (SettingKept b.ratio) (λ vs v h i. every_mem (SettingKept b.ratio) v vs i h) (take k b.loads) c (every_take (Every (SettingKept b.ratio)) k b.loads p.2) m)

-- ---- no plan depends on it

module _ (n d r q : ℕ) where
  grid_same : (i s : ℕ) (c : Choice) → grid_in (slot_at n d r i s) c ≡ grid_in (slot_at n d q i s) c
  grid_same i s [] = refl
  grid_same i s (v ∷ c) = ap (plus (grid_of (step_for n d s) (power_in i v))) (grid_same i s c)

  grids_same : (i : ℕ) (ss : List ℕ) (c : Choice) → grids_of (slots_from n d r i ss) c ≡ grids_of (slots_from n d q i ss) c
  grids_same i [] c = refl
  grids_same i (s ∷ ss) c = ap₂ {C = List GridPair} (λ g gs. g ∷ gs) (grid_same i s c) (grids_same (suc i) ss c)

  -- a test of each slot that does not ask for the ratio
  all_same : (p : Slot → Bool) → ((i s : ℕ) → p (slot_at n d r i s) ≡ p (slot_at n d q i s)) → (i : ℕ) (ss : List ℕ) → all p (slots_from n d r i ss) ≡ all p (slots_from n d q i ss)
  all_same p e i [] = refl
  all_same p e i (s ∷ ss) = ap₂ ◌&&◌ (e i s) (all_same p e (suc i) ss)

  range_same : (i : ℕ) (ss : List ℕ) (c : Choice) → in_range (slots_from n d r i ss) c ≡ in_range (slots_from n d q i ss) c
  range_same i ss c = all_same (λ s. leb (grid_in s c).p (grid_top s)) (λ j s. ap (λ g. leb g.p (grid_top (slot_at n d q j s))) (grid_same j s c)) i ss

  admitted-same : (i : ℕ) (ss : List ℕ) (c : Choice) → admitted (slots_from n d r i ss) c ≡ admitted (slots_from n d q i ss) c
  admitted-same i ss c = all_same (λ s. admits s (grid_in s c)) (λ j s. ap (admits (slot_at n d q j s)) (grid_same j s c)) i ss

  keeps_same : (i : ℕ) (ss : List ℕ) (c : Choice) → keeps_limits (slots_from n d r i ss) c ≡ keeps_limits (slots_from n d q i ss) c
  keeps_same i ss c = all_same (λ s. leb (apparent_squared (sum_in s.place c)) (square s.limit)) (λ j s. refl) i ss

  taken-same : (ss : List ℕ) (c : Choice) (xs : List Candidate) → take_each (slots_from n d r 0 ss) c xs ≡ take_each (slots_from n d q 0 ss) c xs
  unfolding take_if_fits
  taken-same ss c [] = refl
  taken-same ss c (x ∷ xs) =
      ap (λ t. take_each (slots_from n d r 0 ss) (cond t (set c x.place x.option) c) xs) (keeps_same 0 ss (set c x.place x.option))
      ∙ taken-same ss (cond (keeps_limits (slots_from n d q 0 ss) (set c x.place x.option)) (set c x.place x.option) c) xs

module _ (r : ℕ) (b : Problem) where
  plan-same : plan (with_ratio r b) ≡ plan b
  unfolding plan best_admitted slots_of
  plan-same = ap (λ p. best (keep p (choices b.loads))) (fun_ext (admitted-same (length b.loads) b.fineness r b.ratio 0 b.limits))

  strict_same : strict_plan (with_ratio r b) ≡ strict_plan b
  unfolding strict_plan best_keeping slots_of
  strict_same = ap (λ p. best (keep p (choices b.loads))) (fun_ext (λ c. ap₂ ◌&&◌ (keeps_same (length b.loads) b.fineness r b.ratio 0 b.limits c) (same c)))
    where
      pairs : (c : Choice) → grids_of (slots_of (with_ratio r b)) c ≡ grids_of (slots_of b) c
      pairs = grids_same (length b.loads) b.fineness r b.ratio 0 b.limits

      same : (c : Choice) → compared (slots_of (with_ratio r b)) b.loads c ≡ compared (slots_of b) b.loads c
      same c =
          ap (λ p. all p (choices b.loads))
          (fun_ext (λ d. ap₂ (λ (g h : List GridPair). not (same_lists same_pair g h && better d c)) (pairs c) (pairs d)))

  trials-same : trials (with_ratio r b) ≡ trials b
  unfolding trials reached_count slots_of
  trials-same = ap (sum_below (length b.loads)) (fun_ext (λ k. ap (λ m. m * length (get_or b.loads k [])) (reached k)))
    where
      reached : (k : ℕ) → reached_count (slots_of (with_ratio r b)) (take k b.loads) ≡ reached_count (slots_of b) (take k b.loads)
      reached k =
          ap₂ (λ (g : Choice → List GridPair) (p : Choice → Bool). length (distinct (same_lists same_pair) (map g (keep p (choices (take k b.loads))))))
          (fun_ext (grids_same (length b.loads) b.fineness r b.ratio 0 b.limits))
          (fun_ext (range_same (length b.loads) b.fineness r b.ratio 0 b.limits))

  planned-same : (x : Option Choice) → planned (with_ratio r b) x ≡ planned b x
  unfolding sheet_bytes sums_and_limits
  planned-same none = refl
  planned-same (some c) = ap (λ t. done (sheet_of b c t)) trials-same

  sheet-same : (p : Problem → Option Choice) → p (with_ratio r b) ≡ p b → plan_sheet p (with_ratio r b) ≡ plan_sheet p b
  unfolding plan_sheet
  sheet-same p e =
      ap₂ (λ t x. checked 0 (first ((ltb b.budget t ⇒ BudgetExceeded) ∷ [])) x) trials-same (planned-same (p (with_ratio r b)) ∙ ap (planned b) e)

  quick_same : (room : ℕ) → quick_sheet room (with_ratio r b) ≡ quick_sheet room b
  unfolding quick_sheet quick_rules quick_choice slots_of sheet_bytes sums_and_limits
  quick_same room =
      ap₂ (λ t c. checked 0 (first (room_rule (sheet_length b) room ∷ (not t ⇒ NoPlan) ∷ [])) (done (sheet_of b c (length b.loads))))
      (keeps_same (length b.loads) b.fineness r b.ratio 0 b.limits (first_settings b))
      (taken-same (length b.loads) b.fineness r b.ratio b.limits (first_settings b) (sorted (candidates_from 0 b.loads)))

pub same-plan : SamePlan
same-plan r b = (sheet-same r b plan (plan-same r b), sheet-same r b strict_plan (strict_same r b), quick_same r b)
