-- The choices that the strict planner compares (document 02, M-109), and its plan from the cells of the table: each cell holds one of them, its own best.
-- Assumes nothing.
use mathlib.Core.Path.{◌≡◌, refl, sym, ap, ◌∙◌, subst, fun_ext}
use mathlib.Core.Bool.{Bool, true, false, cond, not, ◌&&◌}
use mathlib.Core.Logic.{◌↔◌}
use mathlib.Core.List.{List}
use mathlib.Core.Option.{Option, none, some}
use Prim.Native.Nat.{ℕ, ◌<◌}
use native.Mathlib.Omega.{arith}
use lib.Dec.{T, eqb, eqb→eq}
use Rattle.model.specs.Lists.{keep}
use Rattle.model.specs.Book.{Settings}
use Rattle.model.specs.Choice.{Choice, IsChoice, choices, code_of}
use Rattle.model.specs.Grid.{Slot, keeps_limits, grids_of, better}
use Rattle.model.specs.Trials.{cell_count}
use Rattle.model.specs.Strict.{same_pairs, compared, compared_keeping, best_keeping}
use Rattle.model.specs.Valid.{Ready}
use Rattle.model.specs.Cells.{Key, beats, choice_key, passing, best_where, best_at, join_upto, range_all, has_cell, cell_best}
use Rattle.model.specs.Index.{index_of}
use Rattle.model.proofs.ListLaws.{both, each, all-is, every_imp}
use Rattle.model.proofs.AdmissionLaws.{keeps-admitted}
use Rattle.model.proofs.RecurrenceLaws.{key?, best_key_lem, admitted_grids}
use Rattle.model.proofs.PlanLaws.{choices_are, chosen_in, chosen_length}
use Rattle.model.proofs.BestLaws.{BestOf, KeyWhere, same-best, best_one, where_best}
use Rattle.model.proofs.CellLaws.{best_by_cell}
use Rattle.model.proofs.IndexLaws.{WithinAll, index_below, index_same, pairs_eq, pairs_same}
use Rattle.model.proofs.TableLaws.{choices-within, range_admits}

-- ---- compared choices

-- none with the same pairs is better
pub compared_is : (slots : List Slot) (loads : List Settings) (c : Choice)
    → T (compared slots loads c) ↔ ((d : Choice) → IsChoice loads d → grids_of slots d ≡ grids_of slots c → better d c ≡ false)
compared_is slots loads c = (
  λ t d m e. to d e (chosen_in loads (λ x. T (worse x)) d m ((all-is worse (choices loads)).0 t)),
  λ h. (all-is worse (choices loads)).1 (every_imp (IsChoice loads) (λ d. T (worse d)) (λ d m. from d (h d m)) (choices loads) (choices_are loads)),
)
  where
    worse : Choice → Bool
    worse d = not (same_pairs slots c d && better d c)

    to : (d : Choice) → grids_of slots d ≡ grids_of slots c → T (worse d) → better d c ≡ false
    to d e t = go (same_pairs slots c d) (better d c) (pairs_same (grids_of slots c) (grids_of slots d) e) t
      where
        go : (s u : Bool) → T s → T (not (s && u)) → u ≡ false
        go true true a b = absurd b
        go true false a b = refl
        go false u a b = absurd a

    from : (d : Choice) → (grids_of slots d ≡ grids_of slots c → better d c ≡ false) → T (worse d)
    from d h = go (same_pairs slots c d) (better d c) (λ s. h (sym (pairs_eq (grids_of slots c) (grids_of slots d) s)))
      where
        go : (s u : Bool) → (T s → u ≡ false) → T (not (s && u))
        go true true a = absurd (subst T (a tt) tt)
        go true false a = tt
        go false u a = tt

-- ---- the plan from the cells

-- where t says of the code of each choice whether it keeps the limits
module _ (r n : ℕ) (slots : List Slot) (loads : List Settings) (h : Ready r n slots loads) (t : ℕ → Bool)
    (test : (c : Choice) → IsChoice loads c → keeps_limits slots c ≡ t (code_of c)) where
  -- the pairs of a choice that keeps the limits are in range
  in_range_lem : (c : Choice) → IsChoice loads c → T (keeps_limits slots c) → T (range_all slots (grids_of slots c))
  in_range_lem c m k =
      range_admits r n slots h.for (grids_of slots c)
      (subst T (admitted_grids slots c) (keeps-admitted r n slots h.for c (omega (arith, chosen_length loads c m, h.few)) k))

  within : (c : Choice) → IsChoice loads c → T (range_all slots (grids_of slots c)) → WithinAll slots (grids_of slots c)
  within c m = chosen_in loads (λ d. T (range_all slots (grids_of slots d)) → WithinAll slots (grids_of slots d)) c m (choices-within r n slots loads h)

  abbrev cell_of : Choice → ℕ
  cell_of c = index_of slots (grids_of slots c)

  -- a choice that the planner may return, and whose cell is i
  abbrev taken : Choice → Bool
  taken = compared_keeping slots loads

  abbrev taken_at : ℕ → Choice → Bool
  taken_at i c = taken c && eqb (cell_of c) i

  -- two choices of one cell have the same pairs
  same-cell : (i : ℕ) (c d : Choice) → IsChoice loads c → IsChoice loads d → T (has_cell slots i (grids_of slots c)) → T (has_cell slots i (grids_of slots d))
      → grids_of slots d ≡ grids_of slots c
  same-cell i c d m l a b =
      let x : T (range_all slots (grids_of slots c)) × T (eqb (cell_of c) i) = both (range_all slots (grids_of slots c)) (eqb (cell_of c) i) a in
      let y : T (range_all slots (grids_of slots d)) × T (eqb (cell_of d) i) = both (range_all slots (grids_of slots d)) (eqb (cell_of d) i) b in
      index_same slots (grids_of slots d) (grids_of slots c) (within d l y.0) (within c m x.0) (eqb→eq (cell_of d) i y.1 ∙ sym (eqb→eq (cell_of c) i x.1))

  module _ (i : ℕ) where
    -- what is known of a choice that may be returned from the cell
    keeps_at : (c : Choice) → T (taken_at i c) → T (keeps_limits slots c)
    keeps_at c a = (both (keeps_limits slots c) (compared slots loads c) (both (taken c) (eqb (cell_of c) i) a).0).0

    compared_at : (c : Choice) → T (taken_at i c) → T (compared slots loads c)
    compared_at c a = (both (keeps_limits slots c) (compared slots loads c) (both (taken c) (eqb (cell_of c) i) a).0).1

    has_at : (c : Choice) → IsChoice loads c → T (taken_at i c) → T (has_cell slots i (grids_of slots c))
    has_at c m a =
        each (range_all slots (grids_of slots c)) (eqb (cell_of c) i) (in_range_lem c m (keeps_at c a)) (both (taken c) (eqb (cell_of c) i) a).1

    -- of the choices of a cell none but the best is compared
    at_best : (m : Option Key) → BestOf (KeyWhere (λ c. has_cell slots i (grids_of slots c)) loads) m → BestOf (KeyWhere (taken_at i) loads) (passing t m)
    at_best none a = λ k x. a k (x.0, x.1, has_at x.0 x.1 x.2, x.3)
    at_best (some k) a = go (t k.code) refl
      where
        c : Choice
        c = a.0.0

        passes : Key → Bool
        passes x = t x.code

        -- no other choice of the cell is better
        most : (d : Choice) → IsChoice loads d → T (has_cell slots i (grids_of slots d)) → better d c ≡ false
        most d l b = subst (λ y. beats (choice_key d) y ≡ false) (sym a.0.3) (a.1 (choice_key d) (d, l, b, refl))

        go : (u : Bool) → t k.code ≡ u → BestOf (KeyWhere (taken_at i) loads) (cond u (some k) none)
        go true e = (
          (
            c,
            a.0.1,
            each (taken c) (eqb (cell_of c) i)
                (each (keeps_limits slots c) (compared slots loads c)
                (subst T (sym (test c a.0.1 ∙ ap passes a.0.3 ∙ e)) tt)
                ((compared_is slots loads c).1 (λ d l q. most d l (subst (λ g. T (has_cell slots i g)) (sym q) a.0.2))))
                (both (range_all slots (grids_of slots c)) (eqb (cell_of c) i) a.0.2).1,
            a.0.3,
          ),
          λ x y. a.1 x (y.0, y.1, has_at y.0 y.1 y.2, y.3),
        )
        go false e = λ x y.
            let d : Choice = y.0 in
            let b : T (has_cell slots i (grids_of slots d)) = has_at d y.1 y.2 in
            let q : better c d ≡ false
            = (compared_is slots loads d).0 (compared_at d y.2) c a.0.1 (same-cell i d c y.1 a.0.1 b a.0.2) in
            let s : choice_key d ≡ choice_key c = same-best (choice_key d) (choice_key c) q (most d y.1 b) in
            subst T (test d y.1 ∙ ap passes (s ∙ a.0.3) ∙ e) (keeps_at d y.2)

    cell-passing : best_where (taken_at i) (choices loads) ≡ passing t (cell_best slots loads i)
    unfolding best_at
    cell-passing =
        best_one (KeyWhere (taken_at i) loads) (best_where (taken_at i) (choices loads)) (passing t (cell_best slots loads i)) (where_best (taken_at i) loads)
        (at_best (cell_best slots loads i) (where_best (λ c. has_cell slots i (grids_of slots c)) loads))

  -- THE STRICT PLAN IS THE BEST OF THE CELLS WHOSE OWN CHOICE KEEPS THE LIMITS
  pub keeping_cells : key? (best_keeping slots loads) ≡ join_upto (cell_count slots) (λ i. passing t (cell_best slots loads i))
  unfolding best_keeping
  keeping_cells =
      best_key_lem (keep taken (choices loads))
      ∙ best_by_cell (cell_count slots) taken cell_of (choices loads)
      (every_imp (IsChoice loads) (λ c. T (taken c) → cell_of c < cell_count slots)
      (λ c m a. index_below slots (grids_of slots c) (within c m (in_range_lem c m (both (keeps_limits slots c) (compared slots loads c) a).0)))
      (choices loads) (choices_are loads))
      ∙ ap (join_upto (cell_count slots)) (fun_ext cell-passing)
