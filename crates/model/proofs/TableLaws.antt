-- What a table of cells holds, and that it suffices: the count H, one more load, and the plan, each from the cells alone.
-- Assumes nothing.
use mathlib.Core.Path.{◌≡◌, refl, sym, ap, ap₂, ◌∙◌, subst, fun_ext}
use mathlib.Core.Bool.{Bool, true, false, cond, ◌&&◌, ◌||◌}
use mathlib.Core.List.{List, [], ◌∷◌, map}
use mathlib.Core.Option.{Option, none, some}
use Prim.Native.Nat.{ℕ, ◌+◌, ◌<◌, ◌≤◌, ◌/◌}
use native.Mathlib.Nat.{le_trans, le-add_right}
use native.Mathlib.Omega.{arith}
use lib.Dec.{T, leb, leb→le, le→leb, eqb, eqb→eq}
use lib.ListN.{length}
use Rattle.model.specs.Lists.{Every, keep, keep_if, any, same_lists}
use Rattle.model.specs.Book.{Power, Setting, Settings}
use Rattle.model.specs.Choice.{Choice, choices, with_each, power_in}
use Rattle.model.specs.Grid.{Slot, grid_in, grids_of, admits, best_admitted}
use Rattle.model.specs.Trials.{grid_top, cell_count, same_pair, in_range, reached_count}
use Rattle.model.specs.Valid.{SettingKept, SlotsFor, Ready}
use Rattle.model.specs.Cells.{Key, best_key, passing, setting_grids, choice_key, best_where, best_at, admits_all, join_upto, is_some, count_upto, range_all, has_cell, cell_best}
use Rattle.model.specs.Index.{Within, index_of}
use Rattle.model.proofs.ListLaws.{both, each, bool_same, every_imp, every_append, every_map, every_keep, keep_same}
use Rattle.model.proofs.ChoiceLaws.{Sized, choices_sized, plus_each}
use Rattle.model.proofs.RecurrenceLaws.{key?, plan_key}
use Rattle.model.proofs.CellLaws.{best_by_cell, some-any, distinct-count}
use Rattle.model.proofs.AdmissionLaws.{admits_range}
use Rattle.model.proofs.IndexLaws.{grid_at, grid_back, WithinAll, index_below, index_apart, within-choice}

-- ---- a property of every setting of every load holds in every choice

module _ (P : Setting → Type 0) where
  every_with : (vs : Settings) (cs : List Choice) → Every P vs → Every (Every P) cs → Every (Every P) (with_each vs cs)
  every_with vs [] a b = tt
  every_with vs (c ∷ cs) a b =
      every_append (Every P) (map (λ v. v ∷ c) vs) (with_each vs cs)
      (every_map (Every P) (λ v. v ∷ c) vs (every_imp P (λ v. Every P (v ∷ c)) (λ v p. (p, b.0)) vs a))
      (every_with vs cs a b.1)

  every_choice : (loads : List Settings) → Every (Every P) loads → Every (Every P) (choices loads)
  every_choice [] h = (tt, tt)
  every_choice (vs ∷ loads) h = every_with vs (choices loads) h.0 (every_choice loads h.1)

-- every choice of loads has their number of settings, and each of its settings keeps a property that all settings keep
module _ (P : Setting → Type 0) (Q : Choice → Type 0) (loads : List Settings)
    (f : (c : Choice) → length c ≡ length loads → Every P c → Q c) where
  each_of : (cs : List Choice) → Sized (length loads) cs → Every (Every P) cs → Every Q cs
  each_of [] z h = tt
  each_of (c ∷ cs) z h = (f c z.0 h.0, each_of cs z.1 h.1)

  pub each-choice : Every (Every P) loads → Every Q (choices loads)
  each-choice h = each_of (choices loads) (choices_sized loads) (every_choice P loads h)

-- ---- the pairs that are in the table

pub range_grids : (slots : List Slot) (c : Choice) → in_range slots c ≡ range_all slots (grids_of slots c)
range_grids [] c = refl
range_grids (s ∷ slots) c = ap (λ t. leb (grid_in s c).p (grid_top s) && t) (range_grids slots c)

-- in each slot in which its a is at most R, the pair of a choice has a cell
pub slots-within : (r n : ℕ) → 0 < r → (slots : List Slot) → SlotsFor r n slots → (c : Choice) → length c ≤ n → Every (SettingKept r) c
    → Every (λ s. (grid_in s c).p ≤ grid_top s → Within s (grid_in s c)) slots
slots-within r n hr [] z c l k = tt
slots-within r n hr (s ∷ slots) z c l k = (
  within-choice s c z.0.0 (omega (arith, z.0.2)) (omega (arith, z.0.1)) (subst (λ x. Every (SettingKept x) c) (sym z.0.2) k),
  slots-within r n hr slots z.1 c l k,
)

pub within_all : (r n : ℕ) → 0 < r → (slots : List Slot) → SlotsFor r n slots → (c : Choice) → length c ≤ n → Every (SettingKept r) c
    → T (range_all slots (grids_of slots c)) → WithinAll slots (grids_of slots c)
within_all r n hr slots z c l k = go slots (slots-within r n hr slots z c l k)
  where
    go : (ss : List Slot) → Every (λ s. (grid_in s c).p ≤ grid_top s → Within s (grid_in s c)) ss → T (range_all ss (grids_of ss c)) → WithinAll ss (grids_of ss c)
    go [] w t = tt
    go (s ∷ ss) w t =
        let parts : T (leb (grid_in s c).p (grid_top s)) × T (range_all ss (grids_of ss c)) = both (leb (grid_in s c).p (grid_top s)) (range_all ss (grids_of ss c)) t in
        (w.0 (leb→le _ _ parts.0), go ss w.1 parts.1)

-- all choices whose pairs are in range have a cell
pub choices-within : (r n : ℕ) (slots : List Slot) (loads : List Settings) → Ready r n slots loads
    → Every (λ c. T (range_all slots (grids_of slots c)) → WithinAll slots (grids_of slots c)) (choices loads)
choices-within r n slots loads h =
    each-choice (SettingKept r) (λ c. T (range_all slots (grids_of slots c)) → WithinAll slots (grids_of slots c)) loads
    (λ c e k. within_all r n h.some_ratio slots h.for c (omega (arith, h.few)) k)
    h.keeps

-- ---- H is the number of cells that hold something

kept-within : (slots : List Slot) (cs : List Choice)
    → Every (λ c. T (range_all slots (grids_of slots c)) → WithinAll slots (grids_of slots c)) cs
    → Every (WithinAll slots) (map (grids_of slots) (keep (in_range slots) cs))
kept-within slots cs h =
    every_map (WithinAll slots) (grids_of slots) (keep (in_range slots) cs)
    (every_imp
    (λ c. (T (range_all slots (grids_of slots c)) → WithinAll slots (grids_of slots c)) × T (in_range slots c))
    (λ c. WithinAll slots (grids_of slots c))
    (λ c k. k.0 (subst T (range_grids slots c) k.1))
    (keep (in_range slots) cs)
    (every_keep (λ c. T (range_all slots (grids_of slots c)) → WithinAll slots (grids_of slots c)) (in_range slots) cs h))

any-kept : (slots : List Slot) (i : ℕ) (cs : List Choice)
    → any (λ g. eqb (index_of slots g) i) (map (grids_of slots) (keep (in_range slots) cs)) ≡ any (λ c. has_cell slots i (grids_of slots c)) cs
any-kept slots i [] = refl
any-kept slots i (c ∷ cs) = go (in_range slots c) (range_grids slots c) (any-kept slots i cs)
  where
    go : (t : Bool) → t ≡ range_all slots (grids_of slots c)
        → any (λ g. eqb (index_of slots g) i) (map (grids_of slots) (keep (in_range slots) cs)) ≡ any (λ d. has_cell slots i (grids_of slots d)) cs
        → any (λ g. eqb (index_of slots g) i) (map (grids_of slots) (keep_if t c (keep (in_range slots) cs)))
        ≡ (has_cell slots i (grids_of slots c) || any (λ d. has_cell slots i (grids_of slots d)) cs)
    go true e ih = ap₂ ◌||◌ (ap (λ t. t && eqb (index_of slots (grids_of slots c)) i) e) ih
    go false e ih = ap₂ ◌||◌ (ap (λ t. t && eqb (index_of slots (grids_of slots c)) i) e) ih

pub reached-cells : (r n : ℕ) (slots : List Slot) (loads : List Settings) → Ready r n slots loads
    → reached_count slots loads ≡ count_upto (cell_count slots) (λ i. is_some (cell_best slots loads i))
unfolding best_at reached_count
reached-cells r n slots loads h =
    distinct-count (WithinAll slots) (same_lists same_pair) (index_of slots) (cell_count slots)
    (index_below slots) (index_apart slots)
    (map (grids_of slots) (keep (in_range slots) (choices loads)))
    (kept-within slots (choices loads) (choices-within r n slots loads h))
    ∙ ap (count_upto (cell_count slots))
    (fun_ext (λ i. any-kept slots i (choices loads) ∙ sym (some-any (λ c. has_cell slots i (grids_of slots c)) (choices loads))))

-- ---- the best at a test, from the cells

where_none : (cs : List Choice) → best_where (λ c. false) cs ≡ none
where_none [] = refl
where_none (c ∷ cs) = where_none cs

pub where_test : (t : Bool) (q : Choice → Bool) (cs : List Choice) → best_where (λ c. t && q c) cs ≡ cond t (best_where q cs) none
where_test true q cs = refl
where_test false q cs = where_none cs

-- at a list of pairs g, "G, and its cell is i" is "G at cell i's list, and i is its cell"
cell_test : (slots : List Slot) (G : List Power → Bool) → ((g : List Power) → T (G g) → T (range_all slots g))
    → (i : ℕ) (g : List Power) → (T (range_all slots g) → WithinAll slots g)
    → (G g && eqb (index_of slots g) i) ≡ (G (grid_at slots i) && has_cell slots i g)
cell_test slots G f i g w =
    bool_same (G g && eqb (index_of slots g) i) (G (grid_at slots i) && has_cell slots i g) to from
  where
    at : T (range_all slots g) → T (eqb (index_of slots g) i) → g ≡ grid_at slots i
    at a b = sym (grid_back slots g (w a)) ∙ ap (grid_at slots) (eqb→eq (index_of slots g) i b)

    to : T (G g && eqb (index_of slots g) i) → T (G (grid_at slots i) && has_cell slots i g)
    to t =
        let p : T (G g) × T (eqb (index_of slots g) i) = both (G g) (eqb (index_of slots g) i) t in
        each (G (grid_at slots i)) (has_cell slots i g)
        (subst (λ z. T (G z)) (at (f g p.0) p.1) p.0)
        (each (range_all slots g) (eqb (index_of slots g) i) (f g p.0) p.1)

    from : T (G (grid_at slots i) && has_cell slots i g) → T (G g && eqb (index_of slots g) i)
    from t =
        let p : T (G (grid_at slots i)) × T (has_cell slots i g) = both (G (grid_at slots i)) (has_cell slots i g) t in
        let q : T (range_all slots g) × T (eqb (index_of slots g) i) = both (range_all slots g) (eqb (index_of slots g) i) p.1 in
        each (G g) (eqb (index_of slots g) i) (subst (λ z. T (G z)) (sym (at q.0 q.1)) p.0) q.1

-- for a test that holds only in range, the best at it is the best of the cells whose list passes it
pub best-cells : (r n : ℕ) (slots : List Slot) (loads : List Settings) → Ready r n slots loads
    → (G : List Power → Bool) → ((g : List Power) → T (G g) → T (range_all slots g))
    → best_at slots G loads
    ≡ join_upto (cell_count slots) (λ i. cond (G (grid_at slots i)) (cell_best slots loads i) none)
unfolding best_at
best-cells r n slots loads h G f =
    best_by_cell (cell_count slots) (λ c. G (grids_of slots c)) (λ c. index_of slots (grids_of slots c)) (choices loads)
    (every_imp
    (λ c. T (range_all slots (grids_of slots c)) → WithinAll slots (grids_of slots c))
    (λ c. T (G (grids_of slots c)) → index_of slots (grids_of slots c) < cell_count slots)
    (λ c w t. index_below slots (grids_of slots c) (w (f (grids_of slots c) t)))
    (choices loads) within)
    ∙ ap (join_upto (cell_count slots)) (fun_ext at)
  where
    within : Every (λ c. T (range_all slots (grids_of slots c)) → WithinAll slots (grids_of slots c)) (choices loads)
    within = choices-within r n slots loads h

    at : (i : ℕ) → best_where (λ c. G (grids_of slots c) && eqb (index_of slots (grids_of slots c)) i) (choices loads)
        ≡ cond (G (grid_at slots i)) (best_where (λ c. has_cell slots i (grids_of slots c)) (choices loads)) none
    at i =
        ap (λ cs. best_key (map choice_key cs))
        (keep_same
        (λ c. G (grids_of slots c) && eqb (index_of slots (grids_of slots c)) i)
        (λ c. G (grid_at slots i) && has_cell slots i (grids_of slots c))
        (choices loads)
        (every_imp
        (λ c. T (range_all slots (grids_of slots c)) → WithinAll slots (grids_of slots c))
        (λ c. (G (grids_of slots c) && eqb (index_of slots (grids_of slots c)) i) ≡ (G (grid_at slots i) && has_cell slots i (grids_of slots c)))
        (λ c w. cell_test slots G f i (grids_of slots c) w)
        (choices loads) within))
        ∙ where_test (G (grid_at slots i)) (λ c. has_cell slots i (grids_of slots c)) (choices loads)

-- ---- one more setting

pub range_plus : (slots : List Slot) (g : List Power) (v : Setting) → T (range_all slots (plus_each g (setting_grids slots v))) → T (range_all slots g)
range_plus [] g v t = tt
range_plus (s ∷ slots) [] v t = tt
range_plus (s ∷ slots) (x ∷ g) v t =
    each (leb x.p (grid_top s)) (range_all slots g)
    (le→leb x.p (grid_top s) (le_trans (le-add_right x.p ((power_in s.place v).p / s.step)) (leb→le _ _ parts.0)))
    (range_plus slots g v parts.1)
  where
    parts : T (leb (x.p + (power_in s.place v).p / s.step) (grid_top s)) × T (range_all slots (plus_each g (setting_grids slots v)))
    parts = both (leb (x.p + (power_in s.place v).p / s.step) (grid_top s)) (range_all slots (plus_each g (setting_grids slots v))) t

-- ---- the plan, from the cells

pub range_admits : (r n : ℕ) (slots : List Slot) → SlotsFor r n slots → (g : List Power) → T (admits_all slots g) → T (range_all slots g)
range_admits r n [] z g t = tt
range_admits r n (s ∷ slots) z [] t = tt
range_admits r n (s ∷ slots) z (x ∷ g) t =
    each (leb x.p (grid_top s)) (range_all slots g)
    (le→leb x.p (grid_top s) (admits_range s x z.0.0 (both (admits s x) (admits_all slots g) t).0))
    (range_admits r n slots z.1 g (both (admits s x) (admits_all slots g) t).1)

-- a test that does not ask for the code
passing-cond : (t : Bool) (x : Option Key) → cond t x none ≡ passing (λ k. t) x
passing-cond true none = refl
passing-cond false none = refl
passing-cond t (some x) = refl

pub plan-cells : (r n : ℕ) (slots : List Slot) (loads : List Settings) → Ready r n slots loads
    → key? (best_admitted slots loads)
    ≡ join_upto (cell_count slots) (λ i. passing (λ k. admits_all slots (grid_at slots i)) (cell_best slots loads i))
plan-cells r n slots loads h =
    plan_key slots loads
    ∙ best-cells r n slots loads h (admits_all slots) (range_admits r n slots h.for)
    ∙ ap (join_upto (cell_count slots)) (fun_ext (λ i. passing-cond (admits_all slots (grid_at slots i)) (cell_best slots loads i)))
