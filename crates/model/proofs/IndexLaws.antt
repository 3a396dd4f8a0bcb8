-- A cell index for lists of grid pairs, by rows: below the number of cells, and different for different lists, where every pair is within the slot's
-- range. The pairs that choices of a book have are within it once a ≤ R. For every ratio from 1 on.
-- Assumes nothing.
use mathlib.Core.Path.{◌≡◌, refl, sym, ap, ap₂, ◌∙◌, subst}
use mathlib.Core.Logic.{◌⊎◌, inl, inr}
use mathlib.Core.List.{List, [], ◌∷◌}
use Prim.Native.Nat.{ℕ, ◌+◌, ◌*◌, ◌-◌, ◌<◌, ◌≤◌, ◌/◌, ◌%◌}
use native.Mathlib.Nat.{mul_comm, mul_assoc, mul-le-mul_left, mul-le-mul_right, div-add-mod', mod-lt, div-lt_iff_lt-mul}
use native.Mathlib.Omega.{arith}
use lib.Arith.{digits_lt, digits_div, digits_mod}
use lib.Dec.{T, eqb, eqb→eq, eqb_refl}
use lib.IntN.{ℤ, pos, negsuc, nat_abs, sub_ℕ, ◌+ℤ◌}
use lib.ListN.{length}
use Rattle.model.specs.Lists.{Every, same_lists}
use Rattle.model.specs.Book.{Power}
use Rattle.model.specs.Choice.{Choice, power_in}
use Rattle.model.specs.Grid.{Slot, floor_div, grid_in}
use Rattle.model.specs.Trials.{grid_top, width_of, pairs_of, cell_count, sameℤ, same_pair}
use Rattle.model.specs.Index.{up, down, depth_of, Within, raised_in, row_index, column_index, row_count, column_count, index_of, grid_from}
use Rattle.model.specs.Valid.{SettingKept}
use Rattle.model.proofs.ListLaws.{both, each, bool_same}
use Rattle.model.proofs.IntegerLaws.{split, sub_pos, sub_neg, sub_same, sub-add, as_sub}

abbrev pub grid_at : List Slot → ℕ → List Power
grid_at slots i = grid_from slots (i / column_count slots) (i % column_count slots)

-- the rows and columns make up the cells
pub cells-area : (slots : List Slot) → row_count slots * column_count slots ≡ cell_count slots
cells-area [] = omega arith
cells-area (s ∷ slots) =
    swap (row_count slots) (grid_top s + 1) (column_count slots) (width_of s)
    ∙ ap (λ n. pairs_of s * n) (cells-area slots)
  where
    swap : (a b c d : ℕ) → a * b * (c * d) ≡ b * d * (a * c)
    swap a b c d =
        mul_assoc a b (c * d)
        ∙ ap (λ x. a * x) (sym (mul_assoc b c d) ∙ ap (λ x. x * d) (mul_comm b c) ∙ mul_assoc c b d)
        ∙ sym (mul_assoc a c (b * d))
        ∙ mul_comm (a * c) (b * d)

abbrev pub WithinAll : List Slot → List Power → Type 0
WithinAll [] [] = Unit {0}
WithinAll [] (g ∷ gs) = ⊥
WithinAll (s ∷ slots) [] = ⊥
WithinAll (s ∷ slots) (g ∷ gs) = Within s g × WithinAll slots gs

active_below : {s : Slot} {g : Power} → Within s g → g.p < grid_top s + 1
active_below w = omega (arith, w.active)

raised_below : {s : Slot} {g : Power} → Within s g → raised_in s g < width_of s
raised_below w = omega (arith, w.high)

pub row_below : (slots : List Slot) (gs : List Power) → WithinAll slots gs → row_index slots gs < row_count slots
row_below [] [] w = omega arith
row_below [] (g ∷ gs) w = absurd w
row_below (s ∷ slots) [] w = absurd w
row_below (s ∷ slots) (g ∷ gs) w = digits_lt (row_below slots gs w.1) (active_below w.0)

pub column_below : (slots : List Slot) (gs : List Power) → WithinAll slots gs → column_index slots gs < column_count slots
column_below [] [] w = omega arith
column_below [] (g ∷ gs) w = absurd w
column_below (s ∷ slots) [] w = absurd w
column_below (s ∷ slots) (g ∷ gs) w = digits_lt (column_below slots gs w.1) (raised_below w.0)

pub index_below : (slots : List Slot) (gs : List Power) → WithinAll slots gs → index_of slots gs < cell_count slots
index_below slots gs w =
    subst (λ n. index_of slots gs < n) (cells-area slots)
    (digits_lt (row_below slots gs w) (column_below slots gs w))

-- ---- the list from the cell, so different lists have different cells

pub grid_from_lem : (slots : List Slot) (gs : List Power) → WithinAll slots gs → grid_from slots (row_index slots gs) (column_index slots gs) ≡ gs
grid_from_lem [] [] w = refl
grid_from_lem [] (g ∷ gs) w = absurd w
grid_from_lem (s ∷ slots) [] w = absurd w
grid_from_lem (s ∷ slots) (g ∷ gs) w =
    ap₂ {C = List Power} (λ x rest. x ∷ rest)
    (λ i. record { p = digits_mod (row_index slots gs) (active_below w.0) i; q = reactive i })
    (ap₂ (grid_from slots) (digits_div (row_index slots gs) (active_below w.0)) (digits_div (column_index slots gs) (raised_below w.0))
    ∙ grid_from_lem slots gs w.1)
  where
    reactive : sub_ℕ ((column_index slots gs * width_of s + raised_in s g) % width_of s) (depth_of s) ≡ g.q
    reactive =
        ap (λ n. sub_ℕ n (depth_of s)) (digits_mod (column_index slots gs) (raised_below w.0))
        ∙ sub_same (raised_in s g) (depth_of s) (up g.q) (down g.q) (omega (arith, w.0.low))
        ∙ sym (as_sub g.q)

pub grid_back : (slots : List Slot) (gs : List Power) → WithinAll slots gs → grid_at slots (index_of slots gs) ≡ gs
grid_back slots gs w =
    ap₂ (grid_from slots)
    (digits_div (row_index slots gs) (column_below slots gs w))
    (digits_mod (row_index slots gs) (column_below slots gs w))
    ∙ grid_from_lem slots gs w

pub index_same : (slots : List Slot) (gs hs : List Power) → WithinAll slots gs → WithinAll slots hs
    → index_of slots gs ≡ index_of slots hs → gs ≡ hs
index_same slots gs hs v w e = sym (grid_back slots gs v) ∙ ap (grid_at slots) e ∙ grid_back slots hs w

-- ---- the test on lists of pairs

same_int : (x y : ℤ) → T (sameℤ x y) → x ≡ y
same_int (pos m) (pos n) t = ap {B = ℤ} pos (eqb→eq m n t)
same_int (pos m) (negsuc n) t = absurd t
same_int (negsuc m) (pos n) t = absurd t
same_int (negsuc m) (negsuc n) t = ap {B = ℤ} negsuc (eqb→eq m n t)

int_refl : (x : ℤ) → T (sameℤ x x)
int_refl (pos n) = eqb_refl n
int_refl (negsuc n) = eqb_refl n

same_pair_lem : (g h : Power) → T (same_pair g h) → g ≡ h
same_pair_lem g h t =
    let a : T (eqb g.p h.p) × T (sameℤ g.q h.q) = both (eqb g.p h.p) (sameℤ g.q h.q) t in
    λ i. record { p = eqb→eq g.p h.p a.0 i; q = same_int g.q h.q a.1 i }

pub pairs_eq : (gs hs : List Power) → T (same_lists same_pair gs hs) → gs ≡ hs
pairs_eq [] [] t = refl
pairs_eq [] (h ∷ hs) t = absurd t
pairs_eq (g ∷ gs) [] t = absurd t
pairs_eq (g ∷ gs) (h ∷ hs) t =
    let a : T (same_pair g h) × T (same_lists same_pair gs hs) = both (same_pair g h) (same_lists same_pair gs hs) t in
    ap₂ {C = List Power} (λ x rest. x ∷ rest) (same_pair_lem g h a.0) (pairs_eq gs hs a.1)

pub pairs_refl : (gs : List Power) → T (same_lists same_pair gs gs)
pairs_refl [] = tt
pairs_refl (g ∷ gs) =
    each (same_pair g g) (same_lists same_pair gs gs)
    (each (eqb g.p g.p) (sameℤ g.q g.q) (eqb_refl g.p) (int_refl g.q))
    (pairs_refl gs)

pub pairs_same : (gs hs : List Power) → hs ≡ gs → T (same_lists same_pair gs hs)
pairs_same gs hs e = subst (λ z. T (same_lists same_pair gs z)) (sym e) (pairs_refl gs)

-- the lists are the same exactly when their cells are
pub index_apart : (slots : List Slot) (gs hs : List Power) → WithinAll slots gs → WithinAll slots hs
    → same_lists same_pair gs hs ≡ eqb (index_of slots hs) (index_of slots gs)
index_apart slots gs hs v w =
    bool_same (same_lists same_pair gs hs) (eqb (index_of slots hs) (index_of slots gs))
    (λ t. subst (λ z. T (eqb (index_of slots z) (index_of slots gs))) (pairs_eq gs hs t) (eqb_refl (index_of slots gs)))
    (λ t. pairs_same gs hs (index_same slots hs gs w v (eqb→eq _ _ t)))

-- ---- the pairs of a choice are within the range, once a ≤ R

sub_parts : (a b : ℕ) → (up (sub_ℕ a b) ≤ a) × (up (sub_ℕ a b) + b ≡ a + down (sub_ℕ a b))
sub_parts a b = go (split a b)
  where
    go : (a < b) ⊎ (b ≤ a) → (up (sub_ℕ a b) ≤ a) × (up (sub_ℕ a b) + b ≡ a + down (sub_ℕ a b))
    go (inl h) = subst (λ z. (up z ≤ a) × (up z + b ≡ a + down z)) (sym (sub_neg a b h)) (omega arith, omega arith)
    go (inr h) = subst (λ z. (up z ≤ a) × (up z + b ≡ a + down z)) (sym (sub_pos a b h)) (omega arith, omega arith)

-- a sum is up at most what its parts are, and exceeds what it is down as they do
pub int_plus : (x y : ℤ) → (up (x +ℤ y) ≤ up x + up y) × (up (x +ℤ y) + (down x + down y) ≡ up x + up y + down (x +ℤ y))
int_plus x y =
    subst (λ z. (up z ≤ up x + up y) × (up z + (down x + down y) ≡ up x + up y + down z))
    (sym (ap₂ ◌+ℤ◌ (as_sub x) (as_sub y) ∙ sub-add (up x) (down x) (up y) (down y)))
    (sub_parts (up x + up y) (down x + down y))

-- one rounded Q, for |Q| ≤ r P
quotient_less : (r l n p : ℕ) → 0 < r → 0 < l → n ≤ r * p → n / l < r * (p / l) + r
quotient_less r l n p hr hl h =
    (div-lt_iff_lt-mul hl).1
    (omega (arith, mul-le-mul_left {m = p + 1} {n = p / l * l + l} r (omega (arith, div-add-mod' p l, mod-lt p hl))))

module _ (r l : ℕ) (hr : 0 < r) (hl : 0 < l) where
  up_grid : (p : ℕ) (q : ℤ) → nat_abs q ≤ r * p → up (floor_div q l) < r * (p / l) + r
  up_grid p (pos n) h = quotient_less r l n p hr hl h
  up_grid p (negsuc n) h = omega arith

  down_grid : (p : ℕ) (q : ℤ) → nat_abs q ≤ r * p → down (floor_div q l) ≤ r * (p / l) + r
  down_grid p (pos n) h = omega arith
  down_grid p (negsuc n) h = omega (arith, quotient_less r l n p hr hl (omega arith))

module _ (r : ℕ) (hr : 0 < r) (s : Slot) (hl : 0 < s.step) where
  up-choice : (c : Choice) → Every (SettingKept r) c → up (grid_in s c).q + length c ≤ r * (grid_in s c).p + r * length c
  up-choice [] k = omega arith
  up-choice (v ∷ c) k =
      omega (
        arith,
        (int_plus (floor_div (power_in s.place v).q s.step) (grid_in s c).q).0,
        up_grid r s.step hr hl (power_in s.place v).p (power_in s.place v).q (k.0 s.place),
        up-choice c k.1,
      )

  down-choice : (c : Choice) → Every (SettingKept r) c → down (grid_in s c).q ≤ r * (grid_in s c).p + r * length c
  down-choice [] k = omega arith
  down-choice (v ∷ c) k =
      omega (
        arith,
        (int_plus (floor_div (power_in s.place v).q s.step) (grid_in s c).q).0,
        (int_plus (floor_div (power_in s.place v).q s.step) (grid_in s c).q).1,
        down_grid r s.step hr hl (power_in s.place v).p (power_in s.place v).q (k.0 s.place),
        down-choice c k.1,
      )

-- THE WIDTH: as many values of b above 0 as below it, less N
pub width_is : (s : Slot) → 0 < s.ratio → width_of s + s.loads ≡ 2 * depth_of s + 1
width_is s h = let odd : 2 * s.ratio - 1 + 1 ≡ 2 * s.ratio = omega arith in omega (arith, ap (λ m. m * s.loads) odd)

-- EVERY b OF A CHOICE WITH a ≤ R LIES WITHIN, for every ratio: it is at most rR + (r - 1) × N, and at least -r × (R + N)
pub within-choice : (s : Slot) (c : Choice) → 0 < s.step → 0 < s.ratio → length c ≤ s.loads → Every (SettingKept s.ratio) c
    → (grid_in s c).p ≤ grid_top s → Within s (grid_in s c)
within-choice s c hl hr n k a =
    let rest : s.loads ≡ length c + (s.loads - length c) = omega arith in
    record {
      active = a;
      low = omega (arith, down-choice s.ratio hr s hl c k, mul-le-mul_left s.ratio a, mul-le-mul_left s.ratio n);
      high =
          omega (
            arith,
            up-choice s.ratio hr s hl c k,
            mul-le-mul_left s.ratio a,
            ap (λ m. s.ratio * m) rest,
            mul-le-mul_right (s.loads - length c) hr,
            width_is s hr,
          );
    }
