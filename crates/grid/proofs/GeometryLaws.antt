-- The rows, columns and cells of the table, from the last slot to the first; those of some last slots are no more than those of all.
-- Assumes nothing.
use Prim.Native.Nat.{ℕ, zero, suc, ◌+◌, ◌*◌, ◌-◌, ◌<◌, ◌≤◌}
use mathlib.Core.Path.{◌≡◌, sym, ap, ap₂, ◌∙◌, subst}
use mathlib.Core.List.{List, [], ◌∷◌}
use native.Mathlib.Nat.{le_refl, le_trans, mul-le-mul, mul-le-mul_left, mul-le-mul_right, mul_comm}
use native.Mathlib.Omega.{arith}
use lib.ListN.{length, get_or, set, drop, length-set, drop_of_length-le}
use lib.Seq.{drop-cons}
use Rattle.model.specs.Bounds.{most_cells}
use Rattle.model.specs.Grid.{Slot, grids_of}
use Rattle.model.specs.Trials.{grid_top, width_of, pairs_of, cell_count}
use Rattle.model.specs.Index.{depth_of, row_count, column_count, column_index}
use Rattle.model.proofs.IndexLaws.{cells-area}
use Rattle.grid.specs.declared.Grid.{Grid}
use Rattle.grid.specs.declared.SlotGrid.{SlotGrid}
use Rattle.grid.specs.Geometry.{SlotIs, no_slot, no_sizes, entry_at, GridIs}
use Rattle.grid.proofs.ArrayLaws.{set-down}

pub rows_some : (slots : List Slot) → 1 ≤ row_count slots
rows_some [] = omega arith
rows_some (s ∷ slots) = let h : 1 ≤ grid_top s + 1 = omega arith in mul-le-mul (rows_some slots) h

pub columns_some : (slots : List Slot) → 1 ≤ column_count slots
columns_some [] = omega arith
columns_some (s ∷ slots) = let h : 1 ≤ width_of s = omega arith in mul-le-mul (columns_some slots) h

-- the product from some slot on, where every factor is at least 1
cells-drop : (slots : List Slot) (t : ℕ) → cell_count (drop t slots) ≤ cell_count slots
cells-drop slots zero = le_refl _
cells-drop [] (suc t) = le_refl _
cells-drop (s ∷ slots) (suc t) =
    let a : 1 ≤ grid_top s + 1 = omega arith in
    let b : 1 ≤ width_of s = omega arith in
    let h : 1 ≤ pairs_of s = mul-le-mul a b in
    let k : 1 * cell_count slots ≤ pairs_of s * cell_count slots = mul-le-mul_right (cell_count slots) h in
    le_trans (cells-drop slots t) (subst (λ n. n ≤ pairs_of s * cell_count slots) (omega arith) k)

pub cells_over : (slots : List Slot) (t n : ℕ) → n ≡ cell_count (drop t slots) → most_cells < n → most_cells < cell_count slots
cells_over slots t n e h = omega (arith, cells-drop slots t)

-- the rows and the columns of a table within the bound are
module _ (slots : List Slot) (fits : cell_count slots ≤ most_cells) where
  pub rows_fit : row_count slots ≤ most_cells
  rows_fit = omega (arith, cells-area slots, mul-le-mul_left (row_count slots) (columns_some slots))

  pub columns_fit : column_count slots ≤ most_cells
  columns_fit = omega (arith, cells-area slots, mul-le-mul_right (column_count slots) (rows_some slots))

pub cells_fit : (slots : List Slot) (t : ℕ) → cell_count slots ≤ most_cells → cell_count (drop t slots) ≤ most_cells
cells_fit slots t h = omega (arith, cells-drop slots t)

-- a loop's t counts down
pub back_one : (P : ℕ → Type 0) (t : ℕ) → 0 < t → P t → P (suc (t - 1))
back_one P t h p = let e : t ≡ suc (t - 1) = omega arith in subst P e p

-- one slot sooner
module _ (slots : List Slot) (t : ℕ) (l : t < length slots) (x : SlotGrid) (is : SlotIs (get_or slots t no_slot) x) where
  pub rows_more : row_count (drop (suc t) slots) * x.top ≡ row_count (drop t slots)
  rows_more = ap (λ n. row_count (drop (suc t) slots) * n) is.top_is ∙ ap row_count (sym (drop-cons slots t no_slot l))

  pub columns_more : column_count (drop (suc t) slots) * x.width ≡ column_count (drop t slots)
  columns_more = ap (λ n. column_count (drop (suc t) slots) * n) is.width_is ∙ ap column_count (sym (drop-cons slots t no_slot l))

  cells-more : cell_count (drop (suc t) slots) * (x.top * x.width) ≡ cell_count (drop t slots)
  cells-more =
      mul_comm (cell_count (drop (suc t) slots)) (x.top * x.width)
      ∙ ap (λ n. n * cell_count (drop (suc t) slots)) (ap₂ ◌*◌ is.top_is is.width_is)
      ∙ ap cell_count (sym (drop-cons slots t no_slot l))

  origin_more : column_index (drop (suc t) slots) (grids_of (drop (suc t) slots) []) * x.width + x.depth ≡ column_index (drop t slots) (grids_of (drop t slots) [])
  origin_more =
      let zero-raised : depth_of (get_or slots t no_slot) ≡ 0 + depth_of (get_or slots t no_slot) - 0 = omega arith in
      ap₂ (λ w d. column_index (drop (suc t) slots) (grids_of (drop (suc t) slots) []) * w + d) is.width_is (is.depth_is ∙ zero-raised)
      ∙ ap (λ ss. column_index ss (grids_of ss [])) (sym (drop-cons slots t no_slot l))

-- ---- the geometry as it is made, from slot t on

pub record MadeFrom (slots : List Slot) (t : ℕ) (v : Grid) : Type 0 where
  pub sizes_length : length v.sizes ≡ 4
  pub each : (i : ℕ) → t ≤ i → i < length slots → SlotIs (get_or slots i no_slot) (entry_at v i)
  pub rows_are : v.rows ≡ row_count (drop t slots)
  pub width_is : v.width ≡ column_count (drop t slots)
  pub cells_are : v.cells ≡ cell_count (drop t slots)
  pub origin_is : v.origin ≡ column_index (drop t slots) (grids_of (drop t slots) [])
  pub below : v.origin < v.width

pub grid_none : (slots : List Slot) (n : ℕ) (sizes : List SlotGrid) → n ≡ length slots → length sizes ≡ 4
    → MadeFrom slots n (record { slots = n; sizes = sizes; rows = 1; width = 1; cells = 1; origin = 0 })
grid_none slots n sizes e a =
    let none : drop n slots ≡ [] = drop_of_length-le slots {i = n} (omega arith) in
    record {
      sizes_length = a;
      each = λ i h l. absurd (omega arith);
      rows_are = ap row_count (sym none);
      width_is = ap column_count (sym none);
      cells_are = ap cell_count (sym none);
      origin_is = ap (λ ss. column_index ss (grids_of ss [])) (sym none);
      below = omega arith;
    }

-- with slot t
abbrev pub grid_with : Grid → ℕ → SlotGrid → Grid
grid_with v t x =
    record {
      slots = v.slots;
      sizes = set v.sizes t x;
      rows = v.rows * x.top;
      width = v.width * x.width;
      cells = v.cells * (x.top * x.width);
      origin = v.origin * x.width + x.depth;
    }

module _ (slots : List Slot) (t : ℕ) (few : length slots ≤ 4) (l : t < length slots) (x : SlotGrid) (is : SlotIs (get_or slots t no_slot) x)
    (deep : x.depth < x.width) (v : Grid) (g : MadeFrom slots (suc t) v) where
  pub grid_more : MadeFrom slots t (grid_with v t x)
  grid_more =
      record {
        sizes_length = length-set v.sizes t x ∙ g.sizes_length;
        each = set-down (λ i y. SlotIs (get_or slots i no_slot) y) v.sizes t (length slots) x no_sizes (omega (arith, g.sizes_length)) is g.each;
        rows_are = ap (λ n. n * x.top) g.rows_are ∙ rows_more slots t l x is;
        width_is = ap (λ n. n * x.width) g.width_is ∙ columns_more slots t l x is;
        cells_are = ap (λ n. n * (x.top * x.width)) g.cells_are ∙ cells-more slots t l x is;
        origin_is = ap (λ n. n * x.width + x.depth) g.origin_is ∙ origin_more slots t l x is;
        below = omega (arith, deep, mul-le-mul_right x.width g.below);
      }

-- what is multiplied and added on the way to slot t, from a table within the bound
pub record Small (v : Grid) (x : SlotGrid) : Type 0 where
  pub rows : v.rows * x.top ≤ 68719476736
  pub width : v.width * x.width ≤ 412462612480
  pub pairs : x.top * x.width ≤ 25778913280
  pub cells : v.cells * (x.top * x.width) ≤ 27031149771489280
  pub origin : v.origin * x.width + x.depth ≤ 412462612480

pub products_small : (slots : List Slot) (t : ℕ) (v : Grid) (x : SlotGrid) → MadeFrom slots t v → v.cells ≤ most_cells
    → x.top ≤ 65536 → x.width ≤ 393355 → x.depth < x.width → Small v x
products_small slots t v x g fits a b deep =
    let inside : cell_count (drop t slots) ≤ most_cells = omega (arith, g.cells_are) in
    let rows : v.rows ≤ most_cells = omega (arith, g.rows_are, rows_fit (drop t slots) inside) in
    let width : v.width ≤ most_cells = omega (arith, g.width_is, columns_fit (drop t slots) inside) in
    let pairs : x.top * x.width ≤ 65536 * 393355 = mul-le-mul a b in
    let wide : v.width * x.width ≤ 1048576 * 393355 = mul-le-mul width b in
    record {
      rows = omega (arith, mul-le-mul rows a);
      width = omega (arith, wide);
      pairs = omega (arith, pairs);
      cells = omega (arith, mul-le-mul fits pairs);
      origin = omega (arith, wide, mul-le-mul_right x.width g.below);
    }

-- all slots
pub grid_all : (slots : List Slot) (t : ℕ) (v : Grid) → t ≡ 0 → v.slots ≡ length slots → length slots ≤ 4 → MadeFrom slots t v → v.cells ≤ most_cells → GridIs slots v
grid_all slots t v none e few from fits =
    let g : MadeFrom slots 0 v = subst (λ n. MadeFrom slots n v) none from in
    record {
      slots_are = e;
      slots_fit = few;
      each = λ i l. g.each i (omega arith) l;
      rows_are = g.rows_are;
      width_is = g.width_is;
      cells_are = g.cells_are;
      cells_fit = fits;
      origin_is = g.origin_is;
    }
