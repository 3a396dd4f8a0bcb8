-- The table by rows: what a setting adds to a cell's row and column, and so the one cell from which a setting comes to a cell.
-- Assumes nothing.
use mathlib.Core.Path.{◌≡◌, refl, sym, ap, ap₂, ◌∙◌, subst}
use mathlib.Core.Bool.{Bool, true, false, cond, ◌&&◌}
use mathlib.Core.Logic.{◌⊎◌, inl, inr, ⊎_elim}
use mathlib.Core.List.{List, [], ◌∷◌, map}
use mathlib.Core.Option.{Option, none, some}
use Prim.Native.Nat.{ℕ, zero, suc, ◌+◌, ◌*◌, ◌-◌, ◌<◌, ◌≤◌, ◌/◌, ◌%◌, ◌^◌}
use native.Mathlib.Nat.{add-mul, mul-le-mul, mul-le-mul_right, div-add-mod', mod-lt, pow-succ'}
use native.Mathlib.Omega.{arith}
use lib.Arith.{digits_div, digits_mod}
use lib.Dec.{T, leb, ltb, eqb, leb→le, le→leb, eqb→eq, eqb_refl}
use lib.ListN.{length, get_or, take, length-append}
use borrow.Author.Tests.{lt-ltb, ltb-true}
use lib.Seq.{take-suc, length-take-le}
use Rattle.model.specs.Lists.{Every, keep, keep_if}
use Rattle.model.specs.Book.{Power, Setting, Settings}
use Rattle.model.specs.Choice.{Choice, choices, plus, worth_of, code_of}
use Rattle.model.specs.Grid.{Slot, grid_in, grids_of}
use Rattle.model.specs.Trials.{grid_top, width_of, cell_count}
use Rattle.model.specs.Valid.{SettingKept, SlotsFor, Ready, SettingBelow}
use Rattle.model.specs.Cells.{Key, beats, join, best_key, setting_grid, setting_grids, choice_key, best_where, best_at, join_upto, range_all, has_cell, cell_best, Bounded}
use Rattle.model.specs.Index.{up, down, raised_in, row_index, column_index, row_count, column_count, index_of, column_up, column_down}
use Rattle.model.specs.Bounds.{most_cells, most_rows}
use Rattle.model.proofs.KeyLaws.{join-none, join_assoc}
use Rattle.model.proofs.ListLaws.{both, each, bool_same, keep_same, every_imp, every_append, every_at}
use Rattle.model.proofs.IntegerLaws.{split}
use Rattle.model.proofs.ChoiceLaws.{snoc, plus_each, grids_last}
use Rattle.model.proofs.RecurrenceLaws.{best_over, step, best_at_last}
use Rattle.model.proofs.IndexLaws.{WithinAll, cells-area, column_below, int_plus, width_is}
use Rattle.model.proofs.TableLaws.{each-choice, within_all, where_test, range_plus}
use Rattle.model.proofs.LoopLaws.{ready-take}

-- the row's digits are at least the setting's a in every slot
abbrev pub covers_all : List Slot → List Power → ℕ → Bool
covers_all [] xs row = true
covers_all (s ∷ slots) [] row = true
covers_all (s ∷ slots) (x ∷ xs) row = leb x.p (row % (grid_top s + 1)) && covers_all slots xs (row / (grid_top s + 1))

-- ---- the row and the column of a sum

pub row_plus : (slots : List Slot) (c : Choice) (v : Setting)
    → row_index slots (plus_each (grids_of slots c) (setting_grids slots v)) ≡ row_index slots (grids_of slots c) + row_index slots (setting_grids slots v)
row_plus [] c v = refl
row_plus (s ∷ slots) c v =
    ap (λ n. n * (grid_top s + 1) + ((grid_in s c).p + (setting_grid s v).p)) (row_plus slots c v)
    ∙ (omega (arith, add-mul (row_index slots (grids_of slots c)) (row_index slots (setting_grids slots v)) (grid_top s + 1)))

pub digit-plus : (C' D C U w b' d b u : ℕ) → C' + D ≡ C + U → b' + d ≡ b + u → C' * w + b' + (D * w + d) ≡ C * w + b + (U * w + u)
digit-plus C' D C U w b' d b u e f = omega (arith, sym (add-mul C' D w) ∙ ap (λ n. n * w) e ∙ add-mul C U w)

pub column_plus : (slots : List Slot) (c : Choice) (v : Setting) → WithinAll slots (grids_of slots c)
    → WithinAll slots (plus_each (grids_of slots c) (setting_grids slots v))
    → column_index slots (plus_each (grids_of slots c) (setting_grids slots v)) + column_down slots (setting_grids slots v)
    ≡ column_index slots (grids_of slots c) + column_up slots (setting_grids slots v)
column_plus [] c v w w' = refl
column_plus (s ∷ slots) c v w w' =
    digit-plus
    (column_index slots (plus_each (grids_of slots c) (setting_grids slots v))) (column_down slots (setting_grids slots v))
    (column_index slots (grids_of slots c)) (column_up slots (setting_grids slots v)) (width_of s)
    (raised_in s (plus (grid_in s c) (setting_grid s v))) (down (setting_grid s v).q) (raised_in s (grid_in s c)) (up (setting_grid s v).q)
    (column_plus slots c v w.1 w'.1)
    (omega (arith, (int_plus (grid_in s c).q (setting_grid s v).q).1, w.0.low, w'.0.low))

-- ---- no slot carries exactly where the row covers what was added

pub covers_plus : (slots : List Slot) (c : Choice) (v : Setting) → T (range_all slots (plus_each (grids_of slots c) (setting_grids slots v)))
    → T (covers_all slots (setting_grids slots v) (row_index slots (plus_each (grids_of slots c) (setting_grids slots v))))
covers_plus [] c v t = tt
covers_plus (s ∷ slots) c v t =
    each (leb (setting_grid s v).p ((rest * (grid_top s + 1) + here) % (grid_top s + 1)))
    (covers_all slots (setting_grids slots v) ((rest * (grid_top s + 1) + here) / (grid_top s + 1)))
    (le→leb (setting_grid s v).p ((rest * (grid_top s + 1) + here) % (grid_top s + 1)) (omega (arith, digits_mod rest low)))
    (subst (λ n. T (covers_all slots (setting_grids slots v) n)) (sym (digits_div rest low)) (covers_plus slots c v parts.1))
  where
    rest : ℕ
    rest = row_index slots (plus_each (grids_of slots c) (setting_grids slots v))

    here : ℕ
    here = (grid_in s c).p + (setting_grid s v).p

    parts : T (leb ((grid_in s c).p + (setting_grid s v).p) (grid_top s)) × T (range_all slots (plus_each (grids_of slots c) (setting_grids slots v)))
    parts = both (leb ((grid_in s c).p + (setting_grid s v).p) (grid_top s)) (range_all slots (plus_each (grids_of slots c) (setting_grids slots v))) t

    low : (grid_in s c).p + (setting_grid s v).p < grid_top s + 1
    low = omega (arith, leb→le ((grid_in s c).p + (setting_grid s v).p) (grid_top s) parts.0)

pub covers_le : (slots : List Slot) (v : Setting) (row : ℕ) → T (covers_all slots (setting_grids slots v) row) → row_index slots (setting_grids slots v) ≤ row
covers_le [] v row t = omega arith
covers_le (s ∷ slots) v row t =
    omega (
      arith,
      leb→le (setting_grid s v).p (row % (grid_top s + 1)) parts.0,
      mul-le-mul_right (grid_top s + 1) (covers_le slots v (row / (grid_top s + 1)) parts.1),
      div-add-mod' row (grid_top s + 1),
    )
  where
    parts : T (leb (setting_grid s v).p (row % (grid_top s + 1))) × T (covers_all slots (setting_grids slots v) (row / (grid_top s + 1)))
    parts = both (leb (setting_grid s v).p (row % (grid_top s + 1))) (covers_all slots (setting_grids slots v) (row / (grid_top s + 1))) t

-- digits a and x of two numbers, base m: the sum's digit and rest, unless it carries, and then its digit is below x
no_carry : (A G a x m : ℕ) → a + x < m → ((A * m + a + (G * m + x)) % m ≡ a + x) × ((A * m + a + (G * m + x)) / m ≡ A + G)
no_carry A G a x m l =
    let e : A * m + a + (G * m + x) ≡ (A + G) * m + (a + x) = omega (arith, add-mul A G m) in
    (ap (λ n. n % m) e ∙ digits_mod (A + G) l, ap (λ n. n / m) e ∙ digits_div (A + G) l)

carry : (A G a x m : ℕ) → a < m → m ≤ a + x → x ≤ (A * m + a + (G * m + x)) % m → ⊥
carry A G a x m la h k =
    let z : 0 < m = omega arith in
    let b = mod-lt (A * m + a + (G * m + x)) z in
    let e : A * m + a + (G * m + x) ≡ (A + G + 1) * m + (a + x - m) = omega (arith, add-mul A G m, add-mul (A + G) 1 m) in
    let l : a + x - m < m = omega arith in
    let d : (A * m + a + (G * m + x)) % m ≡ a + x - m = ap (λ n. n % m) e ∙ digits_mod (A + G + 1) l in
    omega arith

pub covers_range : (slots : List Slot) (c : Choice) (v : Setting) → T (range_all slots (grids_of slots c))
    → T (covers_all slots (setting_grids slots v) (row_index slots (grids_of slots c) + row_index slots (setting_grids slots v)))
    → T (range_all slots (plus_each (grids_of slots c) (setting_grids slots v)))
covers_range [] c v t u = tt
covers_range (s ∷ slots) c v t u = go (split ((grid_in s c).p + (setting_grid s v).p) (grid_top s + 1)) (covers_range slots c v range.1)
  where
    A : ℕ
    A = row_index slots (grids_of slots c)

    G : ℕ
    G = row_index slots (setting_grids slots v)

    m : ℕ
    m = grid_top s + 1

    row : ℕ
    row = A * m + (grid_in s c).p + (G * m + (setting_grid s v).p)

    range : T (leb (grid_in s c).p (grid_top s)) × T (range_all slots (grids_of slots c))
    range = both (leb (grid_in s c).p (grid_top s)) (range_all slots (grids_of slots c)) t

    parts : T (leb (setting_grid s v).p (row % m)) × T (covers_all slots (setting_grids slots v) (row / m))
    parts = both (leb (setting_grid s v).p (row % m)) (covers_all slots (setting_grids slots v) (row / m)) u

    go : ((grid_in s c).p + (setting_grid s v).p < grid_top s + 1) ⊎ (grid_top s + 1 ≤ (grid_in s c).p + (setting_grid s v).p)
        → (T (covers_all slots (setting_grids slots v) (A + G)) → T (range_all slots (plus_each (grids_of slots c) (setting_grids slots v))))
        → T (leb ((grid_in s c).p + (setting_grid s v).p) (grid_top s) && range_all slots (plus_each (grids_of slots c) (setting_grids slots v)))
    go (inl l) ih =
        each (leb ((grid_in s c).p + (setting_grid s v).p) (grid_top s)) (range_all slots (plus_each (grids_of slots c) (setting_grids slots v)))
        (le→leb ((grid_in s c).p + (setting_grid s v).p) (grid_top s) (omega arith))
        (ih (subst (λ n. T (covers_all slots (setting_grids slots v) n)) (no_carry A G (grid_in s c).p (setting_grid s v).p m l).1 parts.1))
    go (inr h) ih =
        absurd
        (carry A G (grid_in s c).p (setting_grid s v).p m
        (omega (arith, leb→le (grid_in s c).p (grid_top s) range.0)) h (leb→le (setting_grid s v).p (row % m) parts.0))

-- ---- the one cell from which a setting comes to the cell at a row and a column

abbrev pub source_test : List Slot → Setting → ℕ → ℕ → Bool
source_test slots v row col =
    covers_all slots (setting_grids slots v) row
    && (leb (column_up slots (setting_grids slots v)) (col + column_down slots (setting_grids slots v))
    && ltb (col + column_down slots (setting_grids slots v) - column_up slots (setting_grids slots v)) (column_count slots))

abbrev pub source_cell : List Slot → Setting → ℕ → ℕ → ℕ
source_cell slots v row col =
    (row - row_index slots (setting_grids slots v)) * column_count slots
    + (col + column_down slots (setting_grids slots v) - column_up slots (setting_grids slots v))

-- a cell has one row and one column
pub place : {row row' col col' : ℕ} (w : ℕ) → col < w → col' < w → row * w + col ≡ row' * w + col' → (row ≡ row') × (col ≡ col')
place {row} {row'} w l l' e =
    (sym (digits_div row l) ∙ ap (λ n. n / w) e ∙ digits_div row' l', sym (digits_mod row l) ∙ ap (λ n. n % w) e ∙ digits_mod row' l')

less_test : (a b : ℕ) → a < b → T (ltb a b)
less_test a b h = subst T (sym (lt-ltb a b h)) tt

test_true : (t : Bool) → T t → t ≡ true
test_true true h = refl
test_true false h = absurd h

module _ (slots : List Slot) (c : Choice) (v : Setting)
    (w : T (range_all slots (grids_of slots c)) → WithinAll slots (grids_of slots c))
    (w' : T (range_all slots (plus_each (grids_of slots c) (setting_grids slots v))) → WithinAll slots (plus_each (grids_of slots c) (setting_grids slots v)))
    (row col : ℕ) (l : col < column_count slots) where
  cell_to : T (has_cell slots (row * column_count slots + col) (plus_each (grids_of slots c) (setting_grids slots v)))
      → T (source_test slots v row col && has_cell slots (source_cell slots v row col) (grids_of slots c))
  cell_to t =
      let W : ℕ = column_count slots in
      let g : List Power = grids_of slots c in
      let x : List Power = setting_grids slots v in
      let p : T (range_all slots (plus_each g x)) × T (eqb (index_of slots (plus_each g x)) (row * W + col)) =
      both (range_all slots (plus_each g x)) (eqb (index_of slots (plus_each g x)) (row * W + col)) t in
      let a : T (range_all slots g) = range_plus slots g v p.0 in
      let q : (row_index slots (plus_each g x) ≡ row) × (column_index slots (plus_each g x) ≡ col) =
      place W (column_below slots (plus_each g x) (w' p.0)) l (eqb→eq (index_of slots (plus_each g x)) (row * W + col) p.1) in
      let e : column_index slots (plus_each g x) + column_down slots x ≡ column_index slots g + column_up slots x = column_plus slots c v (w a) (w' p.0) in
      let f : row_index slots (plus_each g x) ≡ row_index slots g + row_index slots x = row_plus slots c v in
      let b : column_index slots g < W = column_below slots g (w a) in
      let col_is : column_index slots g ≡ col + column_down slots x - column_up slots x = omega (arith, q.1) in
      let row_is : row_index slots g ≡ row - row_index slots x = omega (arith, q.0) in
      each (source_test slots v row col) (has_cell slots (source_cell slots v row col) g)
      (each (covers_all slots x row) (leb (column_up slots x) (col + column_down slots x) && ltb (col + column_down slots x - column_up slots x) W)
      (subst (λ n. T (covers_all slots x n)) q.0 (covers_plus slots c v p.0))
      (each (leb (column_up slots x) (col + column_down slots x)) (ltb (col + column_down slots x - column_up slots x) W)
      (le→leb (column_up slots x) (col + column_down slots x) (omega (arith, q.1)))
      (less_test (col + column_down slots x - column_up slots x) W (omega (arith, q.1)))))
      (each (range_all slots g) (eqb (index_of slots g) (source_cell slots v row col)) a
      (subst (λ n. T (eqb (index_of slots g) n)) (ap₂ (λ m n. m * W + n) row_is col_is) (eqb_refl (index_of slots g))))

  cell_from : T (source_test slots v row col && has_cell slots (source_cell slots v row col) (grids_of slots c))
      → T (has_cell slots (row * column_count slots + col) (plus_each (grids_of slots c) (setting_grids slots v)))
  cell_from t =
      let W : ℕ = column_count slots in
      let g : List Power = grids_of slots c in
      let x : List Power = setting_grids slots v in
      let p : T (source_test slots v row col) × T (has_cell slots (source_cell slots v row col) g) =
      both (source_test slots v row col) (has_cell slots (source_cell slots v row col) g) t in
      let k : T (covers_all slots x row) × T (leb (column_up slots x) (col + column_down slots x) && ltb (col + column_down slots x - column_up slots x) W) =
      both (covers_all slots x row) (leb (column_up slots x) (col + column_down slots x) && ltb (col + column_down slots x - column_up slots x) W) p.0 in
      let o : T (leb (column_up slots x) (col + column_down slots x)) × T (ltb (col + column_down slots x - column_up slots x) W) =
      both (leb (column_up slots x) (col + column_down slots x)) (ltb (col + column_down slots x - column_up slots x) W) k.1 in
      let up_in : column_up slots x ≤ col + column_down slots x = leb→le _ _ o.0 in
      let col_in : col + column_down slots x - column_up slots x < W = ltb-true _ _ (test_true _ o.1) in
      let h : T (range_all slots g) × T (eqb (index_of slots g) (source_cell slots v row col)) =
      both (range_all slots g) (eqb (index_of slots g) (source_cell slots v row col)) p.1 in
      let q : (row_index slots g ≡ row - row_index slots x) × (column_index slots g ≡ col + column_down slots x - column_up slots x) =
      place W (column_below slots g (w h.0)) col_in (eqb→eq (index_of slots g) (source_cell slots v row col) h.1) in
      let back : row_index slots x ≤ row = covers_le slots v row k.0 in
      let sum : row ≡ row_index slots g + row_index slots x = omega (arith, q.0) in
      let a : T (range_all slots (plus_each g x)) = covers_range slots c v h.0 (subst (λ n. T (covers_all slots x n)) sum k.0) in
      let e : column_index slots (plus_each g x) + column_down slots x ≡ column_index slots g + column_up slots x = column_plus slots c v (w h.0) (w' a) in
      let f : row_index slots (plus_each g x) ≡ row_index slots g + row_index slots x = row_plus slots c v in
      let row_is : row_index slots (plus_each g x) ≡ row = omega (arith, q.0) in
      let col_is : column_index slots (plus_each g x) ≡ col = omega (arith, q.1) in
      each (range_all slots (plus_each g x)) (eqb (index_of slots (plus_each g x)) (row * W + col)) a
      (subst (λ n. T (eqb (index_of slots (plus_each g x)) n)) (ap₂ (λ m n. m * W + n) row_is col_is) (eqb_refl (index_of slots (plus_each g x))))

  pub cell-source : has_cell slots (row * column_count slots + col) (plus_each (grids_of slots c) (setting_grids slots v))
      ≡ (source_test slots v row col && has_cell slots (source_cell slots v row col) (grids_of slots c))
  cell-source =
      bool_same (has_cell slots (row * column_count slots + col) (plus_each (grids_of slots c) (setting_grids slots v)))
      (source_test slots v row col && has_cell slots (source_cell slots v row col) (grids_of slots c)) cell_to cell_from

-- ---- one load more, cell by cell

over-same : (n : ℕ) (f g : Setting → Option Key) (vs : Settings) → Every (λ v. f v ≡ g v) vs → best_over n f vs ≡ best_over n g vs
over-same n f g [] h = refl
over-same n f g (v ∷ vs) h = ap₂ join (ap (step n v) h.0) (over-same n f g vs h.1)

length_last : (c : Choice) (v : Setting) → length (snoc v c) ≡ length c + 1
length_last c v = length-append c (v ∷ [])

-- what a setting brings to a cell: the best at the one cell from which it comes
source-best : (r n : ℕ) (slots : List Slot) (loads : List Settings) (v : Setting) → Ready r n slots loads → length loads + 1 ≤ n → SettingKept r v
    → (row col : ℕ) → col < column_count slots
    → best_at slots (λ g. has_cell slots (row * column_count slots + col) (plus_each g (setting_grids slots v))) loads
    ≡ cond (source_test slots v row col) (cell_best slots loads (source_cell slots v row col)) none
unfolding best_at
source-best r n slots loads v h few keeps row col l =
    ap (λ cs. best_key (map choice_key cs))
    (keep_same
    (λ c. has_cell slots (row * column_count slots + col) (plus_each (grids_of slots c) (setting_grids slots v)))
    (λ c. source_test slots v row col && has_cell slots (source_cell slots v row col) (grids_of slots c))
    (choices loads)
    (each-choice (SettingKept r)
    (λ c. has_cell slots (row * column_count slots + col) (plus_each (grids_of slots c) (setting_grids slots v))
    ≡ (source_test slots v row col && has_cell slots (source_cell slots v row col) (grids_of slots c)))
    loads at h.keeps))
    ∙ where_test (source_test slots v row col) (λ c. has_cell slots (source_cell slots v row col) (grids_of slots c)) (choices loads)
  where
    at : (c : Choice) → length c ≡ length loads → Every (SettingKept r) c
        → has_cell slots (row * column_count slots + col) (plus_each (grids_of slots c) (setting_grids slots v))
        ≡ (source_test slots v row col && has_cell slots (source_cell slots v row col) (grids_of slots c))
    at c e q =
        cell-source slots c v
        (within_all r n h.some_ratio slots h.for c (omega arith) q)
        (subst (λ g. T (range_all slots g) → WithinAll slots g) (grids_last slots c v)
        (within_all r n h.some_ratio slots h.for (snoc v c) (omega (arith, length_last c v)) (every_append (SettingKept r) c (v ∷ []) q (keeps, tt))))
        row col l

-- LOAD k + 1, BY ROWS: each cell is the best, over the load's settings, of the one cell from which the setting comes
pub rows_step : (r n : ℕ) (slots : List Slot) (loads : List Settings) → Ready r n slots loads → (k : ℕ) → k < length loads
    → (row col : ℕ) → col < column_count slots
    → cell_best slots (take (suc k) loads) (row * column_count slots + col)
    ≡ best_over k (λ v. cond (source_test slots v row col) (cell_best slots (take k loads) (source_cell slots v row col)) none) (get_or loads k [])
rows_step r n slots loads h k l row col m =
    ap (λ ls. cell_best slots ls (row * column_count slots + col)) (take-suc loads k [] l)
    ∙ best_at_last slots (has_cell slots (row * column_count slots + col)) (take k loads) (get_or loads k [])
    ∙ ap (λ n. best_over n
    (λ v. best_at slots (λ g. has_cell slots (row * column_count slots + col) (plus_each g (setting_grids slots v))) (take k loads)) (get_or loads k []))
    (length-take-le k loads (omega arith))
    ∙ over-same k
    (λ v. best_at slots (λ g. has_cell slots (row * column_count slots + col) (plus_each g (setting_grids slots v))) (take k loads))
    (λ v. cond (source_test slots v row col) (cell_best slots (take k loads) (source_cell slots v row col)) none)
    (get_or loads k [])
    (every_imp (SettingKept r)
    (λ v. best_at slots (λ g. has_cell slots (row * column_count slots + col) (plus_each g (setting_grids slots v))) (take k loads)
    ≡ cond (source_test slots v row col) (cell_best slots (take k loads) (source_cell slots v row col)) none)
    (λ v q. source-best r n slots (take k loads) v (ready-take r n slots loads k h) (omega (arith, length-take-le k loads (omega arith), h.few)) q row col m)
    (get_or loads k []) (every_at (Every (SettingKept r)) loads [] h.keeps k l))

-- the best over settings as the best of their places
upto-shift : (n : ℕ) (f : ℕ → Option Key) → join_upto (suc n) f ≡ join (f 0) (join_upto n (λ i. f (suc i)))
upto-shift zero f = sym (join-none (f 0))
upto-shift (suc n) f = ap (λ x. join x (f (suc n))) (upto-shift n f) ∙ sym (join_assoc (f 0) (join_upto n (λ i. f (suc i))) (f (suc n)))

pub over-upto : (k : ℕ) (d : Setting) (old : Setting → Option Key) (vs : Settings)
    → best_over k old vs ≡ join_upto (length vs) (λ m. step k (get_or vs m d) (old (get_or vs m d)))
over-upto k d old [] = refl
over-upto k d old (v ∷ vs) =
    ap (join (step k v (old v))) (over-upto k d old vs)
    ∙ sym (upto-shift (length vs) (λ m. step k (get_or (v ∷ vs) m d) (old (get_or (v ∷ vs) m d))))

-- ---- small numbers: a load adds at most `top` to the worth, and its number is at most 3

choice-worth : (top : ℕ) (c : Choice) → Every (SettingBelow top) c → worth_of c ≤ top * length c
choice-worth top [] h = omega arith
choice-worth top (v ∷ c) h = omega (arith, choice-worth top c h.1, h.0.0)

choice-code : (top : ℕ) (c : Choice) → Every (SettingBelow top) c → code_of c < 4 ^ length c
choice-code top [] h = omega arith
choice-code top (v ∷ c) h = omega (arith, choice-code top c h.1, h.0.1, pow-succ' 4 (length c))

join_bounded : (w c : ℕ) (x : Key) (y : Option Key) → (x.worth ≤ w) × (x.code < c) → Bounded w c y → Bounded w c (join (some x) y)
join_bounded w c x none h k = h
join_bounded w c x (some y) h k = go (beats y x)
  where
    go : (t : Bool) → ((cond t y x).worth ≤ w) × ((cond t y x).code < c)
    go true = k
    go false = h

bounded_where : (w c : ℕ) (p : Choice → Bool) (cs : List Choice) → Every (λ d. (worth_of d ≤ w) × (code_of d < c)) cs → Bounded w c (best_where p cs)
bounded_where w c p [] h = tt
bounded_where w c p (d ∷ cs) h = go (p d) (bounded_where w c p cs h.1)
  where
    go : (t : Bool) → Bounded w c (best_where p cs) → Bounded w c (best_key (map choice_key (keep_if t d (keep p cs))))
    go true ih = join_bounded w c (choice_key d) (best_where p cs) h.0 ih
    go false ih = ih

pub cell_bounded : (top : ℕ) (slots : List Slot) (loads : List Settings) → Every (Every (SettingBelow top)) loads → (i : ℕ)
    → Bounded (top * length loads) (4 ^ length loads) (cell_best slots loads i)
unfolding best_at
cell_bounded top slots loads h i =
    bounded_where (top * length loads) (4 ^ length loads) (λ c. has_cell slots i (grids_of slots c)) (choices loads)
    (each-choice (SettingBelow top) (λ d. (worth_of d ≤ top * length loads) × (code_of d < 4 ^ length loads)) loads
    (λ c e q. (subst (λ n. worth_of c ≤ top * n) e (choice-worth top c q), subst (λ n. code_of c < 4 ^ n) e (choice-code top c q)))
    h)

-- ---- few rows: at most half as many as columns, and so within their bound (specs/Bounds, `most_rows`)

module _ (r n : ℕ) (hr : 0 < r) (hn : 0 < n) where
  wide_slot : (s : Slot) → s.loads ≡ n → s.ratio ≡ r → 2 * (grid_top s + 1) ≤ width_of s
  wide_slot s e f =
      let one : 1 ≤ s.ratio = omega arith in
      omega (arith, width_is s one, mul-le-mul_right (grid_top s) one, mul-le-mul_right s.loads one)

  rows_columns : (slots : List Slot) → SlotsFor r n slots → row_count slots ≤ column_count slots
  rows_columns [] z = omega arith
  rows_columns (s ∷ slots) z =
      let k : grid_top s + 1 ≤ width_of s = omega (arith, wide_slot s z.0.1 z.0.2) in
      mul-le-mul (rows_columns slots z.1) k

  rows_half : (slots : List Slot) → SlotsFor r n slots → 0 < length slots → 2 * row_count slots ≤ column_count slots
  rows_half [] z l = absurd (omega arith)
  rows_half (s ∷ slots) z l = omega (arith, mul-le-mul (rows_columns slots z.1) (wide_slot s z.0.1 z.0.2))

few_rows : (a b : ℕ) → 2 * a ≤ b → a * b ≤ most_cells → a ≤ most_rows
few_rows a b h k =
    ⊎_elim
    (λ (l : most_rows < a). let m : 725 ≤ a = l in let o : 1450 ≤ b = omega arith in absurd (omega (arith, mul-le-mul m o)))
    (λ (l : a ≤ most_rows). l)
    (split most_rows a)

pub rows_few : (r n : ℕ) → 0 < r → 0 < n → (slots : List Slot) → SlotsFor r n slots → 0 < length slots → cell_count slots ≤ most_cells → row_count slots ≤ most_rows
rows_few r n hr hn slots z l k = few_rows (row_count slots) (column_count slots) (rows_half r n hr hn slots z l) (omega (arith, cells-area slots))
