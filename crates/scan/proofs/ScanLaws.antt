-- Laws of `scan`: the rows one after the other, and that the best cell of the last layer that passes a planner's test is its plan.
-- Assumes nothing.
use Prim.Native.Nat.{ℕ, zero, suc, ◌+◌, ◌*◌, ◌/◌, ◌%◌, ◌<◌, ◌≤◌}
use mathlib.Core.Path.{◌≡◌, refl, sym, ap, ap₂, subst, ◌∙◌}
use mathlib.Core.List.{List}
use mathlib.Core.Option.{Option}
use native.Mathlib.Nat.{le_antisymm, suc-mul, add-zero, add-suc}
use native.Mathlib.Numerals.{add-one}
use native.Mathlib.Omega.{arith}
use lib.Arith.{digits_div, digits_mod}
use lib.ListN.{get_or}
use lib.Seq.{take_all}
use Rattle.model.specs.Book.{Problem}
use Rattle.model.specs.Choice.{IsChoice}
use Rattle.model.specs.Grid.{slots_of, keeps_limits, best_admitted}
use Rattle.model.specs.Strict.{best_keeping}
use Rattle.model.specs.Valid.{ValidBook}
use Rattle.model.specs.Cells.{Key, join, join_upto, passing, cell_best}
use Rattle.model.specs.Trials.{cell_count}
use Rattle.model.specs.Index.{column_count}
use Rattle.model.proofs.KeyLaws.{join-none, join_assoc}
use Rattle.model.proofs.RecurrenceLaws.{key?}
use Rattle.model.proofs.TableLaws.{plan-cells}
use Rattle.model.proofs.CodeLaws.{coded_choice}
use Rattle.model.proofs.ComparedLaws.{keeping_cells}
use Rattle.table.specs.Table.{key_of}
use Rattle.grid.specs.declared.Grid.{Grid}
use Rattle.stretch.specs.declared.LoadMoves.{LoadMoves}
use Rattle.stretch.specs.Stretch.{GridFits}
use Rattle.rows.specs.Row.{held}
use Rattle.rows.proofs.SourceLaws.{row_end}
use Rattle.pass.proofs.LayerLaws.{join-same}
use Rattle.search.specs.Search.{Modelled, LayerIs}
use Rattle.search.proofs.ModelLaws.{area}
use Rattle.scan.specs.Scan.{CellTest, admission, true_sums, passed_in, best_of_layer, RowCoded, LayerCoded}

-- ---- the layer row by row

-- the best of the first n rows
unfoldable pub best_of_rows : CellTest → List ℕ → List ℕ → List ℕ → ℕ → ℕ → ℕ → Option Key
unfolding held
best_of_rows t ws lows highs cur width n = join_upto n (λ row. join_upto width (λ col. passing (t row col) (held ws lows highs cur width row col)))

module _ (t : CellTest) (ws lows highs : List ℕ) (cur width : ℕ) where
  pub rows_none : key_of (record { worth = 0; code = 0 }) ≡ best_of_rows t ws lows highs cur width 0
  unfolding best_of_rows key_of
  rows_none = refl

  pub rows_more : {x y : Option Key} (row : ℕ) → x ≡ best_of_rows t ws lows highs cur width row
      → y ≡ join x (join_upto width (passed_in t ws (cur + row * width) (get_or lows row 0) (get_or highs row 0) row))
      → y ≡ best_of_rows t ws lows highs cur width (row + 1)
  unfolding best_of_rows passed_in held
  rows_more row e q =
      q
      ∙ ap (λ z. join z (join_upto width (passed_in t ws (cur + row * width) (get_or lows row 0) (get_or highs row 0) row))) e
      ∙ sym (ap (best_of_rows t ws lows highs cur width) (add-one row))

pub rows_all : (t : CellTest) (ws lows highs : List ℕ) (grid : Grid) (cur row : ℕ) {x : Option Key} → grid.rows ≤ row → row ≤ grid.rows
    → x ≡ best_of_rows t ws lows highs cur grid.width row → x ≡ best_of_layer t ws lows highs grid cur
unfolding best_of_rows best_of_layer
rows_all t ws lows highs grid cur row l k e = e ∙ ap (best_of_rows t ws lows highs cur grid.width) (le_antisymm k l)

-- the cells of a row are coded, as the layer's are
pub row_coded : (b : Problem) (ws lows highs : List ℕ) (grid : Grid) (cur row : ℕ) → LayerCoded b ws lows highs grid cur → row < grid.rows
    → get_or highs row 0 ≤ grid.width → RowCoded b ws (cur + row * grid.width) (get_or lows row 0) (get_or highs row 0)
unfolding held
row_coded b ws lows highs grid cur row h l k col m = h row col l (omega arith)

-- the row's cells lie within the words
pub row_room : {high words : ℕ} (row cur : ℕ) (grid : Grid) → GridFits grid → 2 * (cur + grid.cells) ≤ words → row < grid.rows → high ≤ grid.width
    → 2 * (cur + row * grid.width + high) ≤ words
row_room row cur grid g h l k = omega (arith, row_end grid.width l, g.area)

-- ---- the plan

-- the best of a table by rows
upto_add : (a b : ℕ) (f : ℕ → Option Key) → join_upto (a + b) f ≡ join (join_upto a f) (join_upto b (λ j. f (a + j)))
upto_add a zero f = ap (λ n. join_upto n f) (add-zero a) ∙ sym (join-none (join_upto a f))
upto_add a (suc b) f =
    ap (λ n. join_upto n f) (add-suc a b)
    ∙ ap (λ x. join x (f (a + b))) (upto_add a b f)
    ∙ sym (join_assoc (join_upto a f) (join_upto b (λ j. f (a + j))) (f (a + b)))

pub upto_rows : (n width : ℕ) (f : ℕ → Option Key) (g : ℕ → ℕ → Option Key) → ((row col : ℕ) → row < n → col < width → g row col ≡ f (row * width + col))
    → join_upto n (λ row. join_upto width (g row)) ≡ join_upto (n * width) f
upto_rows zero width f g h = let e : 0 * width ≡ 0 = omega arith in rw e
upto_rows (suc n) width f g h =
    ap₂ join (upto_rows n width f g (λ row col l k. h row col (omega arith) k))
    (join-same width (g n) (λ col. f (n * width + col)) (λ col k. h n col (omega arith) k))
    ∙ sym (upto_add (n * width) width f)
    ∙ ap (λ x. join_upto x f) (sym (suc-mul n width))

module _ {grid : Grid} {n : ℕ} {moves : List LoadMoves} (m : Modelled grid n moves) (ws lows highs : List ℕ) (cur : ℕ) (layer : LayerIs ws lows highs grid n moves m n cur) where
  -- a cell of the last layer holds the best of the choices of all loads that have its pairs
  pub last_cell : (row col : ℕ) → row < grid.rows → col < grid.width
      → held ws lows highs cur grid.width row col ≡ cell_best m.slots m.loads (row * grid.width + col)
  last_cell row col l k =
      layer.cell row col l k ∙ ap (λ ls. cell_best m.slots ls (row * grid.width + col)) (take_all n m.loads (omega (arith, m.loads_are)))

  -- the best of the cells that pass a test, by their numbers
  layer-cells : (t : CellTest) → best_of_layer t ws lows highs grid cur
      ≡ join_upto (cell_count m.slots) (λ i. passing (t (i / column_count m.slots) (i % column_count m.slots)) (cell_best m.slots m.loads i))
  unfolding best_of_layer
  layer-cells t =
      upto_rows grid.rows grid.width cell (λ row col. passing (t row col) (held ws lows highs cur grid.width row col)) each
      ∙ ap (λ k. join_upto k cell) (area m)
    where
      cell : ℕ → Option Key
      cell i = passing (t (i / column_count m.slots) (i % column_count m.slots)) (cell_best m.slots m.loads i)

      each : (row col : ℕ) → row < grid.rows → col < grid.width → passing (t row col) (held ws lows highs cur grid.width row col) ≡ cell (row * grid.width + col)
      each row col l k =
          let w : grid.width ≡ column_count m.slots = m.grid_is.width_is in
          let i = row * grid.width + col in
          let row_is : row ≡ i / column_count m.slots = sym (ap (λ v. i / v) (sym w) ∙ digits_div row k) in
          let col_is : col ≡ i % column_count m.slots = sym (ap (λ v. i % v) (sym w) ∙ digits_mod row k) in
          ap₂ (λ p x. passing p x) (ap₂ t row_is col_is) (last_cell row col l k)

  -- THE BEST ADMITTED CELL OF THE LAST LAYER IS THE PLAN
  pub scan_plan : best_of_layer (admission m.slots) ws lows highs grid cur ≡ key? (best_admitted m.slots m.loads)
  scan_plan = layer-cells (admission m.slots) ∙ sym (plan-cells m.r n m.slots m.loads m.ready)

  -- THE BEST CELL OF THE LAST LAYER WHOSE CHOICE KEEPS THE LIMITS IS THE STRICT PLAN
  pub scan_strict : (b : Problem) → ValidBook b → m.slots ≡ slots_of b → m.loads ≡ b.loads
      → best_of_layer (true_sums b) ws lows highs grid cur ≡ key? (best_keeping m.slots m.loads)
  scan_strict b valid slots loads =
      layer-cells (true_sums b)
      ∙ sym (keeping_cells m.r n m.slots m.loads m.ready (true_sums b 0 0)
      (λ c chosen. ap₂ keeps_limits slots (sym (coded_choice b valid c (subst (λ ls. IsChoice ls c) loads chosen)))))
