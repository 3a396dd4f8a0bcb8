-- A layer that holds the best of the first k loads, and the pass of load k + 1 over it, in the definitions' terms.
-- Assumes nothing.
use Prim.Native.Nat.{ℕ, zero, suc, ◌+◌, ◌-◌, ◌*◌, ◌/◌, ◌%◌, ◌^◌, ◌<◌, ◌≤◌}
use mathlib.Core.Path.{◌≡◌, refl, sym, ap, ap₂, ◌∙◌, subst}
use mathlib.Core.Bool.{Bool, true, cond, ◌&&◌}
use mathlib.Core.Logic.{⊎_elim}
use mathlib.Core.Option.{Option, none}
use mathlib.Core.List.{List, [], ◌∷◌}
use native.Mathlib.Nat.{zero-add, suc-mul, mul-le-mul_right, pow-succ', pow-le-pow_right}
use native.Mathlib.Numerals.{add-one}
use native.Mathlib.Omega.{arith}
use lib.Dec.{T, leb, ltb}
use lib.ListN.{length, get_or, take}
use lib.Seq.{length-take-le}
use Rattle.model.specs.Lists.{Every}
use Rattle.model.specs.Book.{Setting, Settings}
use Rattle.model.specs.Grid.{Slot}
use Rattle.model.specs.Choice.{no_setting}
use Rattle.model.specs.Cells.{Key, shift?, setting_grids, join_upto, is_some, count_upto, cell_best, Bounded}
use Rattle.model.specs.Trials.{grid_top, cell_count}
use Rattle.model.specs.Index.{column_up, column_down}
use Rattle.model.specs.Valid.{SettingBelow}
use Rattle.model.specs.Bounds.{most_loads}
use borrow.Author.Tests.{le-leb, lt-leb}
use Rattle.model.proofs.IntegerLaws.{split}
use Rattle.model.proofs.ListLaws.{every_at, every_take}
use Rattle.model.proofs.RecurrenceLaws.{step}
use Rattle.model.proofs.IndexLaws.{cells-area}
use Rattle.model.proofs.RowLaws.{covers_all, covers_le, source_test, source_cell, rows_step, over-upto, cell_bounded, rows_few}
use Rattle.grid.specs.declared.Grid.{Grid}
use Rattle.grid.specs.declared.SlotGrid.{SlotGrid}
use Rattle.grid.specs.Geometry.{no_slot, no_sizes, entry_at}
use Rattle.stretch.specs.declared.LoadMoves.{LoadMoves}
use Rattle.stretch.specs.declared.SettingMove.{SettingMove}
use Rattle.stretch.specs.Stretch.{covers_from, tried, move_of, GridFits, MoveFits, LoadFits}
use Rattle.rows.specs.Row.{held, source_of, offer_of, LoadRoom}
use Rattle.pass.specs.Pass.{count_rows, LayerMade}
use Rattle.rows.proofs.SourceLaws.{source_column, cond_same}
use Rattle.pass.proofs.LayerLaws.{count_same, count_add, join-same}
use Rattle.grid.proofs.GeometryLaws.{rows_some}
use Rattle.moves.specs.Moves.{moves_of, ActivesAre, MoveIs, LoadIs}
use Rattle.search.specs.Search.{Modelled, LayerIs}

-- ---- the geometry

covers_is : (sizes : List SlotGrid) (active : List ℕ) (slots : List Slot) (v : Setting) (t row : ℕ)
    → ((i : ℕ) → i < length slots → (get_or sizes (t + i) no_sizes).top ≡ grid_top (get_or slots i no_slot) + 1) → ActivesAre active t slots v
    → covers_from sizes active t (length slots) row ≡ covers_all slots (setting_grids slots v) row
unfolding covers_from
covers_is sizes active [] v t row a b = refl
covers_is sizes active (s ∷ slots) v t row a b =
    let here : t ≡ t + 0 = omega arith in
    let top : (get_or sizes t no_sizes).top ≡ grid_top s + 1 = ap (λ n. (get_or sizes n no_sizes).top) here ∙ a 0 (omega arith) in
    ap₂ ◌&&◌ (ap₂ (λ x y. leb x (row % y)) b.0 top)
    (covers_is sizes active slots v (t + 1) (row / (get_or sizes t no_sizes).top)
    (λ i l. let next : t + 1 + i ≡ t + suc i = omega arith in ap (λ n. (get_or sizes n no_sizes).top) next ∙ a (suc i) (omega arith)) b.1
    ∙ ap (λ y. covers_all slots (setting_grids slots v) (row / y)) top)

true_test : (t : Bool) → t ≡ true → T t
true_test t e = subst T (sym e) tt

-- the counts of a table by rows
pub count_rows_lem : (n width : ℕ) (f : ℕ → Option Key) (g : ℕ → ℕ → Option Key) → ((row col : ℕ) → row < n → col < width → g row col ≡ f (row * width + col))
    → count_rows n width g ≡ count_upto (n * width) (λ i. is_some (f i))
unfolding count_rows
count_rows_lem zero width f g h = let e : 0 * width ≡ 0 = omega arith in rw e
count_rows_lem (suc n) width f g h =
    ap₂ ◌+◌ (count_rows_lem n width f g (λ row col l k. h row col (omega arith) k))
    (count_same width (λ col. is_some (g n col)) (λ col. is_some (f (n * width + col))) (λ col k. ap is_some (h n col (omega arith) k)))
    ∙ sym (count_add (n * width) width (λ i. is_some (f i)))
    ∙ ap (λ x. count_upto x (λ i. is_some (f i))) (sym (suc-mul n width))

module _ {grid : Grid} {n : ℕ} {moves : List LoadMoves} (m : Modelled grid n moves) where
  pub area : grid.rows * grid.width ≡ cell_count m.slots
  area = ap₂ ◌*◌ m.grid_is.rows_are m.grid_is.width_is ∙ cells-area m.slots

  pub rows_one : 1 ≤ grid.rows
  rows_one = omega (arith, rows_some m.slots, m.grid_is.rows_are)

  pub width_in : grid.width ≤ grid.cells
  width_in = omega (arith, mul-le-mul_right grid.width rows_one, area, m.grid_is.cells_are)

  pub grid_fits : GridFits grid
  grid_fits =
      let g = m.grid_is in
      let few = rows_few m.r n m.ready.some_ratio m.some_load m.slots m.ready.for m.some_slot (omega (arith, g.cells_are, g.cells_fit)) in
      record {
        slots_fit = omega (arith, g.slots_are, g.slots_fit);
        tops_fit = λ t l. omega (arith, (g.each t (omega (arith, g.slots_are))).top_is);
        area = area ∙ sym g.cells_are;
        rows_fit = omega (arith, g.rows_are);
        width_fits = omega (arith, width_in, g.cells_fit);
        cells_fit = g.cells_fit;
      }

  tried-is : {k : ℕ} {v : Setting} {mv : SettingMove} → MoveIs m.slots k v mv → (row : ℕ) → tried grid mv row ≡ covers_all m.slots (setting_grids m.slots v) row
  unfolding tried
  tried-is {k} {v} {mv} x row =
      ap (λ j. covers_from grid.sizes mv.active 0 j row) m.grid_is.slots_are
      ∙ covers_is grid.sizes mv.active m.slots v 0 row (λ i l. ap (λ k. (entry_at grid k).top) (zero-add i) ∙ (m.grid_is.each i l).top_is) x.actives_are

  move_fits : {k : ℕ} {v : Setting} {mv : SettingMove} → MoveIs m.slots k v mv → MoveFits grid mv
  move_fits {k} {v} x = record {
    back_fits = λ row e. omega (arith, x.back_is, covers_le m.slots v row (true_test (covers_all m.slots (setting_grids m.slots v) row) (sym (tried-is x row) ∙ e)));
    up_fits = x.up_fits;
    down_fits = x.down_fits;
  }

  pub load_fits : (k : ℕ) → k < n → LoadFits grid (moves_of moves k)
  load_fits k l =
      let x = m.each k l in
      record {
        count_fits = omega (arith, x.count_is, x.count_fits);
        each = λ i h. move_fits (x.each i (omega (arith, x.count_is)));
      }

  -- ---- room for load k + 1

  small_setting : (k i : ℕ) → k < n → i < length (get_or m.loads k []) → SettingBelow 65535 (get_or (get_or m.loads k []) i no_setting)
  small_setting k i l h =
      every_at (SettingBelow 65535) (get_or m.loads k []) no_setting
      (every_at (Every (SettingBelow 65535)) m.loads [] m.small k (omega (arith, m.loads_are))) i h

  pub load_room : {ws lows highs : List ℕ} {k cur : ℕ} → k < n → LayerIs ws lows highs grid n moves m k cur → LoadRoom ws lows highs grid cur (moves_of moves k)
  load_room {ws} {lows} {highs} {k} {cur} l layer = record {
    top = 65535 * k;
    unit = 4 ^ k;
    small = λ row col a b. subst (Bounded (65535 * k) (4 ^ k)) (sym (layer.cell row col a b)) (bounded (row * grid.width + col));
    gain_fits = λ i h. let y = small_setting k i l (omega (arith, x.count_is)) in omega (arith, y.0, (x.each i (omega (arith, x.count_is))).gain_is, m.loads_fit);
    digit_fits = λ i h.
        let y = small_setting k i l (omega (arith, x.count_is)) in
        omega (arith, mul-le-mul_right (4 ^ k) y.1, (x.each i (omega (arith, x.count_is))).digit_is, pow-succ' 4 k, powers);
    ascending = λ i j h a.
        let o = x.ascending i j h (omega (arith, x.count_is)) in
        omega (arith, mul-le-mul_right (4 ^ k) o, (x.each i (omega (arith, x.count_is))).digit_is, (x.each j (omega (arith, x.count_is))).digit_is);
  }
    where
      x : LoadIs m.slots k (get_or m.loads k []) (moves_of moves k)
      x = m.each k l

      long : length (take k m.loads) ≡ k
      long = length-take-le k m.loads (omega (arith, m.loads_are))

      bounded : (i : ℕ) → Bounded (65535 * k) (4 ^ k) (cell_best m.slots (take k m.loads) i)
      bounded i = subst (λ j. Bounded (65535 * j) (4 ^ j) (cell_best m.slots (take k m.loads) i)) long
          (cell_bounded 65535 m.slots (take k m.loads) (every_take (Every (SettingBelow 65535)) k m.loads m.small) i)

      powers : 4 ^ suc k ≤ 4 ^ most_loads
      powers = let few : suc k ≤ most_loads = omega (arith, m.loads_fit) in let four : 0 < 4 = omega arith in pow-le-pow_right four few

  -- ---- what a setting offers

  module _ {ws lows highs : List ℕ} {k cur : ℕ} (l : k < n) (layer : LayerIs ws lows highs grid n moves m k cur) (row col : ℕ) (a : row < grid.rows) where
    -- the column from which a setting comes, and whether there is one
    shift_column : {v : Setting} {mv : SettingMove} → MoveIs m.slots k v mv
        → col + mv.down - mv.up ≡ col + column_down m.slots (setting_grids m.slots v) - column_up m.slots (setting_grids m.slots v)
    shift_column x = omega (arith, x.shift_is)

    shift_test : {v : Setting} {mv : SettingMove} → MoveIs m.slots k v mv
        → leb mv.up (col + mv.down) ≡ leb (column_up m.slots (setting_grids m.slots v)) (col + column_down m.slots (setting_grids m.slots v))
    shift_test {v} {mv} x =
        same_test mv.up mv.down (column_up m.slots (setting_grids m.slots v)) (column_down m.slots (setting_grids m.slots v)) x.shift_is
      where
        same_test : (u d u' d' : ℕ) → u + d' ≡ d + u' → leb u (col + d) ≡ leb u' (col + d')
        same_test u d u' d' e =
            ⊎_elim (λ (b : col + d < u). lt-leb u (col + d) b ∙ sym (lt-leb u' (col + d') (omega arith)))
            (λ (b : u ≤ col + d). le-leb u (col + d) b ∙ sym (le-leb u' (col + d') (omega arith)))
            (split (col + d) u)

    source_is : {v : Setting} {mv : SettingMove} → MoveIs m.slots k v mv
        → source_of ws lows highs grid cur mv row col
        ≡ cond (source_test m.slots v row col) (cell_best m.slots (take k m.loads) (source_cell m.slots v row col)) none
    unfolding source_of
    source_is {v} {mv} x =
        cond_same (tried grid mv row && (leb mv.up (col + mv.down) && ltb (col + mv.down - mv.up) grid.width))
        (held ws lows highs cur grid.width (row - mv.back) (col + mv.down - mv.up))
        (cell_best m.slots (take k m.loads) (source_cell m.slots v row col))
        (λ e. layer.cell (row - mv.back) (col + mv.down - mv.up) (omega arith)
        (source_column grid mv row col e)
        ∙ ap (cell_best m.slots (take k m.loads))
        (λ i. (row - x.back_is i) * m.grid_is.width_is i + shift_column x i))
        ∙ ap (λ t. cond t (cell_best m.slots (take k m.loads) (source_cell m.slots v row col)) none)
        (λ i. tried-is x row i && (shift_test x i && ltb (shift_column x i) (m.grid_is.width_is i)))

    offer_is : (i : ℕ) → i < length (get_or m.loads k [])
        → offer_of ws lows highs grid cur (moves_of moves k) row col i
        ≡ step k (get_or (get_or m.loads k []) i no_setting)
        (cond (source_test m.slots (get_or (get_or m.loads k []) i no_setting) row col)
        (cell_best m.slots (take k m.loads) (source_cell m.slots (get_or (get_or m.loads k []) i no_setting) row col)) none)
    unfolding offer_of
    offer_is i h =
        let x = (m.each k l).each i h in
        ap₂ (λ g d. shift? g d (source_of ws lows highs grid cur (move_of (moves_of moves k) i) row col)) x.gain_is x.digit_is
        ∙ ap (step k (get_or (get_or m.loads k []) i no_setting)) (source_is x)

    -- the cell after load k + 1
    pub cell-is : col < grid.width → join_upto (moves_of moves k).count (offer_of ws lows highs grid cur (moves_of moves k) row col)
        ≡ cell_best m.slots (take (suc k) m.loads) (row * grid.width + col)
    cell-is b =
        ap (λ c. join_upto c (offer_of ws lows highs grid cur (moves_of moves k) row col)) (m.each k l).count_is
        ∙ join-same (length vs) (offer_of ws lows highs grid cur (moves_of moves k) row col) (λ i. step k (get_or vs i no_setting) (old (get_or vs i no_setting))) offer_is
        ∙ sym (over-upto k no_setting old vs)
        ∙ sym (rows_step m.r n m.slots m.loads m.ready k (omega (arith, m.loads_are)) row col (omega (arith, m.grid_is.width_is)))
        ∙ ap (λ w. cell_best m.slots (take (suc k) m.loads) (row * w + col)) (sym m.grid_is.width_is)
      where
        vs : Settings
        vs = get_or m.loads k []

        old : Setting → Option Key
        old v = cond (source_test m.slots v row col) (cell_best m.slots (take k m.loads) (source_cell m.slots v row col)) none

  pub layer_next : {ws ws' lows highs lows' highs' : List ℕ} {k cur next : ℕ} → k < n → LayerIs ws lows highs grid n moves m k cur
      → LayerMade ws ws' lows highs lows' highs' grid cur next (moves_of moves k) grid.rows → LayerIs ws' lows' highs' grid n moves m (k + 1) next
  layer_next {k = k} l layer made = rw (add-one k) (record { cell = λ row col a b. made.inside row col a b ∙ cell-is l layer row col a b })

  -- how many cells of the layer hold something
  pub layer-count : {ws lows highs : List ℕ} {k cur : ℕ} → LayerIs ws lows highs grid n moves m k cur
      → count_rows grid.rows grid.width (held ws lows highs cur grid.width)
      ≡ count_upto (cell_count m.slots) (λ i. is_some (cell_best m.slots (take k m.loads) i))
  layer-count {ws} {lows} {highs} {k} {cur} layer =
      count_rows_lem grid.rows grid.width (cell_best m.slots (take k m.loads)) (held ws lows highs cur grid.width) layer.cell
      ∙ ap (λ c. count_upto c (λ i. is_some (cell_best m.slots (take k m.loads) i))) area
