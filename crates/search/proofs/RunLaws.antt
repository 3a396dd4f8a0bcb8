-- Laws of the search: the first layer, one load more, the trials, and the end.
-- Assumes nothing.
use Prim.Native.Nat.{ℕ, zero, suc, ◌+◌, ◌-◌, ◌*◌, ◌/◌, ◌%◌, ◌<◌, ◌≤◌}
use mathlib.Core.Path.{◌≡◌, refl, sym, ap, ap₂, ◌∙◌, subst}
use mathlib.Core.Bool.{Bool, true, false, cond}
use mathlib.Core.Logic.{inl, inr, ⊎_elim}
use mathlib.Core.Option.{Option, none, some}
use mathlib.Core.List.{List, [], ◌∷◌, map}
use native.Mathlib.Nat.{le_antisymm, mul-le-mul, suc-mul, div-add-mod', mod-lt}
use native.Mathlib.Numerals.{add-one}
use native.Mathlib.Omega.{arith}
use borrow.Author.Tests.{eq-eqb, ne_eqb}
use lib.Dec.{T}
use lib.ListN.{length, get_or, set, drop, replicate, length-set, length-replicate, length-drop}
use lib.Seq.{get_or-set_same, get_or-set_other, get_or-drop, ext_get_or}
use Rattle.model.specs.Lists.{keep_if, distinct, same_lists}
use Rattle.model.specs.Bounds.{most_cells, most_rows}
use Rattle.model.specs.Grid.{Slot, grids_of}
use Rattle.model.specs.Trials.{grid_top, same_pair, in_range, reached_count}
use Rattle.model.specs.Index.{row_index, column_index, column_count, index_of}
use Rattle.model.specs.Cells.{Key, cell_best}
use Rattle.model.proofs.IntegerLaws.{split}
use Rattle.model.proofs.CellLaws.{only}
use Rattle.model.proofs.IndexLaws.{column_below}
use Rattle.model.proofs.TableLaws.{range_grids, within_all, reached-cells}
use Rattle.model.proofs.LoopLaws.{range_none, cells-none, ready-take, trials-step}
use Rattle.table.specs.Table.{cell_at, put_at, key_of, Rows}
use Rattle.table.proofs.WordLaws.{get_same, get_other, length_put}
use Rattle.grid.specs.declared.Grid.{Grid}
use Rattle.stretch.specs.declared.LoadMoves.{LoadMoves}
use Rattle.stretch.specs.Stretch.{StretchesFit, EmptyFrom}
use Rattle.rows.specs.Row.{held, LoadRoom}
use Rattle.pass.specs.Pass.{count_rows, LayerMade}
use Rattle.rows.proofs.SourceLaws.{held_in_lem, held_low, held_high}
use Rattle.pass.proofs.LayerLaws.{rows_count_le}
use Rattle.moves.specs.Moves.{moves_of}
use Rattle.search.specs.Search.{first_cell, Modelled, LayerIs, Places, trials_of, Run, Searched}
use Rattle.search.proofs.ModelLaws.{width_in, grid_fits, load_fits, load_room, layer_next, layer-count}

pub tries_small : {reached count : ℕ} → reached ≤ most_cells → count ≤ 4 → reached * count ≤ 4194304
tries_small h k = mul-le-mul h k

-- ---- the first layer

row_none : (slots : List Slot) → row_index slots (grids_of slots []) ≡ 0
row_none [] = refl
row_none (s ∷ slots) = ap (λ n. n * (grid_top s + 1) + 0) (row_none slots) ∙ (omega arith)

key_first : key_of first_cell ≡ some (record { worth = 0; code = 0 })
unfolding key_of
key_first = refl

-- worth 0 and code 0 at the cell `origin`, and nothing at any other
abbrev first_key : ℕ → ℕ → Option Key
first_key origin = only origin (some (record { worth = 0; code = 0 }))

first_here : (origin i : ℕ) → origin ≡ i → some (record { worth = 0; code = 0 }) ≡ first_key origin i
first_here origin i e = sym (ap (λ t. cond t (some (record { worth = 0; code = 0 })) none) (eq-eqb origin i e))

first-none : (origin i : ℕ) → (origin ≡ i → ⊥) → none ≡ first_key origin i
first-none origin i n = sym (ap (λ t. cond t (some (record { worth = 0; code = 0 })) none) (ne_eqb origin i n))

-- with no load, one list of grid pairs is reached
reached-none : (slots : List Slot) → reached_count slots [] ≡ 1
unfolding reached_count
reached-none slots = go (in_range slots []) (subst T (sym (range_grids slots [])) (range_none slots))
  where
    go : (t : Bool) → T t → length (distinct (same_lists same_pair) (map (grids_of slots) (keep_if t [] []))) ≡ 1
    go true h = refl
    go false h = absurd h

module _ {grid : Grid} {n : ℕ} {moves : List LoadMoves} (m : Modelled grid n moves) where
  pub origin_in : grid.origin < grid.width
  origin_in =
      omega (
        arith,
        m.grid_is.origin_is,
        m.grid_is.width_is,
        column_below m.slots (grids_of m.slots []) (within_all m.r n m.ready.some_ratio m.slots m.ready.for [] (omega arith) tt (range_none m.slots)),
      )

  pub origin_room : (ws : List ℕ) → 4 * grid.cells ≤ length ws → 2 * grid.origin + 1 < length ws
  origin_room ws h = omega (arith, origin_in, width_in m)

  index_none : index_of m.slots (grids_of m.slots []) ≡ grid.origin
  index_none =
      ap (λ x. x * column_count m.slots + column_index m.slots (grids_of m.slots [])) (row_none m.slots)
      ∙ (omega (arith, m.grid_is.origin_is))

  first_cell_lem : (i : ℕ) → cell_best m.slots [] i ≡ first_key grid.origin i
  first_cell_lem i = cells-none m.slots i ∙ ap (λ j. first_key j i) index_none

  -- row 0 holds the origin alone, and every other row nothing
  module _ (ws ws₀ lows highs : List ℕ) (put : ws ≡ put_at ws₀ grid.origin first_cell) (room : 2 * grid.origin + 1 < length ws₀)
      (low_first : get_or lows 0 0 ≡ grid.origin) (high-first : get_or highs 0 0 ≡ grid.origin + 1) (blank : EmptyFrom lows highs 1) where
    low_rest : (row : ℕ) → get_or lows (suc row) 0 ≡ 0
    low_rest row = blank.no_low (suc row) (omega arith)

    high_rest : (row : ℕ) → get_or highs (suc row) 0 ≡ 0
    high_rest row = blank.no_high (suc row) (omega arith)

    first_row : (col : ℕ) → held ws lows highs 0 grid.width 0 col ≡ first_key grid.origin (0 * grid.width + col)
    unfolding held
    first_row col =
        let z : 0 + 0 * grid.width ≡ 0 = omega arith in
        let y : 0 * grid.width + col ≡ col = omega arith in
        rw (low_first, high-first, z, y)
        (⊎_elim
        (λ (h : col < grid.origin). held_low ws 0 grid.origin (grid.origin + 1) col h ∙ first-none grid.origin col (λ e. omega arith))
        (λ (h : grid.origin ≤ col). ⊎_elim
        (λ (k : col < grid.origin + 1).
        let e : 0 + col ≡ grid.origin = omega arith in
        held_in_lem ws 0 grid.origin (grid.origin + 1) col h k
        ∙ ap (λ x. key_of (cell_at ws x)) e
        ∙ ap (λ x. key_of (cell_at x grid.origin)) put
        ∙ ap key_of (get_same ws₀ grid.origin first_cell room)
        ∙ key_first
        ∙ first_here grid.origin col (omega arith))
        (λ (k : grid.origin + 1 ≤ col). held_high ws 0 grid.origin (grid.origin + 1) col k ∙ first-none grid.origin col (λ e. omega arith))
        (split col (grid.origin + 1)))
        (split col grid.origin))

    other_row : (row col : ℕ) → held ws lows highs 0 grid.width (suc row) col ≡ first_key grid.origin (suc row * grid.width + col)
    unfolding held
    other_row row col =
        rw (low_rest row, high_rest row)
        (held_high ws (0 + suc row * grid.width) 0 0 col (omega arith)
        ∙ first-none grid.origin (suc row * grid.width + col) (λ e. omega (arith, origin_in, suc-mul row grid.width)))

    pub layer-first : LayerIs ws lows highs grid n moves m 0 0
    layer-first = record { cell = cell }
      where
        cell : (row col : ℕ) → row < grid.rows → col < grid.width
            → held ws lows highs 0 grid.width row col ≡ cell_best m.slots [] (row * grid.width + col)
        cell zero col a b = first_row col ∙ sym (first_cell_lem (0 * grid.width + col))
        cell (suc row) col a b = other_row row col ∙ sym (first_cell_lem (suc row * grid.width + col))

    -- how far the stretches go
    first-low : (row : ℕ) → row < grid.rows → get_or lows row 0 ≤ grid.width
    first-low zero l = omega (arith, low_first, origin_in)
    first-low (suc row) l = omega (arith, low_rest row)

    first-high : (row : ℕ) → row < grid.rows → get_or highs row 0 ≤ grid.width
    first-high zero l = omega (arith, high-first, origin_in)
    first-high (suc row) l = omega (arith, high_rest row)

    pub run_first : length lows ≡ most_rows → length highs ≡ most_rows → Run ws ws lows highs grid n moves m 0 0 1 0
    run_first a b = record {
      places = record {
        same_length = refl;
        side = inl refl;
        low_length = a;
        high_length = b;
        low_fits = first-low;
        high_fits = first-high;
        past = λ x h. refl;
      };
      layer = layer-first;
      reached_is = λ _. sym (layer-count m layer-first ∙ sym (reached-cells m.r n m.slots [] (ready-take m.r n m.slots m.loads 0 m.ready)) ∙ reached-none m.slots);
      trials_are = refl;
    }

  -- ---- one load more

  module _ {ws ws₁ lows highs : List ℕ} {k cur reached trials : ℕ} (l : k < n) (room : 4 * grid.cells ≤ length ws)
      (run : Run ws ws₁ lows highs grid n moves m k cur reached trials) where
    pub run_cur : cur ≤ grid.cells
    run_cur = ⊎_elim (λ (e : cur ≡ 0). omega arith) (λ (e : cur ≡ grid.cells). omega arith) run.places.side

    pub run_rows : Rows ws₁ cur (grid.cells - cur) grid.cells
    run_rows = ⊎_elim (λ (e : cur ≡ 0). rows (λ i j a b q. omega arith)) (λ (e : cur ≡ grid.cells). rows (λ i j a b q. omega arith)) run.places.side
      where
        rows : ((i j : ℕ) → i < grid.cells → j < grid.cells → cur + i ≡ grid.cells - cur + j → ⊥) → Rows ws₁ cur (grid.cells - cur) grid.cells
        rows never = record { source = omega (arith, room, run_cur, run.places.same_length); target = omega (arith, room, run_cur, run.places.same_length); never = never }

    pub run_stretches : StretchesFit lows highs grid
    run_stretches = record { low_fits = run.places.low_fits; high_fits = run.places.high_fits }

    pub run_room : LoadRoom ws₁ lows highs grid cur (moves_of moves k)
    run_room = load_room m l run.layer

    pub run_tries : (reached ≤ most_cells) × ((moves_of moves k).count ≤ 4)
    run_tries = (
      omega (arith, run.reached_is l, rows_count_le grid.rows grid.width (held ws₁ lows highs cur grid.width), (grid_fits m).area, m.grid_is.cells_fit),
      (load_fits m k l).count_fits,
    )

    pub run_trials : {t : ℕ} → t ≡ reached * (moves_of moves k).count → trials + t ≡ trials_of m (suc k)
    run_trials e =
        ap₂ ◌+◌ run.trials_are (e ∙ ap₂ ◌*◌ (run.reached_is l ∙ layer-count m run.layer) (m.each k l).count_is)
        ∙ sym (trials-step m.r n m.slots m.loads m.ready k)

    pub run_more : {ws₂ lows' highs' : List ℕ} {t reached' : ℕ} → t ≡ reached * (moves_of moves k).count
        → (k + 1 < n → reached' ≡ count_rows grid.rows grid.width (held ws₂ lows' highs' (grid.cells - cur) grid.width))
        → LayerMade ws₁ ws₂ lows highs lows' highs' grid cur (grid.cells - cur) (moves_of moves k) grid.rows
        → Run ws ws₂ lows' highs' grid n moves m (k + 1) (grid.cells - cur) reached' (trials + t)
    run_more e c made = record {
      places = record {
        same_length = made.same_length ∙ run.places.same_length;
        side = ⊎_elim (λ (e : cur ≡ 0). inr (omega arith)) (λ (e : cur ≡ grid.cells). inl (omega arith)) run.places.side;
        low_length = made.low_length;
        high_length = made.high_length;
        low_fits = made.low_fits;
        high_fits = made.high_fits;
        past = λ x h. made.outside x (λ y a b. omega (arith, run_cur, (grid_fits m).area)) ∙ run.places.past x h;
      };
      layer = layer_next m l run.layer made;
      reached_is = c;
      trials_are = run_trials e ∙ ap (trials_of m) (sym (add-one k));
    }

  -- ---- the trials only grow

  trials-up : (k : ℕ) → k < n → trials_of m k ≤ trials_of m (suc k)
  trials-up k l = omega (arith, trials-step m.r n m.slots m.loads m.ready k)

  trials_grow : (k j : ℕ) → k + j ≤ n → trials_of m k ≤ trials_of m (k + j)
  trials_grow k zero h = let e : k + 0 ≡ k = omega arith in rw e (omega arith)
  trials_grow k (suc j) h =
      let e : k + suc j ≡ suc (k + j) = omega arith in
      rw e (omega (arith, trials_grow k j (omega arith), trials-up (k + j) (omega arith)))

  pub run_over : {k : ℕ} (t budget : ℕ) → k < n → t ≡ trials_of m (suc k) → budget < t → budget < trials_of m n
  run_over {k} t budget l e h =
      let q : suc k + (n - suc k) ≡ n = omega arith in
      let g : trials_of m (suc k) ≤ trials_of m n = rw q at (trials_grow (suc k) (n - suc k) (omega arith)) in
      omega arith

  -- ---- the end

  pub stopped : {ws lows highs : List ℕ} {k cur : ℕ} (t budget : ℕ) → k < n → t ≡ trials_of m (suc k) → budget < t → Searched ws lows highs grid n moves m budget cur t
  stopped t budget l e h = record { within = λ a. absurd (omega arith); over = λ a. run_over t budget l e h }

  pub ended : {ws ws₁ lows highs : List ℕ} {k cur reached trials : ℕ} (budget : ℕ) → k ≤ n → n ≤ k → Run ws ws₁ lows highs grid n moves m k cur reached trials
      → Searched ws₁ lows highs grid n moves m budget cur trials
  ended {ws} {ws₁} {lows} {highs} {k} {cur} {reached} {trials} budget h o run =
      let q : Run ws ws₁ lows highs grid n moves m n cur reached trials = subst (λ (j : ℕ). Run ws ws₁ lows highs grid n moves m j cur reached trials) (le_antisymm h o) run in
      record { within = λ a. (q.trials_are, q.layer); over = λ a. omega (arith, q.trials_are) }

-- the stretches of the first layer: a number at row 0, and 0 at every other
zeros : (k i : ℕ) → ◌≡◌ {A = ℕ} (get_or (replicate k 0) i 0) 0
zeros zero i = refl
zeros (suc k) zero = refl
zeros (suc k) (suc i) = zeros k i

pub set_first : (v : ℕ) → get_or (set (replicate most_rows 0) 0 v) 0 0 ≡ v
set_first v = get_or-set_same (replicate most_rows 0) 0 v 0 (omega (arith, length-replicate {A = ℕ} most_rows 0))

set_rest : (v row : ℕ) → 1 ≤ row → get_or (set (replicate most_rows 0) 0 v) row 0 ≡ 0
set_rest v row l = get_or-set_other (replicate most_rows 0) 0 row v 0 (λ e. omega arith) ∙ zeros most_rows row

pub set_long : (v : ℕ) → length (set (replicate most_rows 0) 0 v) ≡ most_rows
set_long v = length-set (replicate most_rows 0) 0 v ∙ length-replicate {A = ℕ} most_rows 0

pub empty_zeros : (used : ℕ) → EmptyFrom (replicate most_rows 0) (replicate most_rows 0) used
empty_zeros used = record { no_low = λ row l. zeros most_rows row; no_high = λ row l. zeros most_rows row }

pub empty-first : (v w : ℕ) → EmptyFrom (set (replicate most_rows 0) 0 v) (set (replicate most_rows 0) 0 w) 1
empty-first v w = record { no_low = set_rest v; no_high = set_rest w }

-- the words before the first layer was made
pub places_from : {ws ws₀ ws₁ lows highs : List ℕ} {grid : Grid} {cur : ℕ} (origin : ℕ) → origin < 2 * grid.cells → ws ≡ put_at ws₀ origin first_cell
    → Places ws ws₁ lows highs grid cur → Places ws₀ ws₁ lows highs grid cur
places_from {ws} {ws₀} origin h e p = record {
  same_length = p.same_length ∙ ap length e ∙ length_put ws₀ origin first_cell;
  side = p.side;
  low_length = p.low_length;
  high_length = p.high_length;
  low_fits = p.low_fits;
  high_fits = p.high_fits;
  past = λ x k. p.past x k ∙ ap (λ ws. cell_at ws x) e ∙ get_other ws₀ origin x first_cell (λ q. omega arith);
}

-- ---- the words past those of the cells are as they were

cell_words : (ws ws' : List ℕ) (x : ℕ) → cell_at ws' x ≡ cell_at ws x → (get_or ws' (2 * x) 0 ≡ get_or ws (2 * x) 0) × (get_or ws' (2 * x + 1) 0 ≡ get_or ws (2 * x + 1) 0)
unfolding cell_at
cell_words ws ws' x e = (ap (λ c. c.worth) e, ap (λ c. c.code) e)

past_word_kept : {ws ws' lows highs : List ℕ} {grid : Grid} {cur : ℕ} → Places ws ws' lows highs grid cur → (i : ℕ) → 4 * grid.cells ≤ i → get_or ws' i 0 ≡ get_or ws i 0
past_word_kept {ws} {ws'} {lows} {highs} {grid} p i h =
    let two : 0 < 2 = omega arith in
    let w = cell_words ws ws' (i / 2) (p.past (i / 2) (omega (arith, div-add-mod' i 2, mod-lt i two))) in
    ⊎_elim
    (λ (a : i % 2 < 1). let e : i ≡ 2 * (i / 2) = omega (arith, div-add-mod' i 2) in ap (λ j. get_or ws' j 0) e ∙ w.0 ∙ ap (λ j. get_or ws j 0) (sym e))
    (λ (a : 1 ≤ i % 2). let e : i ≡ 2 * (i / 2) + 1 = omega (arith, div-add-mod' i 2, mod-lt i two) in ap (λ j. get_or ws' j 0) e ∙ w.1 ∙ ap (λ j. get_or ws j 0) (sym e))
    (split (i % 2) 1)

pub past_words_kept : {ws ws' lows highs : List ℕ} {grid : Grid} {cur : ℕ} → Places ws ws' lows highs grid cur → drop (4 * grid.cells) ws' ≡ drop (4 * grid.cells) ws
past_words_kept {ws} {ws'} {grid = grid} p =
    ext_get_or 0 (drop (4 * grid.cells) ws') (drop (4 * grid.cells) ws)
    (length-drop (4 * grid.cells) ws' ∙ ap (λ n. n - 4 * grid.cells) p.same_length ∙ sym (length-drop (4 * grid.cells) ws))
    (λ i h. get_or-drop (4 * grid.cells) ws' i 0 ∙ past_word_kept p (4 * grid.cells + i) (omega arith) ∙ sym (get_or-drop (4 * grid.cells) ws i 0))
