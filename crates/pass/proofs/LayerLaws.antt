-- Laws of `load_row` and `load_pass`: a row of the next layer, the layer row by row, and the count of what it holds.
-- Assumes nothing.
use Prim.Native.Nat.{ℕ, zero, suc, ◌+◌, ◌-◌, ◌*◌, ◌<◌, ◌≤◌}
use mathlib.Core.Path.{◌≡◌, refl, sym, ap, ap₂, ◌∙◌}
use mathlib.Core.List.{List}
use mathlib.Core.Bool.{Bool, true, false, cond, ◌&&◌}
use mathlib.Core.Option.{Option, none}
use mathlib.Core.Logic.{⊎_elim}
use native.Mathlib.Nat.{le_antisymm, add-zero, add-suc, add_assoc, mul-le-mul_right}
use native.Mathlib.Numerals.{add-one}
use native.Mathlib.Omega.{arith}
use borrow.Author.Count.{below_more}
use lib.Dec.{leb, ltb}
use lib.ListN.{get_or, set, length, length-set}
use lib.Seq.{get_or-set_same, get_or-set_other}
use Rattle.model.specs.Cells.{Key, join, shift?, join_upto, is_some, count_upto, Bounded}
use Rattle.model.specs.Bounds.{most_rows}
use Rattle.model.proofs.CellLaws.{upto-none}
use Rattle.table.specs.Table.{cell_at, key_of, Rows, reached}
use Rattle.model.proofs.IntegerLaws.{split}
use Rattle.stretch.specs.declared.SettingMove.{SettingMove}
use Rattle.grid.specs.declared.Grid.{Grid}
use Rattle.stretch.specs.declared.LoadMoves.{LoadMoves}
use Rattle.stretch.specs.declared.Stretch.{Stretch}
use Rattle.stretch.specs.Stretch.{tried, move_of, GridFits, Offers, Spans, EmptyFrom, Reaches}
use Rattle.rows.specs.Row.{held_in, held, source_of, offer_of, raise_upto, LoadRoom, Opened, RowKeys, raised_rows}
use Rattle.rows.proofs.KeyLaws.{shift_from, shift_below, raise-upto, upto_split, upto-same}
use Rattle.rows.proofs.OpenLaws.{span_ends, clear_room}
use Rattle.rows.proofs.SourceLaws.{row_end, next_row, held_in_lem, held_low, held_high, source_out, source_column, cond_bounded, Same, offer_same, room_same, rows_same}
use Rattle.pass.specs.declared.Made.{Made}
use Rattle.pass.specs.Pass.{RowMade, count_rows, LayerMade}

-- ---- counts

pub count_same : (n : ℕ) (f g : ℕ → Bool) → ((i : ℕ) → i < n → f i ≡ g i) → count_upto n f ≡ count_upto n g
count_same zero f g h = refl
count_same (suc n) f g h = ap₂ (λ (x : ℕ) (t : Bool). x + cond t 1 0) (count_same n f g (λ i l. h i (omega arith))) (h n (omega arith))

pub count_none : (n : ℕ) (f : ℕ → Bool) → ((i : ℕ) → i < n → f i ≡ false) → count_upto n f ≡ 0
count_none zero f h = refl
count_none (suc n) f h = ap₂ (λ (x : ℕ) (t : Bool). x + cond t 1 0) (count_none n f (λ i l. h i (omega arith))) (h n (omega arith))

one_le : (t : Bool) → cond t 1 0 ≤ 1
one_le true = omega arith
one_le false = omega arith

pub count_le : (n : ℕ) (f : ℕ → Bool) → count_upto n f ≤ n
count_le zero f = omega arith
count_le (suc n) f = omega (arith, count_le n f, one_le (f n))

pub count_add : (a b : ℕ) (f : ℕ → Bool) → count_upto (a + b) f ≡ count_upto a f + count_upto b (λ j. f (a + j))
count_add a zero f = ap (λ n. count_upto n f) (add-zero a) ∙ sym (add-zero (count_upto a f))
count_add a (suc b) f =
    ap (λ n. count_upto n f) (add-suc a b)
    ∙ ap (λ x. x + cond (f (a + b)) 1 0) (count_add a b f)
    ∙ add_assoc (count_upto a f) (count_upto b (λ j. f (a + j))) (cond (f (a + b)) 1 0)

-- only a stretch counts
pub count_part : (low high width : ℕ) (f : ℕ → Bool) → low ≤ high → high ≤ width → ((i : ℕ) → i < low → f i ≡ false) → ((i : ℕ) → high ≤ i → f i ≡ false)
    → count_upto width f ≡ count_upto (high - low) (λ j. f (low + j))
count_part low high width f h k a b =
    let e : width ≡ low + ((high - low) + (width - high)) = omega arith in
    let x : count_upto low f ≡ 0 = count_none low f a in
    let y : count_upto (width - high) (λ j. f (low + ((high - low) + j))) ≡ 0 = count_none (width - high) (λ j. f (low + ((high - low) + j))) (λ i l. b (low + ((high - low) + i)) (omega arith)) in
    ap (λ n. count_upto n f) e
    ∙ count_add low ((high - low) + (width - high)) f
    ∙ ap₂ ◌+◌ x (count_add (high - low) (width - high) (λ j. f (low + j)))
    ∙ (omega (arith, y))

-- ---- a row

pub join-same : (n : ℕ) (f g : ℕ → Option Key) → ((m : ℕ) → m < n → f m ≡ g m) → join_upto n f ≡ join_upto n g
join-same zero f g h = refl
join-same (suc n) f g h = ap₂ join (join-same n f g (λ m l. h m (omega arith))) (h n (omega arith))

module _ {ws lows highs : List ℕ} (grid : Grid) (cur : ℕ) (load : LoadMoves) (room : LoadRoom ws lows highs grid cur load) (row col : ℕ) (l : row < grid.rows) where
  source_bounded : (mv : SettingMove) → Bounded room.top room.unit (source_of ws lows highs grid cur mv row col)
  unfolding source_of
  source_bounded mv =
      cond_bounded room.top room.unit (tried grid mv row && (leb mv.up (col + mv.down) && ltb (col + mv.down - mv.up) grid.width))
      (held ws lows highs cur grid.width (row - mv.back) (col + mv.down - mv.up))
      (λ e. room.small (row - mv.back) (col + mv.down - mv.up) (omega arith) (source_column grid mv row col e))

  -- settings by ascending digits: only a greater worth has to replace
  raise_offers : raise_upto load.count (offer_of ws lows highs grid cur load row col) none ≡ join_upto load.count (offer_of ws lows highs grid cur load row col)
  unfolding offer_of
  raise_offers =
      raise-upto (λ n. shift? (move_of load n).gain (move_of load n).digit (source_of ws lows highs grid cur (move_of load n) row col)) (λ n. (move_of load n).digit) room.unit load.count
      (λ n h. shift_from (move_of load n).gain (move_of load n).digit (source_of ws lows highs grid cur (move_of load n) row col))
      (λ n h. shift_below (move_of load n).gain (move_of load n).digit room.top room.unit (source_of ws lows highs grid cur (move_of load n) row col) (source_bounded (move_of load n)))
      room.ascending load.count (omega arith)

-- nothing comes to a column to which no setting offers something
offers_none : (ws lows highs : List ℕ) (grid : Grid) (cur : ℕ) (load : LoadMoves) (row col : ℕ)
    → ((m : ℕ) → m < load.count → Offers lows highs grid row (move_of load m) col → ⊥) → join_upto load.count (offer_of ws lows highs grid cur load row col) ≡ none
unfolding offer_of
offers_none ws lows highs grid cur load row col n =
    upto-none load.count (λ m. shift? (move_of load m).gain (move_of load m).digit (source_of ws lows highs grid cur (move_of load m) row col))
    (λ m h. ap (shift? (move_of load m).gain (move_of load m).digit) (source_out ws lows highs grid cur (move_of load m) row col (n m h)))

module _ {lows highs : List ℕ} (grid : Grid) (row : ℕ) (load : LoadMoves) (span : Stretch) (g : GridFits grid) (l : row < grid.rows)
    (q : Spans lows highs grid row load load.count span) where
  beside_span : (ws : List ℕ) (cur col : ℕ) → col < grid.width → (span.low ≤ col → col < span.high → ⊥)
      → join_upto load.count (offer_of ws lows highs grid cur load row col) ≡ none
  beside_span ws cur col k n = offers_none ws lows highs grid cur load row col (λ m h o. let i = q.each m h col k o in n i.0 i.1)

  pub row_empty : (ws : List ℕ) (cur next : ℕ) {asked : Bool} → span.high ≤ span.low
      → RowMade ws ws lows highs grid cur next load row asked (record { stretch = record { low = 0; high = 0 }; count = 0 })
  row_empty ws cur next h = record {
    same_length = refl;
    low_fits = omega arith;
    high_fits = omega arith;
    inside = λ col k. held_high ws (next + row * grid.width) 0 0 col (omega arith)
        ∙ sym (beside_span ws cur col k (λ a b. omega arith));
    outside = λ x n. refl;
    counted = λ _. sym (count_none grid.width (λ col. is_some (held_in ws (next + row * grid.width) 0 0 col))
        (λ i k. ap is_some (held_high ws (next + row * grid.width) 0 0 i (omega arith))));
    count_fits = omega arith;
  }

  ends : (row * grid.width + grid.width ≤ grid.cells) × (span.high ≤ grid.width)
  ends = span_ends grid row load span g l q

  module _ {ws : List ℕ} {cur next : ℕ} (rows : Rows ws cur next grid.cells) (h : span.low < span.high) where
    module _ {ws₁ : List ℕ} {first : ℕ} (f : Opened ws ws₁ lows highs grid cur next load row span first) where
      opened : Same ws ws₁ cur grid.cells
      opened = record { same = λ x k. f.outside (cur + x) (λ col a b e. rows.never x (row * grid.width + col) k (omega (arith, ends)) (omega arith)) }

      pub opened_rows : Rows ws₁ cur next grid.cells
      opened_rows = rows_same f.same_length rows

      pub opened_room : LoadRoom ws lows highs grid cur load → LoadRoom ws₁ lows highs grid cur load
      opened_room = room_same lows highs grid g opened

      module _ {ws₂ : List ℕ} (r : RowKeys ws₁ ws₂ (next + row * grid.width) grid.width (raised_rows ws₁ lows highs grid cur next load row first (load.count - first))) where
        pub count_room : 2 * (next + row * grid.width + span.low + (span.high - span.low)) ≤ length ws₂
        count_room = omega (arith, clear_room grid row load span g l q rows h, f.same_length, r.same_length)

        inside_span : LoadRoom ws lows highs grid cur load → (col : ℕ) → col < grid.width → span.low ≤ col → col < span.high
            → key_of (cell_at ws₂ (next + row * grid.width + col)) ≡ join_upto load.count (offer_of ws lows highs grid cur load row col)
        unfolding raised_rows
        inside_span room col k a b =
            let left : first + (load.count - first) ≡ load.count = omega (arith, f.few) in
            r.inside col k
            ∙ upto-same (load.count - first) (λ m. offer_of ws₁ lows highs grid cur load row col (first + m)) (λ m. offer_of ws lows highs grid cur load row col (first + m))
            (key_of (cell_at ws₁ (next + row * grid.width + col))) (λ m o. offer_same lows highs grid g opened load row col (first + m) l)
            ∙ ap (raise_upto (load.count - first) (λ m. offer_of ws lows highs grid cur load row col (first + m))) (f.inside col a b)
            ∙ upto_split first (load.count - first) (offer_of ws lows highs grid cur load row col) none
            ∙ ap (λ n. raise_upto n (offer_of ws lows highs grid cur load row col) none) left
            ∙ raise_offers grid cur load room row col l

        pub row_made : {n : ℕ} {asked : Bool} → LoadRoom ws lows highs grid cur load
            → (asked ≡ true → n ≡ count_upto (span.high - span.low) (reached ws₂ (next + row * grid.width + span.low))) → n ≤ span.high - span.low
            → RowMade ws ws₂ lows highs grid cur next load row asked (record { stretch = span; count = n })
        row_made {n} room counted few = record {
          same_length = r.same_length ∙ f.same_length;
          low_fits = q.end.0;
          high_fits = q.end.1;
          inside = λ col k. ⊎_elim
              (λ (a : col < span.low). held_low ws₂ at span.low span.high col a ∙ sym (beside_span ws cur col k (λ x y. omega arith)))
              (λ (a : span.low ≤ col). ⊎_elim
              (λ (b : col < span.high). held_in_lem ws₂ at span.low span.high col a b ∙ inside_span room col k a b)
              (λ (b : span.high ≤ col). held_high ws₂ at span.low span.high col b ∙ sym (beside_span ws cur col k (λ x y. omega arith)))
              (split col span.high))
              (split col span.low);
          outside = λ x o. r.outside x o ∙ f.outside x (λ col a b e. o col (omega (arith, ends)) e);
          counted = λ t. counted t
              ∙ count_same (span.high - span.low) (reached ws₂ (at + span.low)) (λ j. is_some (held_in ws₂ at span.low span.high (span.low + j))) same
              ∙ sym (count_part span.low span.high grid.width (λ col. is_some (held_in ws₂ at span.low span.high col)) (omega arith) q.end.1
              (λ i k. ap is_some (held_low ws₂ at span.low span.high i k)) (λ i k. ap is_some (held_high ws₂ at span.low span.high i k)));
          count_fits = omega (arith, ends);
        }
          where
            at : ℕ
            at = next + row * grid.width

            same : (j : ℕ) → j < span.high - span.low → reached ws₂ (at + span.low) j ≡ is_some (held_in ws₂ at span.low span.high (span.low + j))
            same j k =
                let e : at + span.low + j ≡ at + (span.low + j) = omega arith in
                ap (λ x. is_some (key_of (cell_at ws₂ x))) e ∙ ap is_some (sym (held_in_lem ws₂ at span.low span.high (span.low + j) (omega arith) (omega arith)))

-- ---- the layer

pub layer-none : {ws lows highs lows' highs' : List ℕ} {grid : Grid} {cur next : ℕ} {load : LoadMoves}
    → length lows' ≡ most_rows → length highs' ≡ most_rows → LayerMade ws ws lows highs lows' highs' grid cur next load 0
layer-none a b = record {
  same_length = refl;
  low_length = a;
  high_length = b;
  low_fits = λ row l. absurd (omega arith);
  high_fits = λ row l. absurd (omega arith);
  inside = λ row col l. absurd (omega arith);
  outside = λ x h. refl;
}

rows_count : (n width : ℕ) (f g : ℕ → ℕ → Option Key) → ((row col : ℕ) → row < n → col < width → f row col ≡ g row col) → count_rows n width f ≡ count_rows n width g
unfolding count_rows
rows_count zero width f g h = refl
rows_count (suc n) width f g h =
    ap₂ ◌+◌ (rows_count n width f g (λ row col l k. h row col (omega arith) k))
    (count_same width (λ col. is_some (f n col)) (λ col. is_some (g n col)) (λ col k. ap is_some (h n col (omega arith) k)))

pub rows_count_le : (n width : ℕ) (f : ℕ → ℕ → Option Key) → count_rows n width f ≤ n * width
unfolding count_rows
rows_count_le zero width f = omega arith
rows_count_le (suc n) width f = omega (arith, rows_count_le n width f, count_le width (λ col. is_some (f n col)))

module _ {ws ws' lows highs lows' highs' : List ℕ} (grid : Grid) (cur next row : ℕ) (load : LoadMoves) (g : GridFits grid) (rows : Rows ws cur next grid.cells) (l : row < grid.rows)
    (r : LayerMade ws ws' lows highs lows' highs' grid cur next load row) where
  passed : Same ws ws' cur grid.cells
  passed = record { same = λ x k. r.outside (cur + x) (λ y o e. rows.never x y k (omega (arith, row_end grid.width l, g.area)) (omega arith)) }

  pub layer_rows : Rows ws' cur next grid.cells
  layer_rows = rows_same r.same_length rows

  pub layer_room : LoadRoom ws lows highs grid cur load → LoadRoom ws' lows highs grid cur load
  layer_room = room_same lows highs grid g passed

  module _ {ws'' : List ℕ} {asked : Bool} {m : Made} (q : RowMade ws' ws'' lows highs grid cur next load row asked m) where
    a : row < length lows'
    a = omega (arith, r.low_length, g.rows_fit)

    b : row < length highs'
    b = omega (arith, r.high_length, g.rows_fit)

    -- an earlier row, and this one
    earlier : (i col : ℕ) → i < row → col < grid.width
        → held ws'' (set lows' row m.stretch.low) (set highs' row m.stretch.high) next grid.width i col ≡ held ws' lows' highs' next grid.width i col
    unfolding held held_in
    earlier i col h k =
        rw (
          get_or-set_other lows' row i m.stretch.low 0 (omega arith),
          get_or-set_other highs' row i m.stretch.high 0 (omega arith),
          q.outside (next + i * grid.width + col) (λ j o e. omega (arith, row_end grid.width h)),
        )

    latest : (col : ℕ) → held ws'' (set lows' row m.stretch.low) (set highs' row m.stretch.high) next grid.width row col
        ≡ held_in ws'' (next + row * grid.width) m.stretch.low m.stretch.high col
    unfolding held
    latest col = rw (get_or-set_same lows' row m.stretch.low 0 a, get_or-set_same highs' row m.stretch.high 0 b)

    pub layer-more : LayerMade ws ws'' lows highs (set lows' row m.stretch.low) (set highs' row m.stretch.high) grid cur next load (row + 1)
    layer-more = record {
      same_length = q.same_length ∙ r.same_length;
      low_length = length-set lows' row m.stretch.low ∙ r.low_length;
      high_length = length-set highs' row m.stretch.high ∙ r.high_length;
      low_fits = below_more (λ i. get_or (set lows' row m.stretch.low) i 0 ≤ grid.width) row
          (λ i h. rw (get_or-set_other lows' row i m.stretch.low 0 (omega arith)) (r.low_fits i h)) (rw (get_or-set_same lows' row m.stretch.low 0 a) q.low_fits);
      high_fits = below_more (λ i. get_or (set highs' row m.stretch.high) i 0 ≤ grid.width) row
          (λ i h. rw (get_or-set_other highs' row i m.stretch.high 0 (omega arith)) (r.high_fits i h)) (rw (get_or-set_same highs' row m.stretch.high 0 b) q.high_fits);
      inside = λ i col h k. below_more
          (λ i. held ws'' (set lows' row m.stretch.low) (set highs' row m.stretch.high) next grid.width i col ≡ join_upto load.count (offer_of ws lows highs grid cur load i col)) row
          (λ i o. earlier i col o k ∙ r.inside i col o k)
          (latest col ∙ q.inside col k ∙ join-same load.count (offer_of ws' lows highs grid cur load row col) (offer_of ws lows highs grid cur load row col)
          (λ n o. offer_same lows highs grid g passed load row col n l))
          i h;
      outside = λ x h. q.outside x (λ col k e. h (row * grid.width + col) (omega (arith, next_row row grid.width)) (omega arith))
          ∙ r.outside x (λ y k e. h y (omega (arith, next_row row grid.width)) e);
    }

    pub layer-count : {n : ℕ} → asked ≡ true → n ≡ count_rows row grid.width (held ws' lows' highs' next grid.width)
        → n + m.count ≡ count_rows (row + 1) grid.width (held ws'' (set lows' row m.stretch.low) (set highs' row m.stretch.high) next grid.width)
    unfolding count_rows
    layer-count t e =
        ap₂ ◌+◌
        (e ∙ sym (rows_count row grid.width (held ws'' (set lows' row m.stretch.low) (set highs' row m.stretch.high) next grid.width) (held ws' lows' highs' next grid.width) earlier))
        (q.counted t ∙ sym (count_same grid.width (λ col. is_some (held ws'' (set lows' row m.stretch.low) (set highs' row m.stretch.high) next grid.width row col))
        (λ col. is_some (held_in ws'' (next + row * grid.width) m.stretch.low m.stretch.high col)) (λ col k. ap is_some (latest col))))
        ∙ ap (λ n. count_rows n grid.width (held ws'' (set lows' row m.stretch.low) (set highs' row m.stretch.high) next grid.width)) (sym (add-one row))

pub layer-all : {ws ws' lows highs lows' highs' : List ℕ} {grid : Grid} {cur next : ℕ} {load : LoadMoves} {n rows : ℕ} → n ≤ rows → rows ≤ n
    → LayerMade ws ws' lows highs lows' highs' grid cur next load n → LayerMade ws ws' lows highs lows' highs' grid cur next load rows
layer-all h k r = rw (le_antisymm h k) at r

pub layer_total : (width : ℕ) (f : ℕ → ℕ → Option Key) {n rows c : ℕ} → n ≤ rows → rows ≤ n → c ≡ count_rows n width f → c ≡ count_rows rows width f
layer_total width f h k e = rw (le_antisymm h k) at e

-- ---- rows that nothing reaches

pub below : {grid : Grid} {load : LoadMoves} {used rows row : ℕ} → Reaches grid load used rows → row < rows → row < grid.rows
below f l = omega (arith, f.fits)

pub empty-more : {lows highs : List ℕ} {used used' : ℕ} → used ≤ used' → EmptyFrom lows highs used → EmptyFrom lows highs used'
empty-more h i = record { no_low = λ row l. i.no_low row (omega arith); no_high = λ row l. i.no_high row (omega arith) }

pub empty-set_row : {lows highs : List ℕ} {rows : ℕ} (row a b : ℕ) → row < rows → EmptyFrom lows highs rows → EmptyFrom (set lows row a) (set highs row b) rows
empty-set_row {lows} {highs} row a b l i = record {
  no_low = λ j h. get_or-set_other lows row j a 0 (λ e. omega arith) ∙ i.no_low j h;
  no_high = λ j h. get_or-set_other highs row j b 0 (λ e. omega arith) ∙ i.no_high j h;
}

module _ {ws ws' lows highs lows' highs' : List ℕ} {grid : Grid} {cur next : ℕ} {load : LoadMoves} {used rows : ℕ}
    (blank : EmptyFrom lows highs used) (blank' : EmptyFrom lows' highs' rows) (far : Reaches grid load used rows)
    (r : LayerMade ws ws' lows highs lows' highs' grid cur next load rows) where
  -- nothing is held in such a row, and nothing comes to it
  rest_none : (row col : ℕ) → rows ≤ row → held ws' lows' highs' next grid.width row col ≡ none
  unfolding held
  rest_none row col h = rw (blank'.no_low row h, blank'.no_high row h) (held_high ws' (next + row * grid.width) 0 0 col (omega arith))

  rest_offers : (row col : ℕ) → rows ≤ row → row < grid.rows → join_upto load.count (offer_of ws lows highs grid cur load row col) ≡ none
  rest_offers row col h l =
      offers_none ws lows highs grid cur load row col
      (λ m k o. let f = far.far m k row h l in let z = blank.no_high (row - (move_of load m).back) (omega arith) in omega (arith, o.from_low, o.to_high))

  pub layer_rest : LayerMade ws ws' lows highs lows' highs' grid cur next load grid.rows
  layer_rest = record {
    same_length = r.same_length;
    low_length = r.low_length;
    high_length = r.high_length;
    low_fits = λ row l. ⊎_elim (r.low_fits row) (λ (h : rows ≤ row). omega (arith, blank'.no_low row h)) (split row rows);
    high_fits = λ row l. ⊎_elim (r.high_fits row) (λ (h : rows ≤ row). omega (arith, blank'.no_high row h)) (split row rows);
    inside = λ row col l k. ⊎_elim
        (λ (h : row < rows). r.inside row col h k)
        (λ (h : rows ≤ row). rest_none row col h ∙ sym (rest_offers row col h l))
        (split row rows);
    outside = λ x h. r.outside x (λ y k e. h y (omega (arith, mul-le-mul_right grid.width far.fits)) e);
  }

  rest_count : (j : ℕ) → count_rows (rows + j) grid.width (held ws' lows' highs' next grid.width) ≡ count_rows rows grid.width (held ws' lows' highs' next grid.width)
  unfolding count_rows
  rest_count zero = ap (λ n. count_rows n grid.width (held ws' lows' highs' next grid.width)) (add-zero rows)
  rest_count (suc j) =
      ap (λ n. count_rows n grid.width (held ws' lows' highs' next grid.width)) (add-suc rows j)
      ∙ ap₂ ◌+◌ (rest_count j) (count_none grid.width (λ col. is_some (held ws' lows' highs' next grid.width (rows + j) col)) (λ col k. ap is_some (rest_none (rows + j) col (omega arith))))
      ∙ add-zero (count_rows rows grid.width (held ws' lows' highs' next grid.width))

  pub layer_rest_count : {c : ℕ} → c ≡ count_rows rows grid.width (held ws' lows' highs' next grid.width)
      → c ≡ count_rows grid.rows grid.width (held ws' lows' highs' next grid.width)
  layer_rest_count e =
      let q : rows + (grid.rows - rows) ≡ grid.rows = omega (arith, far.fits) in
      e ∙ sym (rest_count (grid.rows - rows)) ∙ ap (λ n. count_rows n grid.width (held ws' lows' highs' next grid.width)) q
