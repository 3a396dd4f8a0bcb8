-- What a layer holds and what a setting offers from it; two lists of words that have the same current layer.
-- Assumes nothing.
use Prim.Native.Nat.{ℕ, ◌+◌, ◌-◌, ◌*◌, ◌<◌, ◌≤◌}
use mathlib.Core.Path.{◌≡◌, refl, ap}
use mathlib.Core.List.{List}
use mathlib.Core.Bool.{Bool, true, false, cond, ◌&&◌}
use mathlib.Core.Option.{Option, none}
use native.Mathlib.Nat.{suc-mul, mul-le-mul_right}
use native.Mathlib.Omega.{arith}
use borrow.Author.Tests.{le-leb, lt-leb, lt-ltb, le-ltb, leb-true, ltb-true}
use lib.Dec.{leb, ltb}
use lib.ListN.{get_or, length}
use Rattle.model.specs.Cells.{Key, shift?, Bounded}
use Rattle.model.proofs.ListLaws.{both_true}
use Rattle.table.specs.Table.{cell_at, key_of, Rows}
use Rattle.stretch.specs.declared.SettingMove.{SettingMove}
use Rattle.grid.specs.declared.Grid.{Grid}
use Rattle.stretch.specs.declared.LoadMoves.{LoadMoves}
use Rattle.stretch.specs.Stretch.{tried, move_of, GridFits, StretchesFit, Offers}
use Rattle.rows.specs.Row.{held_in, held, source_of, offer_of, MoveRoom, LoadRoom, RowKeys}

-- the end of a row below n
pub row_end : {row n : ℕ} (width : ℕ) → row < n → row * width + width ≤ n * width
row_end {row} {n} width l = rw (suc-mul row width) at (mul-le-mul_right width l)

pub next_row : (row width : ℕ) → (row + 1) * width ≡ row * width + width
next_row row width = omega arith

-- within a stretch, and beside it
module _ (ws : List ℕ) (at low high col : ℕ) where
  pub held_in_lem : low ≤ col → col < high → held_in ws at low high col ≡ key_of (cell_at ws (at + col))
  unfolding held_in
  held_in_lem h k = simp (le-leb low col h, lt-ltb col high k)

  pub held_low : col < low → held_in ws at low high col ≡ none
  unfolding held_in
  held_low h = simp (lt-leb low col h)

  pub held_high : high ≤ col → held_in ws at low high col ≡ none
  unfolding held_in
  held_high h = go (leb low col)
    where
      go : (t : Bool) → cond (t && ltb col high) (key_of (cell_at ws (at + col))) none ≡ none
      go true = simp (le-ltb col high h)
      go false = refl

-- what a setting offers, where it offers something that is held, and where not
module _ (ws lows highs : List ℕ) (grid : Grid) (cur : ℕ) (mv : SettingMove) (row col : ℕ) where
  pub source_in : StretchesFit lows highs grid → row < grid.rows → Offers lows highs grid row mv col
      → source_of ws lows highs grid cur mv row col ≡ key_of (cell_at ws (cur + (row - mv.back) * grid.width + (col + mv.down - mv.up)))
  unfolding source_of held
  source_in s l o =
      let k : row - mv.back < grid.rows = omega arith in
      let h = s.high_fits (row - mv.back) k in
      let u : mv.up ≤ col + mv.down = omega (arith, o.from_low) in
      let w : col + mv.down - mv.up < grid.width = omega (arith, o.to_high) in
      simp (o.covered, le-leb mv.up (col + mv.down) u, lt-ltb (col + mv.down - mv.up) grid.width w)
      (held_in_lem ws (cur + (row - mv.back) * grid.width) (get_or lows (row - mv.back) 0) (get_or highs (row - mv.back) 0) (col + mv.down - mv.up)
      (omega (arith, o.from_low)) (omega (arith, o.to_high)))

  pub source_out : (Offers lows highs grid row mv col → ⊥) → source_of ws lows highs grid cur mv row col ≡ none
  unfolding source_of held held_in
  source_out n = go (tried grid mv row) refl (leb mv.up (col + mv.down)) refl (ltb (col + mv.down - mv.up) grid.width)
      (leb (get_or lows (row - mv.back) 0) (col + mv.down - mv.up)) refl (ltb (col + mv.down - mv.up) (get_or highs (row - mv.back) 0)) refl
    where
      x : Option Key
      x = key_of (cell_at ws (cur + (row - mv.back) * grid.width + (col + mv.down - mv.up)))

      go : (a : Bool) → tried grid mv row ≡ a → (b : Bool) → leb mv.up (col + mv.down) ≡ b → (c : Bool)
          → (d : Bool) → leb (get_or lows (row - mv.back) 0) (col + mv.down - mv.up) ≡ d → (e : Bool) → ltb (col + mv.down - mv.up) (get_or highs (row - mv.back) 0) ≡ e
          → cond (a && (b && c)) (cond (d && e) x none) none ≡ none
      go true p true q true true r true t = absurd (n (record {
        covered = p;
        from_low = omega (arith, leb-true mv.up (col + mv.down) q, leb-true (get_or lows (row - mv.back) 0) (col + mv.down - mv.up) r);
        to_high = omega (arith, leb-true mv.up (col + mv.down) q, ltb-true (col + mv.down - mv.up) (get_or highs (row - mv.back) 0) t);
      }))
      go true p true q true true r false t = refl
      go true p true q true false r e t = refl
      go true p true q false d r e t = refl
      go true p false q c d r e t = refl
      go false p b q c d r e t = refl

-- where a setting is tried, its source column is within the row
pub source_column : (grid : Grid) (mv : SettingMove) (row col : ℕ)
    → (tried grid mv row && (leb mv.up (col + mv.down) && ltb (col + mv.down - mv.up) grid.width)) ≡ true → col + mv.down - mv.up < grid.width
source_column grid mv row col e =
    let up_in : Bool = leb mv.up (col + mv.down) in
    let in_row : Bool = ltb (col + mv.down - mv.up) grid.width in
    ltb-true (col + mv.down - mv.up) grid.width (both_true up_in in_row (both_true (tried grid mv row) (up_in && in_row) e).1).1

-- what holds of a key that is there only where a test holds
pub cond_same : (t : Bool) (x y : Option Key) → (t ≡ true → x ≡ y) → cond t x none ≡ cond t y none
cond_same true x y h = h refl
cond_same false x y h = refl

pub cond_bounded : (top unit : ℕ) (t : Bool) (x : Option Key) → (t ≡ true → Bounded top unit x) → Bounded top unit (cond t x none)
cond_bounded top unit true x h = h refl
cond_bounded top unit false x h = tt

-- two lists of words that agree in the current layer
pub record Same (ws ws' : List ℕ) (cur cells : ℕ) : Type 0 where
  pub same : (x : ℕ) → x < cells → cell_at ws' (cur + x) ≡ cell_at ws (cur + x)

module _ {ws ws' : List ℕ} (lows highs : List ℕ) (grid : Grid) {cur : ℕ} (g : GridFits grid) (k : Same ws ws' cur grid.cells) where
  pub held_same : (row col : ℕ) → row < grid.rows → col < grid.width
      → held ws' lows highs cur grid.width row col ≡ held ws lows highs cur grid.width row col
  unfolding held held_in
  held_same row col l h =
      let e : cur + row * grid.width + col ≡ cur + (row * grid.width + col) = omega arith in
      let i : row * grid.width + col < grid.cells = omega (arith, row_end grid.width l, g.area) in
      rw (e, k.same (row * grid.width + col) i)

  pub source-same : (mv : SettingMove) (row col : ℕ) → row < grid.rows → source_of ws' lows highs grid cur mv row col ≡ source_of ws lows highs grid cur mv row col
  unfolding source_of
  source-same mv row col l =
      cond_same (tried grid mv row && (leb mv.up (col + mv.down) && ltb (col + mv.down - mv.up) grid.width))
      (held ws' lows highs cur grid.width (row - mv.back) (col + mv.down - mv.up))
      (held ws lows highs cur grid.width (row - mv.back) (col + mv.down - mv.up))
      (λ e. held_same (row - mv.back) (col + mv.down - mv.up) (omega arith) (source_column grid mv row col e))

  pub offer_same : (load : LoadMoves) (row col n : ℕ) → row < grid.rows → offer_of ws' lows highs grid cur load row col n ≡ offer_of ws lows highs grid cur load row col n
  unfolding offer_of
  offer_same load row col n l = ap (shift? (move_of load n).gain (move_of load n).digit) (source-same (move_of load n) row col l)

  pub room_same : {load : LoadMoves} → LoadRoom ws lows highs grid cur load → LoadRoom ws' lows highs grid cur load
  room_same r = record {
    top = r.top;
    unit = r.unit;
    small = λ row col l h. rw (held_same row col l h) (r.small row col l h);
    gain_fits = r.gain_fits;
    digit_fits = r.digit_fits;
    ascending = r.ascending;
  }

pub move_room : {ws lows highs : List ℕ} {grid : Grid} {cur : ℕ} {load : LoadMoves} (n : ℕ) → n < load.count → LoadRoom ws lows highs grid cur load
    → MoveRoom ws lows highs grid cur (move_of load n).gain (move_of load n).digit
move_room n l r = record { top = r.top; unit = r.unit; small = r.small; gain_fits = r.gain_fits n l; digit_fits = r.digit_fits n l }

-- what fills a row of the next layer keeps the current one
pub keys_same : {ws ws' : List ℕ} {cur next : ℕ} (grid : Grid) (row : ℕ) {f : ℕ → Option Key} → GridFits grid → Rows ws cur next grid.cells → row < grid.rows
    → RowKeys ws ws' (next + row * grid.width) grid.width f → Same ws ws' cur grid.cells
keys_same {ws} {ws'} {cur} {next} grid row g rows l r = record {
  same = λ x h. r.outside (cur + x) (λ col k e. rows.never x (row * grid.width + col) h (omega (arith, row_end grid.width l, g.area)) (omega arith));
}

pub rows_same : {ws ws' : List ℕ} {cur next cells : ℕ} → length ws' ≡ length ws → Rows ws cur next cells → Rows ws' cur next cells
rows_same e r = record { source = omega (arith, r.source); target = omega (arith, r.target); never = r.never }
