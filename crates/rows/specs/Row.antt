-- What a layer's row holds, and what the settings of a load offer to it. Of each row only a stretch of columns is held: a cell outside its
-- row's stretch is empty, whatever the words have there.
use Rattle.std.specs.Prelude.{ℕ, zero, suc, ◌+◌, ◌-◌, ◌*◌, ◌<◌, ◌≤◌, ◌^◌, ◌≡◌, cond, ◌&&◌, List, get_or, length, ltb, leb}
use Rattle.std.proofs.Math.Option.{Option, none, some}
use Rattle.model.specs.Cells.{Key, shift?, Bounded}
use Rattle.table.specs.Table.{cell_at, key_of}
use Rattle.stretch.specs.declared.SettingMove.{SettingMove}
use Rattle.grid.specs.declared.Grid.{Grid}
use Rattle.stretch.specs.declared.LoadMoves.{LoadMoves}
use Rattle.stretch.specs.declared.Stretch.{Stretch}
use Rattle.stretch.specs.Stretch.{tried, move_of}

-- ---- what a layer holds

-- column col of a row whose cells start at `at`, and of which the stretch from low to high is held
unfoldable pub held_in : List ℕ → ℕ → ℕ → ℕ → ℕ → Option Key
held_in ws at low high col = cond (leb low col && ltb col high) (key_of (cell_at ws (at + col))) none

-- THE MEANING OF A LAYER: what the cell at a row and a column holds, where the layer's cells start at `base`
unfoldable pub held : List ℕ → List ℕ → List ℕ → ℕ → ℕ → ℕ → ℕ → Option Key
unfolding held_in
held ws lows highs base width row col = held_in ws (base + row * width) (get_or lows row 0) (get_or highs row 0) col

-- ---- what a setting offers

-- what the one cell holds from which a setting comes to the cell at a row and a column
unfoldable pub source_of : List ℕ → List ℕ → List ℕ → Grid → ℕ → SettingMove → ℕ → ℕ → Option Key
unfolding held tried
source_of ws lows highs grid cur mv row col =
    cond (tried grid mv row && (leb mv.up (col + mv.down) && ltb (col + mv.down - mv.up) grid.width))
    (held ws lows highs cur grid.width (row - mv.back) (col + mv.down - mv.up)) none

-- what setting n offers to the cell at a row and a column
unfoldable pub offer_of : List ℕ → List ℕ → List ℕ → Grid → ℕ → LoadMoves → ℕ → ℕ → ℕ → Option Key
unfolding source_of
offer_of ws lows highs grid cur load row col n =
    shift? (move_of load n).gain (move_of load n).digit (source_of ws lows highs grid cur (move_of load n) row col)

-- the second where it is worth more
abbrev pub raise : Option Key → Option Key → Option Key
raise none y = y
raise (some x) none = some x
raise (some x) (some y) = some (cond (ltb x.worth y.worth) y x)

-- the first n offers in turn
unfoldable pub raise_upto : ℕ → (ℕ → Option Key) → Option Key → Option Key
raise_upto zero f x = x
raise_upto (suc n) f x = raise (raise_upto n f x) (f n)

-- ---- what the functions ask

-- each cell of the current layer has room for a setting's gain and digit
pub record MoveRoom (ws lows highs : List ℕ) (grid : Grid) (cur gain digit : ℕ) : Type 0 where
  pub top : ℕ
  pub unit : ℕ
  pub small : (row col : ℕ) → row < grid.rows → col < grid.width → Bounded top unit (held ws lows highs cur grid.width row col)
  pub gain_fits : top + 1 + gain < 2 ^ 64
  pub digit_fits : unit + digit ≤ 2 ^ 64

-- each cell of the current layer has room for each setting's gain and digit: worths are at most `top`, and codes below `unit`. The digits ascend
-- by at least `unit`
pub record LoadRoom (ws lows highs : List ℕ) (grid : Grid) (cur : ℕ) (load : LoadMoves) : Type 0 where
  pub top : ℕ
  pub unit : ℕ
  pub small : (row col : ℕ) → row < grid.rows → col < grid.width → Bounded top unit (held ws lows highs cur grid.width row col)
  pub gain_fits : (n : ℕ) → n < load.count → top + 1 + (move_of load n).gain < 2 ^ 64
  pub digit_fits : (n : ℕ) → n < load.count → unit + (move_of load n).digit ≤ 2 ^ 64
  pub ascending : (m n : ℕ) → m < n → n < load.count → (move_of load m).digit + unit ≤ (move_of load n).digit

-- where a setting's pass over its part of a row begins and ends
pub record Ends (grid : Grid) (row : ℕ) (mv : SettingMove) (part : Stretch) : Type 0 where
  pub back_in : mv.back ≤ row
  pub shift_in : mv.up ≤ part.low + mv.down
  pub source_in : part.low + mv.down - mv.up + (part.high - part.low) ≤ grid.width
  pub target_in : part.high ≤ grid.width
  pub source_end : (row - mv.back) * grid.width + grid.width ≤ grid.cells
  pub target_end : row * grid.width + grid.width ≤ grid.cells

-- ---- what the functions make

-- the words ws' are ws with the cells of one row, at `at`, holding f 0, f 1, .., and every cell outside the row as it was
pub record RowKeys (ws ws' : List ℕ) (at width : ℕ) (f : ℕ → Option Key) : Type 0 where
  pub same_length : length ws' ≡ length ws
  pub inside : (col : ℕ) → col < width → key_of (cell_at ws' (at + col)) ≡ f col
  pub outside : (x : ℕ) → ((col : ℕ) → col < width → x ≡ at + col → ⊥) → cell_at ws' x ≡ cell_at ws x

-- the words ws' are ws with a stretch of a row of the next layer holding what the first r settings offer, and every cell outside as it was
pub record Opened (ws ws' lows highs : List ℕ) (grid : Grid) (cur next : ℕ) (load : LoadMoves) (row : ℕ) (s : Stretch) (r : ℕ) : Type 0 where
  pub same_length : length ws' ≡ length ws
  pub few : r ≤ load.count
  pub inside : (col : ℕ) → s.low ≤ col → col < s.high → key_of (cell_at ws' (next + row * grid.width + col))
      ≡ raise_upto r (offer_of ws lows highs grid cur load row col) none
  pub outside : (x : ℕ) → ((col : ℕ) → s.low ≤ col → col < s.high → x ≡ next + row * grid.width + col → ⊥) → cell_at ws' x ≡ cell_at ws x

-- a row of the next layer after a setting, and after n settings from `first` on
unfoldable pub raised_row : List ℕ → List ℕ → List ℕ → Grid → ℕ → ℕ → SettingMove → ℕ → ℕ → Option Key
unfolding source_of
raised_row ws lows highs grid cur next mv row col =
    raise (key_of (cell_at ws (next + row * grid.width + col))) (shift? mv.gain mv.digit (source_of ws lows highs grid cur mv row col))

unfoldable pub raised_rows : List ℕ → List ℕ → List ℕ → Grid → ℕ → ℕ → LoadMoves → ℕ → ℕ → ℕ → ℕ → Option Key
unfolding offer_of raise_upto
raised_rows ws lows highs grid cur next load row first n col =
    raise_upto n (λ m. offer_of ws lows highs grid cur load row col (first + m)) (key_of (cell_at ws (next + row * grid.width + col)))
