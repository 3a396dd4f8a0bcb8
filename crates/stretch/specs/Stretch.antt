-- Which rows and columns a setting leads to (a row is the cells with equal active coordinates), and what the functions ask of the grid.
use Rattle.std.specs.Prelude.{ℕ, zero, suc, ◌+◌, ◌-◌, ◌*◌, ◌/◌, ◌%◌, ◌<◌, ◌≤◌, ◌≡◌, Bool, true, ◌&&◌, List, [], get_or, leb}
use Rattle.model.specs.Bounds.{most_slots, most_settings, most_cells, most_rows}
use Rattle.stretch.specs.declared.SettingMove.{SettingMove}
use Rattle.grid.specs.declared.Grid.{Grid}
use Rattle.grid.specs.declared.SlotGrid.{SlotGrid}
use Rattle.grid.specs.Geometry.{no_sizes, entry_at}
use Rattle.stretch.specs.declared.LoadMoves.{LoadMoves}
use Rattle.stretch.specs.declared.Stretch.{Stretch}

-- ---- where a setting leads

-- from slot t on, for n slots: the row's active coordinate, the remainder by the slot's count, is at least `active`
unfoldable pub covers_from : List SlotGrid → List ℕ → ℕ → ℕ → ℕ → Bool
covers_from sizes active t zero rest = true
covers_from sizes active t (suc n) rest =
    leb (get_or active t 0) (rest % (get_or sizes t no_sizes).top) && covers_from sizes active (t + 1) n (rest / (get_or sizes t no_sizes).top)

-- whether a setting can lead to a row
unfoldable pub tried : Grid → SettingMove → ℕ → Bool
unfolding covers_from
tried grid mv row = covers_from grid.sizes mv.active 0 grid.slots row

abbrev pub no_move : SettingMove
no_move = record { gain = 0; digit = 0; back = 0; up = 0; down = 0; active = [] }

-- what setting n of a load does
abbrev pub move_of : LoadMoves → ℕ → SettingMove
move_of load n = get_or load.moves n no_move

-- ---- what the functions ask

-- the slots, the rows and the cells are within their bounds, and the rows and columns make up the cells
pub record GridFits (grid : Grid) : Type 0 where
  pub slots_fit : grid.slots ≤ most_slots
  pub tops_fit : (t : ℕ) → t < grid.slots → 0 < (entry_at grid t).top
  pub area : grid.rows * grid.width ≡ grid.cells
  pub rows_fit : grid.rows ≤ most_rows
  pub width_fits : grid.width ≤ most_cells
  pub cells_fit : grid.cells ≤ most_cells

-- the stretches end within their rows
pub record StretchesFit (lows highs : List ℕ) (grid : Grid) : Type 0 where
  pub low_fits : (row : ℕ) → row < grid.rows → get_or lows row 0 ≤ grid.width
  pub high_fits : (row : ℕ) → row < grid.rows → get_or highs row 0 ≤ grid.width

-- a setting that can lead to a row comes from a row, and columns move by at most 2^40
pub record MoveFits (grid : Grid) (mv : SettingMove) : Type 0 where
  pub back_fits : (row : ℕ) → tried grid mv row ≡ true → mv.back ≤ row
  pub up_fits : mv.up ≤ 1099511627776
  pub down_fits : mv.down ≤ 1099511627776

-- no more settings than a load can have, each of which fits
pub record LoadFits (grid : Grid) (load : LoadMoves) : Type 0 where
  pub count_fits : load.count ≤ most_settings
  pub each : (n : ℕ) → n < load.count → MoveFits grid (move_of load n)

-- ---- what the functions find

-- the columns to which a shift takes a stretch, within a row
pub record Clipped (low high up down width : ℕ) (r : Stretch) : Type 0 where
  pub from_low : (col : ℕ) → r.low ≤ col → col < r.high → low + up ≤ col + down
  pub to_high : (col : ℕ) → r.low ≤ col → col < r.high → col + down < high + up
  pub end : (r.low ≤ width) × (r.high ≤ width)
  pub all : (col : ℕ) → col < width → low + up ≤ col + down → col + down < high + up → (r.low ≤ col) × (col < r.high)

-- a setting offers something that is held to column col of a row
pub record Offers (lows highs : List ℕ) (grid : Grid) (row : ℕ) (mv : SettingMove) (col : ℕ) : Type 0 where
  pub covered : tried grid mv row ≡ true
  pub from_low : get_or lows (row - mv.back) 0 + mv.up ≤ col + mv.down
  pub to_high : col + mv.down < get_or highs (row - mv.back) 0 + mv.up

-- the columns of a row to which a setting offers something
pub record Part (lows highs : List ℕ) (grid : Grid) (row : ℕ) (mv : SettingMove) (r : Stretch) : Type 0 where
  pub end : (r.low ≤ grid.width) × (r.high ≤ grid.width)
  pub only : (col : ℕ) → r.low ≤ col → col < r.high → Offers lows highs grid row mv col
  pub all : (col : ℕ) → col < grid.width → Offers lows highs grid row mv col → (r.low ≤ col) × (col < r.high)

-- a stretch that holds two others
pub record Joined (s part r : Stretch) : Type 0 where
  pub end : (w : ℕ) → s.low ≤ w → s.high ≤ w → part.low ≤ w → part.high ≤ w → (r.low ≤ w) × (r.high ≤ w)
  pub first : (col : ℕ) → s.low ≤ col → col < s.high → (r.low ≤ col) × (col < r.high)
  pub second : (col : ℕ) → part.low ≤ col → col < part.high → (r.low ≤ col) × (col < r.high)

-- a stretch that holds all to which the first n settings offer something
pub record Spans (lows highs : List ℕ) (grid : Grid) (row : ℕ) (load : LoadMoves) (n : ℕ) (r : Stretch) : Type 0 where
  pub end : (r.low ≤ grid.width) × (r.high ≤ grid.width)
  pub each : (m : ℕ) → m < n → (col : ℕ) → col < grid.width → Offers lows highs grid row (move_of load m) col → (r.low ≤ col) × (col < r.high)

-- from row `used` on nothing is held
pub record EmptyFrom (lows highs : List ℕ) (used : ℕ) : Type 0 where
  pub no_low : (row : ℕ) → used ≤ row → get_or lows row 0 ≡ 0
  pub no_high : (row : ℕ) → used ≤ row → get_or highs row 0 ≡ 0

-- the rows of the next layer from r on lie too far for every setting
pub record Reaches (grid : Grid) (load : LoadMoves) (used r : ℕ) : Type 0 where
  pub more : used ≤ r
  pub fits : r ≤ grid.rows
  pub far : (n : ℕ) → n < load.count → (row : ℕ) → r ≤ row → row < grid.rows → used + (move_of load n).back ≤ row
