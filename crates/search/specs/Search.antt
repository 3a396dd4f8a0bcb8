-- The passes of all loads: of which slots and loads the numbers of the code speak, and what the layers and the trials then are.
use Rattle.std.specs.Prelude.{ℕ, ◌+◌, ◌*◌, ◌<◌, ◌≤◌, ◌≡◌, ◌⊎◌, List, [], length, get_or, take}
use Rattle.model.specs.Lists.{Every}
use Rattle.model.specs.Bounds.{most_loads, most_rows}
use Rattle.model.specs.Book.{Settings}
use Rattle.model.specs.Grid.{Slot}
use Rattle.model.specs.Trials.{trials_upto}
use Rattle.model.specs.Valid.{Ready, SettingBelow}
use Rattle.model.specs.Cells.{cell_best}
use Rattle.table.specs.declared.Cell.{Cell}
use Rattle.table.specs.Table.{cell_at}
use Rattle.grid.specs.declared.Grid.{Grid}
use Rattle.grid.specs.Geometry.{GridIs}
use Rattle.stretch.specs.declared.LoadMoves.{LoadMoves}
use Rattle.rows.specs.Row.{held}
use Rattle.pass.specs.Pass.{count_rows}
use Rattle.moves.specs.Moves.{moves_of, LoadIs}

-- ---- the numbers of the code

-- the slots and loads of the definitions of which the numbers of the code speak: n loads, at ratio r
pub record Modelled (grid : Grid) (n : ℕ) (moves : List LoadMoves) : Type 0 where
  pub r : ℕ
  pub slots : List Slot
  pub loads : List Settings
  pub ready : Ready r n slots loads
  pub loads_are : length loads ≡ n
  pub loads_fit : n ≤ most_loads
  pub some_load : 0 < n
  pub some_slot : 0 < length slots
  pub small : Every (Every (SettingBelow 65535)) loads
  pub grid_is : GridIs slots grid
  pub each : (k : ℕ) → k < n → LoadIs slots k (get_or loads k []) (moves_of moves k)

-- ---- what the search makes

-- the cell that holds the choice of no load: worth 0 and code 0
abbrev pub first_cell : Cell
first_cell = record { worth = 1; code = 0 }

-- THE LAYER after k loads: each cell holds the best of the choices of the first k loads whose grid pairs are its own
pub record LayerIs (ws lows highs : List ℕ) (grid : Grid) (n : ℕ) (moves : List LoadMoves) (m : Modelled grid n moves) (k cur : ℕ) : Type 0 where
  pub cell : (row col : ℕ) → row < grid.rows → col < grid.width
      → held ws lows highs cur grid.width row col ≡ cell_best m.slots (take k m.loads) (row * grid.width + col)

-- where the layers lie, and that nothing beyond them has changed
pub record Places (ws ws' lows highs : List ℕ) (grid : Grid) (cur : ℕ) : Type 0 where
  pub same_length : length ws' ≡ length ws
  pub side : (cur ≡ 0) ⊎ (cur ≡ grid.cells)
  pub low_length : length lows ≡ most_rows
  pub high_length : length highs ≡ most_rows
  pub low_fits : (row : ℕ) → row < grid.rows → get_or lows row 0 ≤ grid.width
  pub high_fits : (row : ℕ) → row < grid.rows → get_or highs row 0 ≤ grid.width
  pub past : (x : ℕ) → 2 * grid.cells ≤ x → cell_at ws' x ≡ cell_at ws x

-- the trials of the first k loads
abbrev pub trials_of : {grid : Grid} {n : ℕ} {moves : List LoadMoves} → Modelled grid n moves → ℕ → ℕ
trials_of m k = trials_upto m.slots m.loads k

-- after the first k loads
pub record Run (ws ws' lows highs : List ℕ) (grid : Grid) (n : ℕ) (moves : List LoadMoves) (m : Modelled grid n moves) (k cur reached trials : ℕ) : Type 0 where
  pub places : Places ws ws' lows highs grid cur
  pub layer : LayerIs ws' lows highs grid n moves m k cur
  pub reached_is : k < n → reached ≡ count_rows grid.rows grid.width (held ws' lows highs cur grid.width)
  pub trials_are : trials ≡ trials_of m k

-- what the search of n loads gives: the trials, if they are within the budget, and then the last layer; else that they are not
pub record Searched (ws lows highs : List ℕ) (grid : Grid) (n : ℕ) (moves : List LoadMoves) (m : Modelled grid n moves) (budget cur trials : ℕ) : Type 0 where
  pub within : trials ≤ budget → (trials ≡ trials_of m n) × LayerIs ws lows highs grid n moves m n cur
  pub over : budget < trials → budget < trials_of m n
