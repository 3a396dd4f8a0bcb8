-- The geometry of a table as the numbers of the code: of one slot, of all slots, and of a book's.
use Rattle.std.specs.Prelude.{ℕ, ◌+◌, ◌<◌, ◌≤◌, ◌≡◌, List, [], length, get_or}
use Rattle.model.specs.Bounds.{most_slots, most_loads, most_ratio, most_cells}
use Rattle.model.specs.Book.{Problem}
use Rattle.model.specs.Grid.{Slot, slots_of, grids_of}
use Rattle.model.specs.Trials.{grid_top, width_of, cell_count, cells}
use Rattle.model.specs.Index.{depth_of, row_count, column_count, column_index}
use Rattle.grid.specs.declared.Grid.{Grid}
use Rattle.grid.specs.declared.SlotGrid.{SlotGrid}

-- ---- the numbers

-- the numbers of a slot
pub record SlotIs (s : Slot) (x : SlotGrid) : Type 0 where
  pub step_is : x.step ≡ s.step
  pub top_is : x.top ≡ grid_top s + 1
  pub width_is : x.width ≡ width_of s
  pub depth_is : x.depth ≡ depth_of s

-- what is read past the last slot
abbrev pub no_slot : Slot
no_slot = record { place = 0; limit = 0; step = 1; loads = 0; ratio = 1 }

-- what is read past the last of the sizes
abbrev pub no_sizes : SlotGrid
no_sizes = record { step = 0; top = 0; width = 0; depth = 0 }

-- the sizes at place t
abbrev pub entry_at : Grid → ℕ → SlotGrid
entry_at v t = get_or v.sizes t no_sizes

-- THE GEOMETRY of the table of these slots, where its cells are within their bound
pub record GridIs (slots : List Slot) (v : Grid) : Type 0 where
  pub slots_are : v.slots ≡ length slots
  pub slots_fit : length slots ≤ most_slots
  pub each : (t : ℕ) → t < length slots → SlotIs (get_or slots t no_slot) (entry_at v t)
  pub rows_are : v.rows ≡ row_count slots
  pub width_is : v.width ≡ column_count slots
  pub cells_are : v.cells ≡ cell_count slots
  pub cells_fit : v.cells ≤ most_cells
  pub origin_is : v.origin ≡ column_index slots (grids_of slots [])

-- ---- of a book

-- a number of cells that is exact up to the bound, and over that where the cells are
pub record Capped (count r : ℕ) : Type 0 where
  pub exact : r ≤ most_cells → r ≡ count
  pub over : most_cells < r → most_cells < count

-- the geometry of a book's table; where the cells are over their bound, only that is said
pub record BookGrid (b : Problem) (v : Grid) : Type 0 where
  pub is : v.cells ≤ most_cells → GridIs (slots_of b) v
  pub over : most_cells < v.cells → most_cells < cells b

-- ---- the slots of which a grid speaks

-- what is known of slot t of a book
pub record SlotSound (t : ℕ) (s : Slot) : Type 0 where
  pub place_is : s.place ≡ t
  pub step_some : 1 ≤ s.step
  pub step_small : s.step ≤ 65535
  pub limit_small : s.limit ≤ 65535
  pub loads_few : s.loads ≤ most_loads
  pub ratio_some : 1 ≤ s.ratio
  pub ratio_few : s.ratio ≤ most_ratio

pub record Laid (v : Grid) : Type 0 where
  pub slots : List Slot
  pub is : GridIs slots v
  pub sound : (t : ℕ) → t < length slots → SlotSound t (get_or slots t no_slot)
