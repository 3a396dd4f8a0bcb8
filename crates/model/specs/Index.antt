-- The table's cells by rows: which cell a list of grid pairs has. No section of document 01, which asks only for a cell for each list.
use Rattle.std.specs.Prelude.{ℕ, suc, ◌+◌, ◌*◌, ◌-◌, ◌/◌, ◌%◌, ◌<◌, ◌≤◌, List, [], ◌∷◌, ℤ, pos, negsuc}
use Rattle.std.proofs.Math.IntN.{sub_ℕ}
use Rattle.model.specs.Book.{Power}
use Rattle.model.specs.Grid.{Slot}
use Rattle.model.specs.Trials.{grid_top, width_of}

-- how far a whole number lies above 0, and how far below
abbrev pub up : ℤ → ℕ
up (pos n) = n
up (negsuc n) = 0

abbrev pub down : ℤ → ℕ
down (pos n) = 0
down (negsuc n) = suc n

-- how far below 0 a b can be, where a is at most R
abbrev pub depth_of : Slot → ℕ
depth_of s = s.ratio * grid_top s + s.ratio * s.loads

-- a pair that has a cell: a is at most R, and b, from the depth below 0 on, is one of the slot's values
pub record Within (s : Slot) (g : Power) : Type 0 where
  pub active : g.p ≤ grid_top s
  pub low : down g.q ≤ depth_of s
  pub high : up g.q + depth_of s < width_of s

-- b from 0 on
abbrev pub raised_in : Slot → Power → ℕ
raised_in s g = up g.q + depth_of s - down g.q

-- THE LAYOUT: a cell's row has the a of each slot as digits, slot 0 lowest, and its column the b; cells of one row lie side by side
abbrev pub row_index : List Slot → List Power → ℕ
row_index [] gs = 0
row_index (s ∷ slots) [] = 0
row_index (s ∷ slots) (g ∷ gs) = row_index slots gs * (grid_top s + 1) + g.p

abbrev pub column_index : List Slot → List Power → ℕ
column_index [] gs = 0
column_index (s ∷ slots) [] = 0
column_index (s ∷ slots) (g ∷ gs) = column_index slots gs * width_of s + raised_in s g

abbrev pub row_count : List Slot → ℕ
row_count [] = 1
row_count (s ∷ slots) = row_count slots * (grid_top s + 1)

abbrev pub column_count : List Slot → ℕ
column_count [] = 1
column_count (s ∷ slots) = column_count slots * width_of s

-- the cell of a list of pairs
abbrev pub index_of : List Slot → List Power → ℕ
index_of slots gs = row_index slots gs * column_count slots + column_index slots gs

-- the list of pairs that the cell at a row and a column stands for
abbrev pub pair_at : Slot → ℕ → ℕ → Power
pair_at s a b = record { p = a; q = sub_ℕ b (depth_of s) }

abbrev pub grid_from : List Slot → ℕ → ℕ → List Power
grid_from [] row col = []
grid_from (s ∷ slots) row col =
    pair_at s (row % (grid_top s + 1)) (col % width_of s) ∷ grid_from slots (row / (grid_top s + 1)) (col / width_of s)

-- how far pairs move a column up, and down
abbrev pub column_up : List Slot → List Power → ℕ
column_up [] xs = 0
column_up (s ∷ slots) [] = 0
column_up (s ∷ slots) (x ∷ xs) = column_up slots xs * width_of s + up x.q

abbrev pub column_down : List Slot → List Power → ℕ
column_down [] xs = 0
column_down (s ∷ slots) [] = 0
column_down (s ∷ slots) (x ∷ xs) = column_down slots xs * width_of s + down x.q
