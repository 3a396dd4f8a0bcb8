-- Cells in a list of words, two words a cell: what a cell holds, and what it becomes when it is offered a choice.
use Rattle.std.specs.Prelude.{ℕ, zero, suc, ◌+◌, ◌-◌, ◌*◌, ◌<◌, ◌≤◌, ◌^◌, ◌≡◌, Bool, cond, ◌&&◌, List, get_or, set, length, leb, ltb, eqb}
use Rattle.std.proofs.Math.Option.{Option, none, some}
use Rattle.model.specs.Cells.{Key, is_some}
use Rattle.table.specs.declared.Cell.{Cell}

-- the cell x: words 2x and 2x + 1
unfoldable pub cell_at : List ℕ → ℕ → Cell
cell_at ws x = record { worth = get_or ws (2 * x) 0; code = get_or ws (2 * x + 1) 0 }

-- the words with cell x replaced
unfoldable pub put_at : List ℕ → ℕ → Cell → List ℕ
put_at ws x c = set (set ws (2 * x) c.worth) (2 * x + 1) c.code

-- the worth and code that a cell holds: none at worth 0, else its worth is one less
abbrev pub key_if : ℕ → ℕ → Option Key
key_if zero code = none
key_if (suc worth) code = some (record { worth = worth; code = code })

unfoldable pub key_of : Cell → Option Key
key_of c = key_if c.worth c.code

-- a cell with a setting's gain and digit added
unfoldable pub raised : Cell → ℕ → ℕ → Cell
raised c gain digit = record { worth = c.worth + gain; code = c.code + digit }

-- the cell `old` after it is offered the choice of the cell `src` with one setting more: an empty `src` offers nothing, and only a
-- greater worth replaces
unfoldable pub offered : Cell → Cell → ℕ → ℕ → Cell
offered old src gain digit =
    cond (eqb src.worth 0) old (cond (ltb old.worth (src.worth + gain)) (raised src gain digit) old)

-- the words after cell `to` is offered the choice of cell `from`
unfoldable pub offered_at : List ℕ → ℕ → ℕ → ℕ → ℕ → List ℕ
offered_at ws from to gain digit = put_at ws to (offered (cell_at ws to) (cell_at ws from) gain digit)

-- a reached cell has room for a setting's gain and digit; an empty cell needs none
pub record Room (c : Cell) (gain digit : ℕ) : Type 0 where
  pub worth_fits : 0 < c.worth → c.worth + gain < 2 ^ 64
  pub code_fits : 0 < c.worth → c.code + digit < 2 ^ 64

-- the words ws' are ws with f 0, f 1, .. in the n cells from `at` on, and every other cell as it was
pub record Filled (ws ws' : List ℕ) (at n : ℕ) (f : ℕ → Cell) : Type 0 where
  pub same_length : length ws' ≡ length ws
  pub inside : (j : ℕ) → j < n → cell_at ws' (at + j) ≡ f j
  pub outside : (x : ℕ) → ((j : ℕ) → j < n → x ≡ at + j → ⊥) → cell_at ws' x ≡ cell_at ws x

-- two rows of len cells within the words, which share no cell
pub record Rows (ws : List ℕ) (from to len : ℕ) : Type 0 where
  pub source : 2 * (from + len) ≤ length ws
  pub target : 2 * (to + len) ≤ length ws
  pub never : (j k : ℕ) → j < len → k < len → from + j ≡ to + k → ⊥

-- each cell of a row has room for a setting's gain and digit
abbrev pub Roomy : List ℕ → ℕ → ℕ → ℕ → ℕ → Type 0
Roomy ws from len gain digit = (j : ℕ) → j < len → Room (cell_at ws (from + j)) gain digit

-- the row at `to` after each of its cells is offered the choice of its cell in the row at `from`
unfoldable pub offered_row : List ℕ → ℕ → ℕ → ℕ → ℕ → ℕ → Cell
offered_row ws from to gain digit j = offered (cell_at ws (to + j)) (cell_at ws (from + j)) gain digit

-- the row at `from`
unfoldable pub copied_row : List ℕ → ℕ → ℕ → Cell
copied_row ws from j = cell_at ws (from + j)

-- the empty cell
unfoldable pub empty : Cell
empty = record { worth = 0; code = 0 }

-- the row at `from` between empty cells: `skip` of them come before its `count` cells
unfoldable pub carried_row : List ℕ → ℕ → ℕ → ℕ → ℕ → Cell
unfolding empty
carried_row ws from skip count j = cond (leb skip j && ltb j (skip + count)) (cell_at ws (from + (j - skip))) empty

-- a row of empty cells
unfoldable pub no_cell : ℕ → Cell
no_cell j = empty

-- whether a cell holds something
abbrev pub reached : List ℕ → ℕ → ℕ → Bool
reached ws at j = is_some (key_of (cell_at ws (at + j)))
