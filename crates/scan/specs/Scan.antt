-- The scan of the last layer: the best of the cells that pass a test.
use Rattle.std.specs.Prelude.{ℕ, ◌<◌, ◌≡◌, Bool, true, false, List}
use Rattle.std.proofs.Math.Option.{Option, some}
use Rattle.model.specs.Book.{Problem}
use Rattle.model.specs.Grid.{Slot, slots_of, keeps_limits}
use Rattle.model.specs.Cells.{Key, join, join_upto, passing, admits_all}
use Rattle.model.specs.Index.{grid_from}
use Rattle.model.specs.Values.{IsCode, choice_coded}
use Rattle.table.specs.declared.Cell.{Cell}
use Rattle.table.specs.Table.{key_of}
use Rattle.grid.specs.declared.Grid.{Grid}
use Rattle.rows.specs.Row.{held_in, held}
use Rattle.scan.specs.declared.Test.{Test}
use Rattle.scan.specs.declared.Test.TheVariants.{Admission, TrueSums}

-- r tells whether the cell c is better than the best so far
pub record Better (best c : Cell) (r : Bool) : Type 0 where
  pub reached : r ≡ true → c.worth ≡ 0 → ⊥
  pub yes_better : r ≡ true → join (key_of best) (key_of c) ≡ key_of c
  pub no_better : r ≡ false → join (key_of best) (key_of c) ≡ key_of best

-- ---- the tests

-- a test of a cell, by its row and column and by the code that it holds
abbrev pub CellTest : Type 0
CellTest = ℕ → ℕ → ℕ → Bool

-- every slot admits the cell's pairs
abbrev pub admission : List Slot → CellTest
admission ss row col code = admits_all ss (grid_from ss row col)

-- the choice that the cell holds keeps every limit
abbrev pub true_sums : Problem → CellTest
true_sums b row col code = keeps_limits (slots_of b) (choice_coded b code)

-- the test of a name
abbrev pub test_of : Test → Problem → CellTest
test_of Admission b = admission (slots_of b)
test_of TrueSums b = true_sums b

-- ---- the best of the cells that pass a test

-- column col of a row whose cells start at `at`, where it passes
unfoldable pub passed_in : CellTest → List ℕ → ℕ → ℕ → ℕ → ℕ → ℕ → Option Key
unfolding held_in
passed_in t ws at low high row col = passing (t row col) (held_in ws at low high col)

-- THE BEST CELL THAT PASSES, of a layer that starts at `cur`
unfoldable pub best_of_layer : CellTest → List ℕ → List ℕ → List ℕ → Grid → ℕ → Option Key
unfolding held
best_of_layer t ws lows highs grid cur =
    join_upto grid.rows (λ row. join_upto grid.width (λ col. passing (t row col) (held ws lows highs cur grid.width row col)))

-- ---- what the test of the true sums asks: the code of a key is that of a choice of the book

abbrev pub Coded : Problem → Option Key → Type 0
Coded b x = (k : Key) → x ≡ some k → IsCode b k.code

-- in each cell of a row
abbrev pub RowCoded : Problem → List ℕ → ℕ → ℕ → ℕ → Type 0
RowCoded b ws at low high = (col : ℕ) → col < high → Coded b (held_in ws at low high col)

-- in each cell of a layer
abbrev pub LayerCoded : Problem → List ℕ → List ℕ → List ℕ → Grid → ℕ → Type 0
LayerCoded b ws lows highs grid cur =
    (row col : ℕ) → row < grid.rows → col < grid.width → Coded b (held ws lows highs cur grid.width row col)
