-- One load's pass over the table, row by row.
use Rattle.std.specs.Prelude.{ℕ, zero, suc, ◌+◌, ◌*◌, ◌<◌, ◌≤◌, ◌≡◌, Bool, true, List, get_or, length}
use Rattle.std.proofs.Math.Option.{Option}
use Rattle.model.specs.Cells.{Key, join_upto, is_some, count_upto}
use Rattle.model.specs.Bounds.{most_rows}
use Rattle.table.specs.Table.{cell_at}
use Rattle.grid.specs.declared.Grid.{Grid}
use Rattle.stretch.specs.declared.LoadMoves.{LoadMoves}
use Rattle.rows.specs.Row.{held_in, held, offer_of}
use Rattle.pass.specs.declared.Made.{Made}

-- a row of the next layer made from the current one: its stretch, what it holds, and how many cells it holds where that was asked for
pub record RowMade (ws ws' lows highs : List ℕ) (grid : Grid) (cur next : ℕ) (load : LoadMoves) (row : ℕ) (asked : Bool) (r : Made) : Type 0 where
  pub same_length : length ws' ≡ length ws
  pub low_fits : r.stretch.low ≤ grid.width
  pub high_fits : r.stretch.high ≤ grid.width
  pub inside : (col : ℕ) → col < grid.width → held_in ws' (next + row * grid.width) r.stretch.low r.stretch.high col
      ≡ join_upto load.count (offer_of ws lows highs grid cur load row col)
  pub outside : (x : ℕ) → ((col : ℕ) → col < grid.width → x ≡ next + row * grid.width + col → ⊥) → cell_at ws' x ≡ cell_at ws x
  pub counted : asked ≡ true → r.count ≡ count_upto grid.width (λ col. is_some (held_in ws' (next + row * grid.width) r.stretch.low r.stretch.high col))
  pub count_fits : r.count ≤ grid.width

-- how many cells of the first n rows are held
unfoldable pub count_rows : ℕ → ℕ → (ℕ → ℕ → Option Key) → ℕ
count_rows zero width f = 0
count_rows (suc n) width f = count_rows n width f + count_upto width (λ col. is_some (f n col))

-- the first n rows of the next layer made from the current one
pub record LayerMade (ws ws' lows highs lows' highs' : List ℕ) (grid : Grid) (cur next : ℕ) (load : LoadMoves) (n : ℕ) : Type 0 where
  pub same_length : length ws' ≡ length ws
  pub low_length : length lows' ≡ most_rows
  pub high_length : length highs' ≡ most_rows
  pub low_fits : (row : ℕ) → row < n → get_or lows' row 0 ≤ grid.width
  pub high_fits : (row : ℕ) → row < n → get_or highs' row 0 ≤ grid.width
  pub inside : (row col : ℕ) → row < n → col < grid.width → held ws' lows' highs' next grid.width row col
      ≡ join_upto load.count (offer_of ws lows highs grid cur load row col)
  pub outside : (x : ℕ) → ((y : ℕ) → y < n * grid.width → x ≡ next + y → ⊥) → cell_at ws' x ≡ cell_at ws x
