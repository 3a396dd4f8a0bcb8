-- Laws of `open_row`: a stretch that is emptied, and one into which a first setting that adds neither worth nor code is copied. Assumes nothing.
use Prim.Native.Nat.{ℕ, ◌+◌, ◌-◌, ◌*◌, ◌<◌, ◌≤◌}
use mathlib.Core.Path.{◌≡◌, refl, sym, ap, ap₂, ◌∙◌}
use mathlib.Core.List.{List}
use mathlib.Core.Option.{Option, none, some}
use mathlib.Core.Logic.{◌⊎◌, inl, inr, ⊎_elim}
use native.Mathlib.Nat.{add-zero}
use native.Mathlib.Omega.{arith}
use lib.ListN.{length}
use borrow.Author.Tests.{lt-ltb, le-ltb, le-leb, lt-leb}
use Rattle.model.specs.Cells.{Key, shift?}
use Rattle.model.proofs.IntegerLaws.{split}
use Rattle.table.specs.Table.{cell_at, key_of, carried_row, no_cell, Rows, Filled}
use Rattle.grid.specs.declared.Grid.{Grid}
use Rattle.stretch.specs.declared.LoadMoves.{LoadMoves}
use Rattle.stretch.specs.declared.Stretch.{Stretch}
use Rattle.stretch.specs.Stretch.{move_of, GridFits, StretchesFit, Part, Spans}
use Rattle.rows.specs.Row.{source_of, offer_of, raise_upto, Ends, Opened}
use Rattle.rows.proofs.KeyLaws.{key_empty}
use Rattle.rows.proofs.SourceLaws.{row_end, source_in, source_out}

shift_zero : (x : Option Key) → shift? 0 0 x ≡ x
shift_zero none = refl
shift_zero (some x) = ap some (λ i. record { worth = add-zero x.worth i; code = add-zero x.code i })

module _ {lows highs : List ℕ} (grid : Grid) (row : ℕ) (load : LoadMoves) (span : Stretch) (q : Spans lows highs grid row load load.count span) where
  -- the part of the first setting lies within the stretch
  pub part_inside : 0 < load.count → (part : Stretch) → Part lows highs grid row (move_of load 0) part → part.low < part.high
      → (span.low ≤ part.low) × (part.high ≤ span.high)
  part_inside n part p h =
      let w : part.high - 1 < part.high = omega arith in
      let v : part.low ≤ part.high - 1 = omega arith in
      let u : part.low ≤ part.low = omega arith in
      let a = q.each 0 n part.low (omega (arith, p.end)) (p.only part.low u h) in
      let b = q.each 0 n (part.high - 1) (omega (arith, p.end)) (p.only (part.high - 1) v w) in
      (a.0, omega (arith, b))

  module _ {ws ws₁ : List ℕ} (at cur next : ℕ) (start : at ≡ next + row * grid.width + span.low) where
    pub opened_empty : Filled ws ws₁ at (span.high - span.low) no_cell → Opened ws ws₁ lows highs grid cur next load row span 0
    unfolding raise_upto no_cell
    opened_empty f = record {
      same_length = f.same_length;
      few = omega arith;
      inside = λ col a b.
          let e : next + row * grid.width + col ≡ at + (col - span.low) = omega arith in
          ap (λ x. key_of (cell_at ws₁ x)) e ∙ ap key_of (f.inside (col - span.low) (omega arith)) ∙ key_empty;
      outside = λ x n. f.outside x (λ j k e. n (span.low + j) (omega arith) (omega arith) (omega arith));
    }

    module _ (n : 0 < load.count) (gain : (move_of load 0).gain ≡ 0) (digit : (move_of load 0).digit ≡ 0) (s : StretchesFit lows highs grid) (l : row < grid.rows)
        (part : Stretch) (p : Part lows highs grid row (move_of load 0) part) (h : part.low < part.high) (ends : Ends grid row (move_of load 0) part)
        (from : ℕ) (source : from ≡ cur + (row - (move_of load 0).back) * grid.width + (part.low + (move_of load 0).down - (move_of load 0).up))
        (f : Filled ws ws₁ at (span.high - span.low) (carried_row ws from (part.low - span.low) (part.high - part.low))) where
      -- what a setting that adds neither worth nor code offers is its source
      offer_source : (col : ℕ) → raise_upto 1 (offer_of ws lows highs grid cur load row col) none ≡ source_of ws lows highs grid cur (move_of load 0) row col
      unfolding raise_upto offer_of
      offer_source col =
          let x : Option Key = source_of ws lows highs grid cur (move_of load 0) row col in
          ap₂ (λ g d. shift? g d x) gain digit ∙ shift_zero x

      at_cell : (col : ℕ) → span.low ≤ col → col < span.high
          → key_of (cell_at ws₁ (next + row * grid.width + col)) ≡ key_of (carried_row ws from (part.low - span.low) (part.high - part.low) (col - span.low))
      at_cell col a b =
          let e : next + row * grid.width + col ≡ at + (col - span.low) = omega arith in
          ap (λ x. key_of (cell_at ws₁ x)) e ∙ ap key_of (f.inside (col - span.low) (omega arith))

      within : (col : ℕ) → part.low ≤ col → col < part.high
          → key_of (carried_row ws from (part.low - span.low) (part.high - part.low) (col - span.low)) ≡ source_of ws lows highs grid cur (move_of load 0) row col
      unfolding carried_row
      within col a b =
          let i = part_inside n part p h in
          let u : part.low - span.low ≤ col - span.low = omega arith in
          let v : col - span.low < part.low - span.low + (part.high - part.low) = omega arith in
          let e : from + (col - span.low - (part.low - span.low)) ≡ cur + (row - (move_of load 0).back) * grid.width + (col + (move_of load 0).down - (move_of load 0).up)
          = omega (arith, ends.shift_in) in
          simp (le-leb _ _ u, lt-ltb _ _ v)
          (ap (λ x. key_of (cell_at ws x)) e ∙ sym (source_in ws lows highs grid cur (move_of load 0) row col s l (p.only col a b)))

      beside : (col : ℕ) → col < grid.width → ((col < part.low) ⊎ (part.high ≤ col)) → span.low ≤ col
          → key_of (carried_row ws from (part.low - span.low) (part.high - part.low) (col - span.low)) ≡ source_of ws lows highs grid cur (move_of load 0) row col
      unfolding carried_row
      beside col k o a =
          let i = part_inside n part p h in
          let none_here = source_out ws lows highs grid cur (move_of load 0) row col
          (λ x. let c = p.all col k x in ⊎_elim (λ (d : col < part.low). omega arith) (λ (d : part.high ≤ col). omega arith) o) in
          ⊎_elim
          (λ (d : col < part.low). let u : col - span.low < part.low - span.low = omega arith in simp (lt-leb _ _ u) (key_empty ∙ sym none_here))
          (λ (d : part.high ≤ col).
          let u : part.low - span.low ≤ col - span.low = omega arith in
          let v : part.low - span.low + (part.high - part.low) ≤ col - span.low = omega arith in
          simp (le-leb _ _ u, le-ltb _ _ v) (key_empty ∙ sym none_here))
          o

      pub opened_copied : Opened ws ws₁ lows highs grid cur next load row span 1
      opened_copied = record {
        same_length = f.same_length;
        few = omega arith;
        inside = λ col a b. at_cell col a b
            ∙ ⊎_elim
            (λ (c : col < part.low). beside col (omega (arith, q.end)) (inl c) a)
            (λ (c : part.low ≤ col). ⊎_elim
            (λ (d : col < part.high). within col c d)
            (λ (d : part.high ≤ col). beside col (omega (arith, q.end)) (inr d) a)
            (split col part.high))
            (split col part.low)
            ∙ sym (offer_source col);
        outside = λ x n. f.outside x (λ j k e. n (span.low + j) (omega arith) (omega arith) (omega arith));
      }

-- a row's span lies within its row, and the words reach to its end
module _ {lows highs : List ℕ} (grid : Grid) (row : ℕ) (load : LoadMoves) (span : Stretch) (g : GridFits grid) (l : row < grid.rows)
    (q : Spans lows highs grid row load load.count span) where
  pub span_ends : (row * grid.width + grid.width ≤ grid.cells) × (span.high ≤ grid.width)
  span_ends = (omega (arith, row_end grid.width l, g.area), q.end.1)

  pub clear_room : {ws : List ℕ} {cur next : ℕ} → Rows ws cur next grid.cells → span.low < span.high
      → 2 * (next + row * grid.width + span.low + (span.high - span.low)) ≤ length ws
  clear_room rows h = omega (arith, span_ends, rows.target)
