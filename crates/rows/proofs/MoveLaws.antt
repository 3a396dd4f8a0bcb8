-- Laws of `setting_row` and `settings_row`: what a setting's pass over a row asks and makes, and what all settings make in turn.
-- Assumes nothing.
use Prim.Native.Nat.{ℕ, ◌+◌, ◌-◌, ◌*◌, ◌<◌, ◌≤◌}
use mathlib.Core.Path.{◌≡◌, refl, sym, ap, ap₂, ◌∙◌, subst}
use mathlib.Core.List.{List}
use mathlib.Core.Option.{Option, none, some}
use mathlib.Core.Logic.{⊎_elim}
use native.Mathlib.Nat.{le_antisymm}
use native.Mathlib.Numerals.{add-one}
use native.Mathlib.Omega.{arith}
use lib.ListN.{get_or}
use Rattle.model.specs.Cells.{Key, shift?, Bounded}
use Rattle.table.specs.Table.{cell_at, key_of, offered, offered_row, Filled, Roomy, Rows}
use Rattle.model.proofs.IntegerLaws.{split}
use Rattle.stretch.specs.declared.SettingMove.{SettingMove}
use Rattle.grid.specs.declared.Grid.{Grid}
use Rattle.stretch.specs.declared.LoadMoves.{LoadMoves}
use Rattle.stretch.specs.declared.Stretch.{Stretch}
use Rattle.stretch.specs.Stretch.{move_of, GridFits, StretchesFit, MoveFits, Offers, Part}
use Rattle.rows.specs.Row.{held, source_of, offer_of, raise, raise_upto, MoveRoom, LoadRoom, Ends, RowKeys, raised_row, raised_rows}
use Rattle.rows.proofs.KeyLaws.{key_offered, bounded_room}
use Rattle.rows.proofs.SourceLaws.{row_end, held_in_lem, source_in, source_out, Same, source-same, room_same, move_room, keys_same, rows_same}

raise-none : (x : Option Key) → raise x none ≡ x
raise-none none = refl
raise-none (some x) = refl

module _ {lows highs : List ℕ} (grid : Grid) (row : ℕ) (mv : SettingMove) (part : Stretch) (g : GridFits grid) (s : StretchesFit lows highs grid)
    (l : row < grid.rows) (fit : MoveFits grid mv) (p : Part lows highs grid row mv part) where
  pub move_ends : part.low < part.high → Ends grid row mv part
  move_ends h =
      let first : part.low ≤ part.high - 1 = omega arith in
      let last : part.high - 1 < part.high = omega arith in
      let same : part.low ≤ part.low = omega arith in
      let o = p.only part.low same h in
      let q = p.only (part.high - 1) first last in
      let b = fit.back_fits row o.covered in
      let k : row - mv.back < grid.rows = omega arith in
      let w = s.high_fits (row - mv.back) k in
      record {
        back_in = b;
        shift_in = omega (arith, o.from_low);
        source_in = omega (arith, q.to_high, o.from_low);
        target_in = p.end.1;
        source_end = omega (arith, row_end grid.width k, g.area);
        target_end = omega (arith, row_end grid.width l, g.area);
      }

  module _ {ws : List ℕ} {cur next : ℕ} (rows : Rows ws cur next grid.cells) (h : part.low < part.high) where
    pub move_rows : Rows ws (cur + (row - mv.back) * grid.width + (part.low + mv.down - mv.up)) (next + row * grid.width + part.low) (part.high - part.low)
    move_rows =
        let e = move_ends h in
        record {
          source = omega (arith, rows.source);
          target = omega (arith, rows.target);
          never = λ i j a b q. rows.never ((row - mv.back) * grid.width + (part.low + mv.down - mv.up) + i) (row * grid.width + part.low + j) (omega arith) (omega arith) (omega arith);
        }

    pub move_roomy : MoveRoom ws lows highs grid cur mv.gain mv.digit
        → Roomy ws (cur + (row - mv.back) * grid.width + (part.low + mv.down - mv.up)) (part.high - part.low) mv.gain mv.digit
    unfolding held
    move_roomy r j k =
        let e = move_ends h in
        let in_low : part.low ≤ part.low + j = omega arith in
        let in_high : part.low + j < part.high = omega arith in
        let o = p.only (part.low + j) in_low in_high in
        let c : ℕ = part.low + mv.down - mv.up + j in
        let i : row - mv.back < grid.rows = omega arith in
        let w : c < grid.width = omega arith in
        let a : cur + (row - mv.back) * grid.width + (part.low + mv.down - mv.up) + j ≡ cur + (row - mv.back) * grid.width + c = omega arith in
        let x = held_in_lem ws (cur + (row - mv.back) * grid.width) (get_or lows (row - mv.back) 0) (get_or highs (row - mv.back) 0) c (omega (arith, o.from_low)) (omega (arith, o.to_high)) in
        rw a (bounded_room (cell_at ws (cur + (row - mv.back) * grid.width + c)) r.top r.unit mv.gain mv.digit
        (subst (Bounded r.top r.unit) x (r.small (row - mv.back) c i w)) r.gain_fits r.digit_fits)

    pub move_keys : {ws' : List ℕ} → Filled ws ws' (next + row * grid.width + part.low) (part.high - part.low)
        (offered_row ws (cur + (row - mv.back) * grid.width + (part.low + mv.down - mv.up)) (next + row * grid.width + part.low) mv.gain mv.digit)
        → RowKeys ws ws' (next + row * grid.width) grid.width (raised_row ws lows highs grid cur next mv row)
    unfolding raised_row offered_row
    move_keys {ws'} r = record {
      same_length = r.same_length;
      inside = λ col k. ⊎_elim
          (λ (a : col < part.low). beside col k (λ o. let i = p.all col k o in omega arith) (λ j b e. omega arith))
          (λ (a : part.low ≤ col). ⊎_elim
          (λ (b : col < part.high). within col a b)
          (λ (b : part.high ≤ col). beside col k (λ o. let i = p.all col k o in omega arith) (λ j d e. omega arith))
          (split col part.high))
          (split col part.low);
      outside = λ x n. r.outside x (λ j k e. let d = move_ends h in n (part.low + j) (omega arith) (omega arith));
    }
      where
        beside : (col : ℕ) → col < grid.width → (Offers lows highs grid row mv col → ⊥)
            → ((j : ℕ) → j < part.high - part.low → next + row * grid.width + col ≡ next + row * grid.width + part.low + j → ⊥)
            → key_of (cell_at ws' (next + row * grid.width + col)) ≡ raise (key_of (cell_at ws (next + row * grid.width + col))) (shift? mv.gain mv.digit (source_of ws lows highs grid cur mv row col))
        beside col k n out =
            ap key_of (r.outside (next + row * grid.width + col) out)
            ∙ sym (ap (λ x. raise (key_of (cell_at ws (next + row * grid.width + col))) (shift? mv.gain mv.digit x)) (source_out ws lows highs grid cur mv row col n)
            ∙ raise-none (key_of (cell_at ws (next + row * grid.width + col))))

        within : (col : ℕ) → part.low ≤ col → col < part.high
            → key_of (cell_at ws' (next + row * grid.width + col)) ≡ raise (key_of (cell_at ws (next + row * grid.width + col))) (shift? mv.gain mv.digit (source_of ws lows highs grid cur mv row col))
        within col a b =
            let d = move_ends h in
            let j : ℕ = col - part.low in
            let k : j < part.high - part.low = omega arith in
            let o = p.only col a b in
            let t : next + row * grid.width + part.low + j ≡ next + row * grid.width + col = omega arith in
            let f : cur + (row - mv.back) * grid.width + (part.low + mv.down - mv.up) + j ≡ cur + (row - mv.back) * grid.width + (col + mv.down - mv.up) = omega arith in
            let i : cell_at ws' (next + row * grid.width + part.low + j)
            ≡ offered (cell_at ws (next + row * grid.width + part.low + j)) (cell_at ws (cur + (row - mv.back) * grid.width + (part.low + mv.down - mv.up) + j)) mv.gain mv.digit = r.inside j k in
            ap (λ x. key_of (cell_at ws' x)) (sym t)
            ∙ ap key_of i
            ∙ key_offered (cell_at ws (next + row * grid.width + part.low + j)) (cell_at ws (cur + (row - mv.back) * grid.width + (part.low + mv.down - mv.up) + j)) mv.gain mv.digit
            ∙ ap₂ (λ x y. raise (key_of (cell_at ws x)) (shift? mv.gain mv.digit y)) t
            (ap (λ x. key_of (cell_at ws x)) f ∙ sym (source_in ws lows highs grid cur mv row col s l o))

  pub move_still : {ws : List ℕ} (cur next : ℕ) → part.high ≤ part.low → RowKeys ws ws (next + row * grid.width) grid.width (raised_row ws lows highs grid cur next mv row)
  unfolding raised_row
  move_still {ws} cur next h = record {
    same_length = refl;
    inside = λ col k. sym (ap (λ x. raise (key_of (cell_at ws (next + row * grid.width + col))) (shift? mv.gain mv.digit x))
        (source_out ws lows highs grid cur mv row col (λ o. let i = p.all col k o in omega arith))
        ∙ raise-none (key_of (cell_at ws (next + row * grid.width + col))));
    outside = λ x n. refl;
  }

-- the settings one after the other: none yet, one more, all
module _ (lows highs : List ℕ) (grid : Grid) (cur next row : ℕ) (load : LoadMoves) (first : ℕ) where
  pub moves_none : {ws : List ℕ} → RowKeys ws ws (next + row * grid.width) grid.width (raised_rows ws lows highs grid cur next load row first 0)
  unfolding raised_rows raise_upto
  moves_none = record { same_length = refl; inside = λ col k. refl; outside = λ x n. refl }

  module _ {ws ws' : List ℕ} (n : ℕ) (g : GridFits grid) (rows : Rows ws cur next grid.cells) (l : row < grid.rows)
      (r : RowKeys ws ws' (next + row * grid.width) grid.width (raised_rows ws lows highs grid cur next load row first n)) where
    kept : Same ws ws' cur grid.cells
    kept = keys_same grid row g rows l r

    pub settings_rows : Rows ws' cur next grid.cells
    settings_rows = rows_same r.same_length rows

    pub moves_room : {m : ℕ} → LoadRoom ws lows highs grid cur load → m < load.count → MoveRoom ws' lows highs grid cur (move_of load m).gain (move_of load m).digit
    moves_room {m} q k = move_room m k (room_same lows highs grid g kept q)

    next_setting : {ws'' : List ℕ} → RowKeys ws' ws'' (next + row * grid.width) grid.width (raised_row ws' lows highs grid cur next (move_of load (first + n)) row)
        → RowKeys ws ws'' (next + row * grid.width) grid.width (raised_rows ws lows highs grid cur next load row first (n + 1))
    unfolding raised_row raised_rows raise_upto offer_of
    next_setting {ws''} q = rw (add-one n) (record {
      same_length = q.same_length ∙ r.same_length;
      inside = λ col k. q.inside col k
          ∙ ap₂ (λ x y. raise x (shift? (move_of load (first + n)).gain (move_of load (first + n)).digit y)) (r.inside col k) (source-same lows highs grid g kept (move_of load (first + n)) row col l);
      outside = λ x o. q.outside x o ∙ r.outside x o;
    })

    pub moves_more : {ws'' : List ℕ} {m : ℕ} → first + n ≡ m
        → RowKeys ws' ws'' (next + row * grid.width) grid.width (raised_row ws' lows highs grid cur next (move_of load m) row)
        → RowKeys ws ws'' (next + row * grid.width) grid.width (raised_rows ws lows highs grid cur next load row first (n + 1))
    moves_more {ws''} e q = next_setting (subst (λ i. RowKeys ws' ws'' (next + row * grid.width) grid.width (raised_row ws' lows highs grid cur next (move_of load i) row)) (sym e) q)

  pub moves_all : {ws ws' : List ℕ} (n count : ℕ) → n ≤ count → count ≤ n
      → RowKeys ws ws' (next + row * grid.width) grid.width (raised_rows ws lows highs grid cur next load row first n)
      → RowKeys ws ws' (next + row * grid.width) grid.width (raised_rows ws lows highs grid cur next load row first count)
  moves_all n count h k r = rw (le_antisymm h k) at r
