-- Laws of `beats`, `better_at` and `scan_row`: the better of two cells, whether it passes a test, and the best of a row cell by cell.
-- Assumes nothing.
use Prim.Native.Nat.{ℕ, zero, suc, ◌+◌, ◌-◌, ◌*◌, ◌<◌, ◌≤◌}
use mathlib.Core.Path.{◌≡◌, refl, sym, ap, ap₂, ◌∙◌}
use mathlib.Core.Bool.{Bool, true, false, cond, false≢true}
use mathlib.Core.List.{List}
use mathlib.Core.Option.{Option, none, some}
use native.Mathlib.Numerals.{add-one}
use native.Mathlib.Omega.{arith}
use borrow.Author.Tests.{eq-eqb, ne_eqb, lt-ltb, le-ltb, ltb-true, ltb-false}
use lib.Dec.{ltb}
use lib.ListN.{get_or}
use Rattle.model.specs.Book.{Problem}
use Rattle.model.specs.Cells.{Key, join, join_upto, passing}
use Rattle.model.specs.Values.{IsCode}
use Rattle.model.proofs.KeyLaws.{join-none, join_assoc, lt_of_not}
use Rattle.model.proofs.CellLaws.{upto-none}
use Rattle.table.specs.declared.Cell.{Cell}
use Rattle.table.specs.Table.{cell_at, key_if, key_of}
use Rattle.rows.proofs.SourceLaws.{held_in_lem, held_low, held_high}
use Rattle.scan.specs.Scan.{Better, CellTest, passed_in, Coded, RowCoded}

-- ---- the better of two cells

join_more : (x y : Key) → x.worth < y.worth → join (some x) (some y) ≡ some y
join_more x y h = simp (lt-ltb x.worth y.worth h)

join_less : (x y : Key) → y.worth < x.worth → join (some x) (some y) ≡ some x
join_less x y h = simp (le-ltb x.worth y.worth (omega arith), ne_eqb x.worth y.worth (λ e. omega arith))

join_tie_less : (x y : Key) → x.worth ≡ y.worth → y.code < x.code → join (some x) (some y) ≡ some y
join_tie_less x y e h = simp (le-ltb x.worth y.worth (omega arith), eq-eqb x.worth y.worth e, lt-ltb y.code x.code h)

join_tie_more : (x y : Key) → x.worth ≡ y.worth → x.code ≤ y.code → join (some x) (some y) ≡ some x
join_tie_more x y e h = simp (le-ltb x.worth y.worth (omega arith), eq-eqb x.worth y.worth e, le-ltb y.code x.code h)

module _ (best c : Cell) where
  key_zero : c.worth ≡ 0 → key_of c ≡ none
  unfolding key_of
  key_zero e = ap (λ w. key_if w c.code) e

  pub kept-empty : c.worth ≡ 0 → join (key_of best) (key_of c) ≡ key_of best
  kept-empty e = ap (join (key_of best)) (key_zero e) ∙ join-none (key_of best)

  pub kept_less : c.worth < best.worth → join (key_of best) (key_of c) ≡ key_of best
  unfolding key_of
  kept_less h = go best.worth c.worth h
    where
      go : (w v : ℕ) → v < w → join (key_if w best.code) (key_if v c.code) ≡ key_if w best.code
      go zero v l = absurd (omega arith)
      go (suc w) zero l = refl
      go (suc w) (suc v) l = join_less (record { worth = w; code = best.code }) (record { worth = v; code = c.code }) (omega arith)

  pub taken_more : best.worth < c.worth → join (key_of best) (key_of c) ≡ key_of c
  unfolding key_of
  taken_more h = go best.worth c.worth h
    where
      go : (w v : ℕ) → w < v → join (key_if w best.code) (key_if v c.code) ≡ key_if v c.code
      go w zero l = absurd (omega arith)
      go zero (suc v) l = refl
      go (suc w) (suc v) l = join_more (record { worth = w; code = best.code }) (record { worth = v; code = c.code }) (omega arith)

  pub kept_tie : c.worth ≡ best.worth → best.code ≤ c.code → join (key_of best) (key_of c) ≡ key_of best
  unfolding key_of
  kept_tie e h = go best.worth c.worth e
    where
      go : (w v : ℕ) → v ≡ w → join (key_if w best.code) (key_if v c.code) ≡ key_if w best.code
      go zero zero q = refl
      go zero (suc v) q = absurd (omega arith)
      go (suc w) zero q = refl
      go (suc w) (suc v) q = join_tie_more (record { worth = w; code = best.code }) (record { worth = v; code = c.code }) (omega arith) h

  pub taken_tie : c.worth ≡ best.worth → c.code < best.code → join (key_of best) (key_of c) ≡ key_of c
  unfolding key_of
  taken_tie e h = go best.worth c.worth e
    where
      go : (w v : ℕ) → v ≡ w → join (key_if w best.code) (key_if v c.code) ≡ key_if v c.code
      go zero zero q = refl
      go zero (suc v) q = absurd (omega arith)
      go (suc w) zero q = absurd (omega arith)
      go (suc w) (suc v) q = join_tie_less (record { worth = w; code = best.code }) (record { worth = v; code = c.code }) (omega arith) h

  pub better-empty : c.worth ≡ 0 → Better best c false
  better-empty e = record { reached = λ z. absurd (false≢true z); yes_better = λ z. absurd (false≢true z); no_better = λ z. kept-empty e }

  -- a cell that is not empty
  module _ (some-worth : c.worth ≡ 0 → ⊥) where
    pub better_tie : c.worth ≡ best.worth → Better best c (ltb c.code best.code)
    better_tie e = record {
      reached = λ z. some-worth;
      yes_better = λ z. taken_tie e (ltb-true c.code best.code z);
      no_better = λ z. kept_tie e (ltb-false c.code best.code z);
    }

    pub better-worth : (c.worth ≡ best.worth → ⊥) → Better best c (ltb best.worth c.worth)
    better-worth n = record {
      reached = λ z. some-worth;
      yes_better = λ z. taken_more (ltb-true best.worth c.worth z);
      no_better = λ z. kept_less (lt_of_not (ltb-false best.worth c.worth z) (λ e. n (sym e)));
    }

-- ---- the test of a cell

-- what is not better leaves the best, whether it passes or not
not_taken : (t : ℕ → Bool) (x y : Option Key) → join x y ≡ x → x ≡ join x (passing t y)
not_taken t x none e = sym e
not_taken t x (some y) e = go (t y.code)
  where
    go : (p : Bool) → x ≡ join x (cond p (some y) none)
    go true = sym e
    go false = sym (join-none x)

-- p tells whether the cell's code passes: then its key does, or nothing
module _ (t : ℕ → Bool) (c : Cell) {p : Bool} (h : p ≡ t c.code) where
  passed : p ≡ true → passing t (key_of c) ≡ key_of c
  unfolding key_of
  passed e = go c.worth
    where
      go : (w : ℕ) → passing t (key_if w c.code) ≡ key_if w c.code
      go zero = refl
      go (suc w) = rw (sym h, e)

  not_passed : p ≡ false → passing t (key_of c) ≡ none
  unfolding key_of
  not_passed e = go c.worth
    where
      go : (w : ℕ) → passing t (key_if w c.code) ≡ none
      go zero = refl
      go (suc w) = rw (sym h, e)

-- the best after the cell d, where r tells whether it is better
module _ (best : Cell) {c d : Cell} (e : c ≡ d) {r : Bool} (b : Better best c r) where
  -- a better cell's code is that of a choice
  pub better_coded : (p : Problem) → r ≡ true → Coded p (key_of d) → IsCode p c.code
  unfolding key_of
  better_coded p z h = go c.worth (b.reached z) (rw (sym e) at h)
    where
      go : (w : ℕ) → (w ≡ 0 → ⊥) → Coded p (key_if w c.code) → IsCode p c.code
      go zero n k = absurd (n refl)
      go (suc w) n k = k (record { worth = w; code = c.code }) refl

  module _ (t : ℕ → Bool) where
    pub best-kept : r ≡ false → key_of best ≡ join (key_of best) (passing t (key_of d))
    best-kept z = not_taken t (key_of best) (key_of d) (ap (λ x. join (key_of best) (key_of x)) (sym e) ∙ b.no_better z)

    module _ {p : Bool} (h : p ≡ t c.code) where
      pub best-taken : r ≡ true → p ≡ true → key_of c ≡ join (key_of best) (passing t (key_of d))
      best-taken z k = sym (b.yes_better z) ∙ ap (join (key_of best)) (sym (passed t c h k)) ∙ ap (λ x. join (key_of best) (passing t (key_of x))) e

      pub best-refused : p ≡ false → key_of best ≡ join (key_of best) (passing t (key_of d))
      best-refused k = sym (ap (join (key_of best)) (ap (λ x. passing t (key_of x)) (sym e) ∙ not_passed t c h k) ∙ join-none (key_of best))

-- ---- a row

-- beside the stretch there is nothing
upto_tail : (f : ℕ → Option Key) (n k : ℕ) → ((i : ℕ) → n ≤ i → f i ≡ none) → join_upto (k + n) f ≡ join_upto n f
upto_tail f n zero h = let e : 0 + n ≡ n = omega arith in rw e
upto_tail f n (suc k) h =
    let e : suc k + n ≡ suc (k + n) = omega arith in
    rw e (ap₂ join (upto_tail f n k h) (h (k + n) (omega arith)) ∙ join-none (join_upto n f))

pub upto-ends : (f : ℕ → Option Key) (n m : ℕ) → n ≤ m → ((i : ℕ) → n ≤ i → f i ≡ none) → join_upto m f ≡ join_upto n f
upto-ends f n m l h = let e : m - n + n ≡ m = omega arith in rw e at (upto_tail f n (m - n) h)

module _ (t : CellTest) (ws : List ℕ) (at low high row : ℕ) where
  passed_low : (i : ℕ) → i < low → passed_in t ws at low high row i ≡ none
  unfolding passed_in
  passed_low i l = ap (passing (t row i)) (held_low ws at low high i l)

  passed_high : (i : ℕ) → high ≤ i → passed_in t ws at low high row i ≡ none
  unfolding passed_in
  passed_high i l = ap (passing (t row i)) (held_high ws at low high i l)

  -- a cell of the stretch
  passed_in_lem : (i : ℕ) → low ≤ i → i < high → passing (t row i) (key_of (cell_at ws (at + i))) ≡ passed_in t ws at low high row i
  unfolding passed_in
  passed_in_lem i l k = ap (passing (t row i)) (sym (held_in_lem ws at low high i l k))

  -- the best before the stretch
  pub row_start : (x : Option Key) → x ≡ join x (join_upto low (passed_in t ws at low high row))
  row_start x = sym (ap (join x) (upto-none low (passed_in t ws at low high row) passed_low) ∙ join-none x)

  -- after a start y, the best of the columns before col
  module _ (y : Option Key) (col : ℕ) where
    -- one cell more
    pub row_next : {x z : Option Key} → low ≤ col → col < high → x ≡ join y (join_upto col (passed_in t ws at low high row))
        → z ≡ join x (passing (t row col) (key_of (cell_at ws (at + col))))
        → z ≡ join y (join_upto (col + 1) (passed_in t ws at low high row))
    row_next l k e q =
        q
        ∙ ap₂ join e (passed_in_lem col l k)
        ∙ sym (join_assoc y (join_upto col (passed_in t ws at low high row)) (passed_in t ws at low high row col))
        ∙ sym (ap (λ n. join y (join_upto n (passed_in t ws at low high row))) (add-one col))

    -- a cell of less worth is passed over
    pub row_less : (best : Cell) → low ≤ col → col < high → key_of best ≡ join y (join_upto col (passed_in t ws at low high row))
        → get_or ws (2 * (at + col)) 0 < best.worth
        → key_of best ≡ join y (join_upto (col + 1) (passed_in t ws at low high row))
    unfolding cell_at
    row_less best l k e h =
        row_next l k e (not_taken (t row col) (key_of best) (key_of (cell_at ws (at + col))) (kept_less best (cell_at ws (at + col)) h))

    -- past the stretch
    pub row_past : {x : Option Key} (width : ℕ) → high ≤ col → high ≤ width → x ≡ join y (join_upto col (passed_in t ws at low high row))
        → x ≡ join y (join_upto width (passed_in t ws at low high row))
    row_past width l k e =
        e ∙ ap (join y) (upto-ends (passed_in t ws at low high row) high col l passed_high ∙ sym (upto-ends (passed_in t ws at low high row) high width k passed_high))

-- the key of a cell of the stretch is coded, as the row's are
pub cell_in_row : (b : Problem) (ws : List ℕ) (at low high col : ℕ) → RowCoded b ws at low high → low ≤ col → col < high → Coded b (key_of (cell_at ws (at + col)))
cell_in_row b ws at low high col h l k = rw (held_in_lem ws at low high col l k) at (h col k)
