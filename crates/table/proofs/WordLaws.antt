-- What each branch of `Cell::offer` returns, a cell read after a store, a row that is filled cell by cell, and a count of cells.
-- Assumes nothing.
use Prim.Native.Nat.{ℕ, zero, suc, ◌+◌, ◌-◌, ◌*◌, ◌<◌, ◌≤◌}
use mathlib.Core.Path.{◌≡◌, refl, sym, ap, ap₂, ◌∙◌}
use mathlib.Core.List.{List}
use mathlib.Core.Bool.{Bool, cond}
use native.Mathlib.Numerals.{add-one}
use lib.Dec.{ltb}
use native.Mathlib.Omega.{arith}
use lib.ListN.{length, set, length-set}
use lib.Seq.{get_or-set_same, get_or-set_other, set-get_or}
use borrow.Author.Tests.{eq-eqb, ne_eqb, lt-ltb, le-ltb, le-leb, lt-leb}
use mathlib.Core.Logic.{⊎_elim}
use Rattle.model.proofs.IntegerLaws.{split}
use Rattle.model.specs.Cells.{is_some, count_upto}
use borrow.Author.Count.{below_more}
use native.Mathlib.Nat.{not-suc-le-zero}
use Rattle.table.specs.declared.Cell.{Cell}
use Rattle.table.specs.Table.{cell_at, put_at, key_if, key_of, raised, offered, offered_at, Room, Rows, Roomy, Filled, offered_row, copied_row, carried_row, no_cell, empty, reached}

module _ (old src : Cell) (gain digit : ℕ) where
  pub offered-empty : src.worth ≡ 0 → old ≡ offered old src gain digit
  unfolding offered
  offered-empty e = simp (eq-eqb _ _ e)

  pub offered-more : (src.worth ≡ 0 → ⊥) → old.worth < src.worth + gain → raised src gain digit ≡ offered old src gain digit
  unfolding offered raised
  offered-more n l = simp (ne_eqb _ _ n, lt-ltb _ _ l)

  pub offered_less : (src.worth ≡ 0 → ⊥) → src.worth + gain ≤ old.worth → old ≡ offered old src gain digit
  unfolding offered raised
  offered_less n l = simp (ne_eqb _ _ n, le-ltb _ _ l)

-- two cells with equal fields are equal
cell_eq : {a b : Cell} → a.worth ≡ b.worth → a.code ≡ b.code → a ≡ b
cell_eq p q = λ i. record { worth = p i; code = q i }

-- reading after a store
pub get_same : (ws : List ℕ) (x : ℕ) (c : Cell) → 2 * x + 1 < length ws → cell_at (put_at ws x c) x ≡ c
unfolding cell_at put_at
get_same ws x c h =
    let ws' = set ws (2 * x) c.worth in
    cell_eq
    (get_or-set_other ws' (2 * x + 1) (2 * x) c.code 0 (omega arith) ∙ get_or-set_same ws (2 * x) c.worth 0 (omega arith))
    (get_or-set_same ws' (2 * x + 1) c.code 0 (simp length-set h))

pub get_other : (ws : List ℕ) (x y : ℕ) (c : Cell) → (y ≡ x → ⊥) → cell_at (put_at ws x c) y ≡ cell_at ws y
unfolding cell_at put_at
get_other ws x y c n =
    let ws' = set ws (2 * x) c.worth in
    cell_eq
    (get_or-set_other ws' (2 * x + 1) (2 * y) c.code 0 (omega arith)
    ∙ get_or-set_other ws (2 * x) (2 * y) c.worth 0 (λ e. n (omega arith)))
    (get_or-set_other ws' (2 * x + 1) (2 * y + 1) c.code 0 (λ e. n (omega arith))
    ∙ get_or-set_other ws (2 * x) (2 * y + 1) c.worth 0 (omega arith))

-- what a cell holds, stored there again
pub put_own : (ws : List ℕ) (x : ℕ) → put_at ws x (cell_at ws x) ≡ ws
unfolding cell_at put_at
put_own ws x = rw (set-get_or ws (2 * x) 0, set-get_or ws (2 * x + 1) 0)

-- an empty cell changes nothing
pub offered-none : (ws : List ℕ) (from to gain digit : ℕ) → (cell_at ws from).worth ≡ 0 → ws ≡ offered_at ws from to gain digit
unfolding offered_at
offered-none ws from to gain digit e =
    sym (ap (put_at ws to) (sym (offered-empty (cell_at ws to) (cell_at ws from) gain digit e)) ∙ put_own ws to)

pub length_put : (ws : List ℕ) (x : ℕ) (c : Cell) → length (put_at ws x c) ≡ length ws
unfolding put_at
length_put ws x c = simp length-set

-- a row that is filled from its start: none yet, one cell more, all
pub filled_none : {ws : List ℕ} {at : ℕ} {f : ℕ → Cell} → Filled ws ws at 0 f
filled_none = record { same_length = refl; inside = λ j l. absurd (not-suc-le-zero l); outside = λ x h. refl }

pub filled_more : {ws ws' ws'' : List ℕ} {at j : ℕ} {f : ℕ → Cell} → Filled ws ws' at j f → 2 * (at + j) + 1 < length ws
    → ws'' ≡ put_at ws' (at + j) (f j) → Filled ws ws'' at (j + 1) f
filled_more {ws} {ws'} {ws''} {at} {j} {f} r l e = record {
  same_length = ap length e ∙ length_put ws' (at + j) _ ∙ r.same_length;
  inside = below_more _ j
      (λ k h. rw e (get_other ws' (at + j) (at + k) _ (omega arith) ∙ r.inside k h))
      (rw e (get_same ws' (at + j) _ (omega (arith, r.same_length))));
  outside = λ x h. rw e (get_other ws' (at + j) x _ (h j (omega arith)) ∙ r.outside x (λ k m. h k (omega arith)));
}

-- while a row is filled from a row apart, what is still to be read is unchanged
module _ {ws ws' : List ℕ} {from to len j : ℕ} {f : ℕ → Cell} (rows : Rows ws from to len) (l : j < len) (r : Filled ws ws' to j f) where
  pub source-kept : cell_at ws' (from + j) ≡ cell_at ws (from + j)
  source-kept = r.outside (from + j) (λ k h e. rows.never j k l (omega arith) e)

  pub target-kept : cell_at ws' (to + j) ≡ cell_at ws (to + j)
  target-kept = r.outside (to + j) (λ k h e. omega arith)

-- one cell more of `offer_row`
module _ {ws ws' : List ℕ} {from to len j : ℕ} (gain digit : ℕ) (rows : Rows ws from to len) (l : j < len)
    (r : Filled ws ws' to j (offered_row ws from to gain digit)) where
  pub source_room : Roomy ws from len gain digit → Room (cell_at ws' (from + j)) gain digit
  source_room roomy = rw (source-kept rows l r) (roomy j l)

  pub offered-more_row : {ws'' : List ℕ} → ws'' ≡ offered_at ws' (from + j) (to + j) gain digit → Filled ws ws'' to (j + 1) (offered_row ws from to gain digit)
  unfolding offered_at offered_row
  offered-more_row e = filled_more r (omega (arith, rows.target)) (e ∙ ap₂ (λ a b. put_at ws' (to + j) (offered a b gain digit)) (target-kept rows l r) (source-kept rows l r))

-- one cell more of `copy_row`
pub copied_more : {ws ws' ws'' : List ℕ} {from to len j : ℕ} {c : Cell} → Rows ws from to len → j < len → Filled ws ws' to j (copied_row ws from)
    → c ≡ cell_at ws' (from + j) → ws'' ≡ put_at ws' (to + j) c → Filled ws ws'' to (j + 1) (copied_row ws from)
unfolding copied_row
copied_more {ws' = ws'} {to = to} {j = j} rows l r c e =
    filled_more r (omega (arith, rows.target)) (e ∙ ap (put_at ws' (to + j)) (c ∙ source-kept rows l r))

-- a row that is copied between cells that are emptied
module _ {ws ws₁ ws₂ ws₃ : List ℕ} (from to skip count len : ℕ) (h : skip + count ≤ len)
    (a : Filled ws ws₁ (to + skip) count (copied_row ws from)) (b : Filled ws₁ ws₂ to skip no_cell)
    (c : Filled ws₂ ws₃ (to + skip + count) (len - (skip + count)) no_cell) where
  before : (j : ℕ) → j < skip → cell_at ws₃ (to + j) ≡ carried_row ws from skip count j
  unfolding carried_row no_cell empty
  before j k = c.outside (to + j) (λ i m e. omega arith) ∙ b.inside j k ∙ sym (simp (lt-leb _ _ k))

  between : (j : ℕ) → skip ≤ j → j < skip + count → cell_at ws₃ (to + j) ≡ carried_row ws from skip count j
  unfolding carried_row copied_row empty
  between j k l =
      let e : to + j ≡ to + skip + (j - skip) = omega arith in
      c.outside (to + j) (λ i m q. omega arith)
      ∙ b.outside (to + j) (λ i m q. omega arith)
      ∙ ap (cell_at ws₁) e
      ∙ a.inside (j - skip) (omega arith)
      ∙ sym (simp (le-leb _ _ k, lt-ltb _ _ l))

  after : (j : ℕ) → j < len → skip + count ≤ j → cell_at ws₃ (to + j) ≡ carried_row ws from skip count j
  unfolding carried_row no_cell empty
  after j k l =
      let e : to + j ≡ to + skip + count + (j - (skip + count)) = omega arith in
      let m : skip ≤ j = omega arith in
      ap (cell_at ws₃) e ∙ c.inside (j - (skip + count)) (omega arith) ∙ sym (simp (le-leb _ _ m, le-ltb _ _ l))

  pub carried : Filled ws ws₃ to len (carried_row ws from skip count)
  carried = record {
    same_length = c.same_length ∙ b.same_length ∙ a.same_length;
    inside = λ j k. ⊎_elim
        (λ (l : j < skip). before j l)
        (λ (l : skip ≤ j). ⊎_elim (λ (m : j < skip + count). between j l m) (λ (m : skip + count ≤ j). after j k m) (split j (skip + count)))
        (split j skip);
    outside = λ x n. c.outside x (λ i m e. n (skip + count + i) (omega arith) (omega arith))
        ∙ b.outside x (λ i m e. n i (omega arith) (omega arith))
        ∙ a.outside x (λ i m e. n (skip + i) (omega arith) (omega arith));
  }

-- one cell more of `count_row`
reached-worth : (c : Cell) → ltb 0 c.worth ≡ is_some (key_of c)
unfolding key_of
reached-worth c = go c.worth
  where
    go : (w : ℕ) → ltb 0 w ≡ is_some (key_if w c.code)
    go zero = refl
    go (suc w) = lt-ltb 0 (suc w) (omega arith)

pub counted-more : (ws : List ℕ) (at j : ℕ) {n count : ℕ} {c : Cell} → count ≡ count_upto j (reached ws at) → c ≡ cell_at ws (at + j) → n ≡ cond (ltb 0 c.worth) 1 0
    → count + n ≡ count_upto (j + 1) (reached ws at)
counted-more ws at j {n} {count} {c} h e p =
    ap₂ ◌+◌ h (p ∙ ap (λ (t : Bool). cond t 1 0) (ap (λ (d : Cell). ltb 0 d.worth) e ∙ reached-worth (cell_at ws (at + j))))
    ∙ ap (λ m. count_upto m (reached ws at)) (sym (add-one j))
