-- A table of cells 0 to n - 1: the best over all choices is the best of the cells' bests, and the number of different lists of grid pairs
-- is the number of cells that some list has. A cell index is any function that tells different lists apart, and is below n, on the lists at hand.
-- Assumes nothing.
use mathlib.Core.Path.{◌≡◌, refl, sym, ap, ap₂, ◌∙◌, fun_ext}
use mathlib.Core.Bool.{Bool, true, false, cond, not, ◌&&◌, ◌||◌}
use mathlib.Core.List.{List, [], ◌∷◌, map}
use mathlib.Core.Option.{Option, none, some}
use Prim.Native.Nat.{ℕ, zero, suc, ◌+◌, ◌<◌, ◌≤◌}
use native.Mathlib.Nat.{not-suc-le-zero}
use native.Mathlib.Decide.{ℕ_discrete}
use native.Mathlib.Omega.{arith}
use lib.Dec.{T, eqb}
use lib.ListN.{length}
use borrow.Author.Tests.{eq-eqb, ne_eqb, eqb-true}
use Rattle.model.specs.Lists.{Every, keep, keep_if, any, distinct}
use Rattle.model.specs.Choice.{Choice}
use Rattle.model.specs.Cells.{Key, join, best_key, choice_key, best_where, join_upto, is_some, count_upto}
use Rattle.model.proofs.KeyLaws.{join-none, join_assoc, join_comm}

-- ---- the best of the cells

swap : (a b c d : Option Key) → join (join a b) (join c d) ≡ join (join a c) (join b d)
swap a b c d =
    sym (join_assoc a b (join c d))
    ∙ ap (join a) (join_assoc b c d ∙ ap (λ x. join x d) (join_comm b c) ∙ sym (join_assoc c b d))
    ∙ join_assoc a c (join b d)

join-upto : (n : ℕ) (f g : ℕ → Option Key) → join_upto n (λ i. join (f i) (g i)) ≡ join (join_upto n f) (join_upto n g)
join-upto zero f g = refl
join-upto (suc n) f g = ap (λ x. join x (join (f n) (g n))) (join-upto n f g) ∙ swap (join_upto n f) (join_upto n g) (f n) (g n)

pub upto-none : (n : ℕ) (f : ℕ → Option Key) → ((m : ℕ) → m < n → f m ≡ none) → join_upto n f ≡ none
upto-none zero f h = refl
upto-none (suc n) f h = ap₂ join (upto-none n f (λ m l. h m (omega arith))) (h n (omega arith))

-- x at cell j alone
abbrev pub only : ℕ → Option Key → ℕ → Option Key
only j x i = cond (eqb j i) x none

only_other : {i j : ℕ} (x : Option Key) → (j ≡ i → ⊥) → only j x i ≡ none
only_other {i} {j} x h = ap (λ t. cond t x none) (ne_eqb j i h)

only_below : (n j : ℕ) (x : Option Key) → n ≤ j → join_upto n (only j x) ≡ none
only_below zero j x h = refl
only_below (suc n) j x h = ap₂ join (only_below n j x (omega arith)) (only_other {i = n} {j = j} x (λ e. omega arith))

pub only-upto : (n j : ℕ) (x : Option Key) → j < n → join_upto n (only j x) ≡ x
only-upto zero j x h = absurd (not-suc-le-zero h)
only-upto (suc n) j x h = go (ℕ_discrete j n) (only-upto n j x)
  where
    go : Dec (j ≡ n) → (j < n → join_upto n (only j x) ≡ x) → join (join_upto n (only j x)) (only j x n) ≡ x
    go (yes e) ih = ap₂ join (only_below n j x (omega arith)) (ap (λ t. cond t x none) (eq-eqb j n e))
    go (no e) ih = ap₂ join (ih (omega arith)) (only_other x e) ∙ join-none x

where_cons : (p : Choice → Bool) (c : Choice) (cs : List Choice)
    → best_where p (c ∷ cs) ≡ join (cond (p c) (some (choice_key c)) none) (best_where p cs)
where_cons p c cs = go (p c)
  where
    go : (t : Bool) → best_key (map choice_key (keep_if t c (keep p cs))) ≡ join (cond t (some (choice_key c)) none) (best_where p cs)
    go true = refl
    go false = refl

-- the best key is the best of the cells' best keys
pub best_by_cell : (n : ℕ) (p : Choice → Bool) (cell : Choice → ℕ) (cs : List Choice) → Every (λ c. T (p c) → cell c < n) cs
    → best_where p cs ≡ join_upto n (λ i. best_where (λ c. p c && eqb (cell c) i) cs)
best_by_cell n p cell [] h = sym (upto-none n (λ i. none) (λ m l. refl))
best_by_cell n p cell (c ∷ cs) h =
    where_cons p c cs
    ∙ ap₂ join (one (p c) h.0) (best_by_cell n p cell cs h.1)
    ∙ sym (join-upto n (λ i. cond (p c && eqb (cell c) i) (some (choice_key c)) none) (λ i. best_where (λ d. p d && eqb (cell d) i) cs))
    ∙ ap (join_upto n) (fun_ext (λ i. sym (where_cons (λ d. p d && eqb (cell d) i) c cs)))
  where
    one : (t : Bool) → (T t → cell c < n)
        → cond t (some (choice_key c)) none ≡ join_upto n (λ i. cond (t && eqb (cell c) i) (some (choice_key c)) none)
    one true b = sym (only-upto n (cell c) (some (choice_key c)) (b tt))
    one false b = sym (upto-none n (λ i. none) (λ m l. refl))

-- a cell has a best exactly when some choice has it
some-join : (x y : Option Key) → is_some (join x y) ≡ is_some x || is_some y
some-join none y = refl
some-join (some x) none = refl
some-join (some x) (some y) = refl

pub some-any : (p : Choice → Bool) (cs : List Choice) → is_some (best_where p cs) ≡ any p cs
some-any p [] = refl
some-any p (c ∷ cs) =
    ap is_some (where_cons p c cs)
    ∙ some-join (cond (p c) (some (choice_key c)) none) (best_where p cs)
    ∙ ap₂ ◌||◌ (one (p c)) (some-any p cs)
  where
    one : (t : Bool) → is_some (cond t (some (choice_key c)) none) ≡ t
    one true = refl
    one false = refl

-- ---- the number of cells

mark_same : (n j : ℕ) (m : ℕ → Bool) → m j ≡ true → count_upto n (λ i. eqb j i || m i) ≡ count_upto n m
mark_same n j m e = ap (count_upto n) (fun_ext (λ i. go i (eqb j i) refl))
  where
    go : (i : ℕ) (t : Bool) → eqb j i ≡ t → t || m i ≡ m i
    go i true q = sym (ap m (sym (eqb-true j i q)) ∙ e)
    go i false q = refl

mark_below : (n j : ℕ) (m : ℕ → Bool) → n ≤ j → count_upto n (λ i. eqb j i || m i) ≡ count_upto n m
mark_below zero j m h = refl
mark_below (suc n) j m h =
    ap₂ (λ x (t : Bool). x + cond (t || m n) 1 0) (mark_below n j m (omega arith)) (ne_eqb j n (λ e. omega arith))

mark_new : (n j : ℕ) (m : ℕ → Bool) → j < n → m j ≡ false → count_upto n (λ i. eqb j i || m i) ≡ suc (count_upto n m)
mark_new zero j m h e = absurd (not-suc-le-zero h)
mark_new (suc n) j m h e = go (ℕ_discrete j n) (λ k. mark_new n j m k e)
  where
    go : Dec (j ≡ n) → (j < n → count_upto n (λ i. eqb j i || m i) ≡ suc (count_upto n m))
        → count_upto n (λ i. eqb j i || m i) + cond (eqb j n || m n) 1 0 ≡ suc (count_upto n m + cond (m n) 1 0)
    go (yes q) ih =
        ap₂ (λ x (t : Bool). x + cond (t || m n) 1 0) (mark_below n j m (omega arith)) (eq-eqb j n q)
        ∙ (omega arith)
        ∙ sym (ap (λ (t : Bool). suc (count_upto n m + cond t 1 0)) (ap m (sym q) ∙ e))
    go (no q) ih =
        ap₂ (λ x (t : Bool). x + cond (t || m n) 1 0) (ih (omega arith)) (ne_eqb j n q)
        ∙ (omega arith)

module _ {A : Type 0} (Ok : A → Type 0) (same : A → A → Bool) (index : A → ℕ) (n : ℕ)
    (below : (x : A) → Ok x → index x < n) (apart : (x y : A) → Ok x → Ok y → same x y ≡ eqb (index y) (index x)) where
  -- the cells that the elements of a list have
  abbrev pub marked : List A → ℕ → Bool
  marked xs i = any (λ x. eqb (index x) i) xs

  any_same : (x : A) → Ok x → (ys : List A) → Every Ok ys → any (same x) ys ≡ marked ys (index x)
  any_same x o [] h = refl
  any_same x o (y ∷ ys) h = ap₂ ◌||◌ (apart x y o h.0) (any_same x o ys h.1)

  -- as many different elements as marked cells
  pub distinct-count : (xs : List A) → Every Ok xs → length (distinct same xs) ≡ count_upto n (marked xs)
  distinct-count [] h = sym (none-marked n)
    where
      none-marked : (k : ℕ) → count_upto k (λ i. false) ≡ 0
      none-marked zero = refl
      none-marked (suc k) = ap (λ x. x + 0) (none-marked k)
  distinct-count (x ∷ xs) h =
      ap (λ (t : Bool). length (keep_if (not t) x (distinct same xs))) (any_same x h.0 xs h.1)
      ∙ go (marked xs (index x)) refl (distinct-count xs h.1)
    where
      go : (t : Bool) → marked xs (index x) ≡ t → length (distinct same xs) ≡ count_upto n (marked xs)
          → length (keep_if (not t) x (distinct same xs)) ≡ count_upto n (λ i. eqb (index x) i || marked xs i)
      go true e ih = ih ∙ sym (mark_same n (index x) (marked xs) e)
      go false e ih = ap suc ih ∙ sym (mark_new n (index x) (marked xs) (below x h.0) e)
