-- The numbers from i to i + n - 1 that pass a test, `keep p (upto_from i n)`: the lowest of them, how many they are, and how often a number is among them.
-- Assumes nothing.
use mathlib.Core.Path.{◌≡◌, refl, sym, ap, ◌∙◌}
use mathlib.Core.Bool.{Bool, true, false, cond, false≢true}
use mathlib.Core.Logic.{◌⊎◌, inl, inr}
use mathlib.Core.List.{List, [], ◌∷◌, ◌++◌}
use Prim.Native.Nat.{ℕ, zero, suc, ◌+◌, ◌<◌, ◌≤◌}
use native.Mathlib.Omega.{arith}
use lib.Dec.{eqb}
use lib.ListN.{length, take, length-append}
use borrow.Author.Tests.{eqb-true, eq-eqb, ne_eqb}
use Rattle.model.specs.Lists.{upto_from, keep_if, keep, is_empty}
use Rattle.model.specs.Order.{how_often}
use Rattle.model.proofs.ListLaws.{keep_append, keep_same, keep-none}
use Rattle.model.proofs.UptoLaws.{every_from}
use Rattle.model.proofs.IntegerLaws.{split}

-- ---- the lowest number that passes

module _ (p : ℕ → Bool) where
  none_passes : (i n : ℕ) → ((k : ℕ) → i ≤ k → k < i + n → p k ≡ false) → keep p (upto_from i n) ≡ []
  none_passes i n h = keep-none p (upto_from i n) (every_from (λ k. p k ≡ false) i n h)

  pub keep-lowest : (i n k : ℕ) → i ≤ k → k < i + n → p k ≡ true → ((j : ℕ) → i ≤ j → j < k → p j ≡ false)
      → take 1 (keep p (upto_from i n)) ≡ k ∷ []
  keep-lowest i zero k a b e h = absurd (omega arith)
  keep-lowest i (suc n) k a b e h = go (split i k) (λ l. keep-lowest (suc i) n k l (omega arith) e (λ j c d. h j (omega arith) d))
    where
      go : (i < k) ⊎ (k ≤ i) → (i < k → take 1 (keep p (upto_from (suc i) n)) ≡ k ∷ []) → take 1 (keep p (upto_from i (suc n))) ≡ k ∷ []
      go (inl l) rest = ap (λ t. take 1 (keep_if t i (keep p (upto_from (suc i) n)))) (h i (omega arith) l) ∙ rest l
      go (inr l) rest =
          let here : i ≡ k = omega arith in
          ap (λ t. take 1 (keep_if t i (keep p (upto_from (suc i) n)))) (ap p here ∙ e) ∙ ap {B = List ℕ} (λ j. j ∷ []) here

  -- where some number passes, there is a lowest
  pub record Lowest (i n : ℕ) : Type 0 where
    pub number : ℕ
    pub low : i ≤ number
    pub high : number < i + n
    pub passes : p number ≡ true
    pub lower : (j : ℕ) → i ≤ j → j < number → p j ≡ false

  pub lowest_of : (i n : ℕ) → is_empty (keep p (upto_from i n)) ≡ false → Lowest i n
  lowest_of i zero e = absurd (false≢true (sym e))
  lowest_of i (suc n) e = go (p i) refl e (lowest_of (suc i) n)
    where
      go : (t : Bool) → p i ≡ t → is_empty (keep_if t i (keep p (upto_from (suc i) n))) ≡ false
          → (is_empty (keep p (upto_from (suc i) n)) ≡ false → Lowest (suc i) n) → Lowest i (suc n)
      go true q f rest =
          record { number = i; low = omega arith; high = omega arith; passes = q; lower = λ j a b. absurd (omega arith) }
      go false q f rest =
          let r = rest f in
          record {
            number = r.number;
            low = omega (arith, r.low);
            high = omega (arith, r.high);
            passes = r.passes;
            lower = λ j a b. below r.number r.lower j a b (split i j);
          }
        where
          below : (m : ℕ) → ((j : ℕ) → suc i ≤ j → j < m → p j ≡ false) → (j : ℕ) → i ≤ j → j < m → (i < j) ⊎ (j ≤ i) → p j ≡ false
          below m h j a b (inl l) = h j l b
          below m h j a b (inr l) = let here : j ≡ i = omega arith in ap p here ∙ q

  pub keep_some : (i n k : ℕ) → i ≤ k → k < i + n → p k ≡ true → is_empty (keep p (upto_from i n)) ≡ false
  keep_some i zero k a b e = absurd (omega arith)
  keep_some i (suc n) k a b e = go (p i) refl (split i k) (λ l. keep_some (suc i) n k l (omega arith) e)
    where
      go : (t : Bool) → p i ≡ t → (i < k) ⊎ (k ≤ i) → (i < k → is_empty (keep p (upto_from (suc i) n)) ≡ false)
          → is_empty (keep_if t i (keep p (upto_from (suc i) n))) ≡ false
      go true q l rest = refl
      go false q (inl l) rest = rest l
      go false q (inr l) rest = let here : i ≡ k = omega arith in absurd (false≢true (sym q ∙ ap p here ∙ e))

-- one number less passes
pub keep_less : (p q : ℕ → Bool) (i n k : ℕ) → i ≤ k → k < i + n → p k ≡ true → q k ≡ false → ((j : ℕ) → (j ≡ k → ⊥) → q j ≡ p j)
    → length (keep p (upto_from i n)) ≡ length (keep q (upto_from i n)) + 1
keep_less p q i zero k a b e f h = absurd (omega arith)
keep_less p q i (suc n) k a b e f h = go (split i k) (λ l. keep_less p q (suc i) n k l (omega arith) e f h)
  where
    one : (t : Bool) (xs ys : List ℕ) → length xs ≡ length ys + 1 → length (keep_if t i xs) ≡ length (keep_if t i ys) + 1
    one true xs ys r = omega arith
    one false xs ys r = r

    go : (i < k) ⊎ (k ≤ i) → (i < k → length (keep p (upto_from (suc i) n)) ≡ length (keep q (upto_from (suc i) n)) + 1)
        → length (keep p (upto_from i (suc n))) ≡ length (keep q (upto_from i (suc n))) + 1
    go (inl l) rest =
        one (p i) (keep p (upto_from (suc i) n)) (keep q (upto_from (suc i) n)) (rest l)
        ∙ ap (λ t. length (keep_if t i (keep q (upto_from (suc i) n))) + 1) (sym (h i (λ c. omega arith)))
    go (inr l) rest =
        let here : i ≡ k = omega arith in
        ap (λ t. length (keep_if t i (keep p (upto_from (suc i) n)))) (ap p here ∙ e)
        ∙ ap suc (ap length (keep_same p q (upto_from (suc i) n) (every_from (λ j. p j ≡ q j) (suc i) n (λ j c d. sym (h j (λ e. omega arith))))))
        ∙ (omega arith)
        ∙ ap (λ t. length (keep_if t i (keep q (upto_from (suc i) n))) + 1) (sym (ap q here ∙ f))

-- ---- how often a number stands in a list

pub often_join : (k : ℕ) (xs ys : List ℕ) → how_often k (xs ++ ys) ≡ how_often k xs + how_often k ys
often_join k xs ys = ap length (keep_append (eqb k) xs ys) ∙ length-append (keep (eqb k) xs) (keep (eqb k) ys)

-- a list of which only what passes is kept
pub often_keep : (k : ℕ) (p : ℕ → Bool) (xs : List ℕ) → how_often k (keep p xs) ≡ cond (p k) (how_often k xs) 0
often_keep k p [] = same (p k)
  where
    same : (t : Bool) → Path ℕ 0 (cond t 0 0)
    same true = refl
    same false = refl
often_keep k p (x ∷ xs) = go (eqb k x) refl (often_keep k p xs)
  where
    here : (t : Bool) → how_often k (keep p xs) ≡ cond t (how_often k xs) 0 → eqb k x ≡ true → how_often k (keep_if t x (keep p xs)) ≡ cond t (suc (how_often k xs)) 0
    here true r q = ap (λ u. length (keep_if u x (keep (eqb k) (keep p xs)))) q ∙ ap suc r
    here false r q = r

    other : (t : Bool) → how_often k (keep p xs) ≡ cond (p k) (how_often k xs) 0 → eqb k x ≡ false
        → how_often k (keep_if t x (keep p xs)) ≡ cond (p k) (how_often k xs) 0
    other true r q = ap (λ u. length (keep_if u x (keep (eqb k) (keep p xs)))) q ∙ r
    other false r q = r

    go : (t : Bool) → eqb k x ≡ t → how_often k (keep p xs) ≡ cond (p k) (how_often k xs) 0
        → how_often k (keep_if (p x) x (keep p xs)) ≡ cond (p k) (length (keep_if t x (keep (eqb k) xs))) 0
    go true q r = ap (λ y. how_often k (keep_if (p y) x (keep p xs))) (sym (eqb-true k x q)) ∙ here (p k) r q
    go false q r = other (p x) r q

-- of i, .., i + n - 1
often_below : (k i n : ℕ) → k < i → how_often k (upto_from i n) ≡ 0
often_below k i n h = ap length (none_passes (eqb k) i n (λ j a b. ne_eqb k j (λ e. omega arith)))

pub often_upto : (k i n : ℕ) → i ≤ k → k < i + n → how_often k (upto_from i n) ≡ 1
often_upto k i n a b =
    keep_less (eqb k) (λ j. false) i n k a b (eq-eqb k k refl) refl (λ j h. sym (ne_eqb k j (λ e. h (sym e))))
    ∙ ap (λ (xs : List ℕ). length xs + 1) (none_passes (λ j. false) i n (λ j c d. refl))

pub often_once : (k i n : ℕ) → how_often k (upto_from i n) ≤ 1
often_once k i zero = omega arith
often_once k i (suc n) = go (eqb k i) refl (often_once k (suc i) n)
  where
    go : (t : Bool) → eqb k i ≡ t → how_often k (upto_from (suc i) n) ≤ 1 → length (keep_if t i (keep (eqb k) (upto_from (suc i) n))) ≤ 1
    go true q rest = omega (arith, often_below k (suc i) n (omega (arith, eqb-true k i q)))
    go false q rest = rest
