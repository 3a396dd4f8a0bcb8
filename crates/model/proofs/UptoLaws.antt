-- Lists over numbers in a row, `upto_from i n` and `map f (upto n)`: their elements, and what a loop over them shows turn by turn.
-- Assumes nothing.
use mathlib.Core.Path.{◌≡◌, refl, sym, ap, ap₂, ◌∙◌, subst}
use mathlib.Core.Bool.{Bool, true, false, ◌||◌}
use mathlib.Core.Logic.{◌⊎◌, inl, inr}
use mathlib.Core.List.{List, [], ◌∷◌, ◌++◌, map, map-append}
use Prim.Native.Nat.{ℕ, zero, suc, ◌+◌, ◌<◌, ◌≤◌}
use native.Mathlib.Nat.{add-zero, zero-add, not-suc-le-zero, le_of_suc-le-suc}
use native.Mathlib.Numerals.{add-one}
use native.Mathlib.Omega.{arith}
use lib.ListN.{length, get_or, take, set}
use lib.Seq.{take_all, take-suc-set, ext_get_or}
use Rattle.model.specs.Lists.{upto_from, upto, Every, any, concat}
use Rattle.model.proofs.ListLaws.{any-join, concat_last}
use Rattle.model.proofs.IntegerLaws.{split}

pub suc_across : (i k : ℕ) → i + suc k ≡ suc i + k
suc_across i k = omega arith

from_last : (i n : ℕ) → upto_from i (suc n) ≡ upto_from i n ++ ((i + n) ∷ [])
from_last i zero = ap {B = List ℕ} (λ k. k ∷ []) (sym (add-zero i))
from_last i (suc n) =
    ap {B = List ℕ} (λ r. i ∷ r) (from_last (suc i) n ∙ ap (λ k. upto_from (suc i) n ++ (k ∷ [])) (sym (suc_across i n)))

pub upto_last : (n : ℕ) → upto (suc n) ≡ upto n ++ (n ∷ [])
upto_last n = from_last 0 n ∙ ap (λ k. upto n ++ (k ∷ [])) (zero-add n)

pub from_suc : (i n : ℕ) → upto_from (suc i) n ≡ map suc (upto_from i n)
from_suc i zero = refl
from_suc i (suc n) = ap {B = List ℕ} (λ r. suc i ∷ r) (from_suc (suc i) n)

-- a property of each of i, .., i + n - 1
pub every_at_from : (P : ℕ → Type 0) (i n : ℕ) → Every P (upto_from i n) → (k : ℕ) → i ≤ k → k < i + n → P k
every_at_from P i zero h k a b = absurd (omega arith)
every_at_from P i (suc n) h k a b = go (split i k) (λ l. every_at_from P (suc i) n h.1 k l (omega arith))
  where
    go : (i < k) ⊎ (k ≤ i) → (i < k → P k) → P k
    go (inl l) rest = rest l
    go (inr l) rest = let here : i ≡ k = omega arith in subst P here h.0

pub every_from : (P : ℕ → Type 0) (i n : ℕ) → ((k : ℕ) → i ≤ k → k < i + n → P k) → Every P (upto_from i n)
every_from P i zero h = tt
every_from P i (suc n) h = (h i (omega arith) (omega arith), every_from P (suc i) n (λ k a b. h k (omega arith) (omega arith)))

module _ {A : Type 0} (f : ℕ → A) where
  length_from : (i n : ℕ) → length (map f (upto_from i n)) ≡ n
  length_from i zero = refl
  length_from i (suc n) = ap suc (length_from (suc i) n)

  pub length-upto : (n : ℕ) → length (map f (upto n)) ≡ n
  length-upto n = length_from 0 n

  get_d_from : (i n k : ℕ) (d : A) → k < n → get_or (map f (upto_from i n)) k d ≡ f (i + k)
  get_d_from i zero k d h = absurd (not-suc-le-zero h)
  get_d_from i (suc n) zero d h = ap f (sym (add-zero i))
  get_d_from i (suc n) (suc k) d h = get_d_from (suc i) n k d (le_of_suc-le-suc h) ∙ ap f (sym (suc_across i k))

  pub get_d_upto : (n k : ℕ) (d : A) → k < n → get_or (map f (upto n)) k d ≡ f k
  get_d_upto n k d h = get_d_from 0 n k d h ∙ ap f (zero-add k)

  take_from : (i k n : ℕ) → k ≤ n → take k (map f (upto_from i n)) ≡ map f (upto_from i k)
  take_from i zero n h = refl
  take_from i (suc k) zero h = absurd (omega arith)
  take_from i (suc k) (suc n) h = ap {B = List A} (λ r. f i ∷ r) (take_from (suc i) k n (le_of_suc-le-suc h))

  pub take-upto : (k n : ℕ) → k ≤ n → take k (map f (upto n)) ≡ map f (upto k)
  take-upto k n h = take_from 0 k n h

  -- a list that agrees with f at each place, counted from i on
  pub from_is : (i : ℕ) (xs : List A) (d : A) → ((k : ℕ) → k < length xs → f (i + k) ≡ get_or xs k d) → map f (upto_from i (length xs)) ≡ xs
  from_is i xs d h =
      ext_get_or d (map f (upto_from i (length xs))) xs (length_from i (length xs))
      (λ k l. let inside : k < length xs = omega (arith, length_from i (length xs)) in get_d_from i (length xs) k d inside ∙ h k inside)

  pub upto_is : (xs : List A) (d : A) → ((i : ℕ) → i < length xs → f i ≡ get_or xs i d) → map f (upto (length xs)) ≡ xs
  upto_is xs d h = from_is 0 xs d (λ k l. ap f (zero-add k) ∙ h k l)

  map_last : (n : ℕ) → map f (upto (suc n)) ≡ map f (upto n) ++ (f n ∷ [])
  map_last n = ap (map f) (upto_last n) ∙ map-append f (upto n) (n ∷ [])

  -- ---- an array that is filled from the front: one more element, and the whole

  pub fill_more : (l : List A) (i : ℕ) (v : A) → i < length l → v ≡ f i → take i l ≡ map f (upto i) → take (i + 1) (set l i v) ≡ map f (upto (i + 1))
  fill_more l i v h e t = rw (add-one, take-suc-set, t, e) (sym (map_last i))

  pub fill_all : (l : List A) (n i : ℕ) → length l ≡ n → n ≤ i → i ≤ n → take i l ≡ map f (upto i) → l ≡ map f (upto n)
  fill_all l n i e p q t =
      let s : i ≡ n = omega arith in
      sym (take_all i l (omega arith)) ∙ t ∙ ap (λ k. map f (upto k)) s

  -- ---- a search for an element that passes a test

  module _ (p : A → Bool) where
    any_here_from : (i n k : ℕ) → k < n → p (f (i + k)) ≡ true → any p (map f (upto_from i n)) ≡ true
    any_here_from i zero k h e = absurd (not-suc-le-zero h)
    any_here_from i (suc n) zero h e = rw (sym (ap (λ j. p (f j)) (add-zero i)) ∙ e)
    any_here_from i (suc n) (suc k) h e =
        go (p (f i)) (any_here_from (suc i) n k (le_of_suc-le-suc h) (ap (λ j. p (f j)) (sym (suc_across i k)) ∙ e))
      where
        go : (t : Bool) → any p (map f (upto_from (suc i) n)) ≡ true → (t || any p (map f (upto_from (suc i) n))) ≡ true
        go true q = refl
        go false q = q

    pub any_here : (n k : ℕ) → k < n → p (f k) ≡ true → any p (map f (upto n)) ≡ true
    any_here n k h e = any_here_from 0 n k h (ap (λ j. p (f j)) (zero-add k) ∙ e)

    pub any-more : (n : ℕ) → any p (map f (upto n)) ≡ false → p (f n) ≡ false → any p (map f (upto (n + 1))) ≡ false
    any-more n a b =
        ap (λ m. any p (map f (upto m))) (add-one n)
        ∙ ap (any p) (map_last n)
        ∙ any-join p (map f (upto n)) (f n ∷ [])
        ∙ ap₂ (λ t u. t || (u || false)) a b

-- one piece more, where each number has a list
pub pieces_last : {A : Type 0} (f : ℕ → List A) (n : ℕ) → concat (map f (upto (n + 1))) ≡ concat (map f (upto n)) ++ f n
pieces_last f n =
    ap (λ m. concat (map f (upto m))) (add-one n)
    ∙ ap concat (map_last f n)
    ∙ concat_last (map f (upto n)) (f n)

-- two functions that agree, and one element changed
module _ {A : Type 0} (f g : ℕ → A) where
  pub map_same : (i n : ℕ) → ((j : ℕ) → i ≤ j → j < i + n → f j ≡ g j) → map f (upto_from i n) ≡ map g (upto_from i n)
  map_same i zero h = refl
  map_same i (suc n) h =
      ap₂ {C = List A} (λ x r. x ∷ r) (h i (omega arith) (omega arith)) (map_same (suc i) n (λ j l m. h j (omega arith) (omega arith)))

  set_from : (i n k : ℕ) → k < n → ((j : ℕ) → (j ≡ i + k → ⊥) → f j ≡ g j) → set (map f (upto_from i n)) k (g (i + k)) ≡ map g (upto_from i n)
  set_from i zero k h e = absurd (not-suc-le-zero h)
  set_from i (suc n) zero h e =
      ap₂ {C = List A} (λ x r. x ∷ r) (ap g (add-zero i)) (map_same (suc i) n (λ j l m. e j (λ q. omega arith)))
  set_from i (suc n) (suc k) h e =
      ap₂ {C = List A} (λ x r. x ∷ r) (e i (λ q. omega arith))
      (ap (λ j. set (map f (upto_from (suc i) n)) k (g j)) (suc_across i k)
      ∙ set_from (suc i) n k (le_of_suc-le-suc h) (λ j l. e j (λ q. l (q ∙ suc_across i k))))

  pub set-upto : (n k : ℕ) (v : A) → k < n → v ≡ g k → ((j : ℕ) → (j ≡ k → ⊥) → f j ≡ g j) → set (map f (upto n)) k v ≡ map g (upto n)
  set-upto n k v h q e =
      ap (set (map f (upto n)) k) (q ∙ ap g (sym (zero-add k)))
      ∙ set_from 0 n k h (λ j l. e j (λ r. l (r ∙ sym (zero-add k))))
