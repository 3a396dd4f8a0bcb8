-- Arrays that are filled from the front: what holds of each entry.
-- Assumes nothing.
use Prim.Native.Nat.{ℕ, ◌+◌, ◌<◌, ◌≤◌}
use mathlib.Core.Path.{◌≡◌, sym, subst}
use mathlib.Core.Logic.{◌⊎◌, inl, inr}
use mathlib.Core.List.{List}
use native.Mathlib.Omega.{arith}
use lib.ListN.{length, get_or, set}
use lib.Seq.{get_or-set_same, get_or-set_other}
use Rattle.model.proofs.IntegerLaws.{split}

-- one entry more
pub set-each : {A : Type 0} (P : ℕ → A → Type 0) (xs : List A) (t : ℕ) (x d : A) → t < length xs → P t x
    → ((i : ℕ) → i < t → P i (get_or xs i d)) → (i : ℕ) → i < t + 1 → P i (get_or (set xs t x) i d)
set-each P xs t x d l p h i k = go (split i t)
  where
    go : (i < t) ⊎ (t ≤ i) → P i (get_or (set xs t x) i d)
    go (inl m) = subst (P i) (sym (get_or-set_other xs t i x d (λ e. omega arith))) (h i m)
    go (inr m) =
        let e : t ≡ i = omega arith in
        subst (λ j. P j (get_or (set xs t x) j d)) e (subst (P t) (sym (get_or-set_same xs t x d l)) p)

-- the same from the back
pub set-down : {A : Type 0} (P : ℕ → A → Type 0) (xs : List A) (t n : ℕ) (x d : A) → t < length xs → P t x
    → ((i : ℕ) → t < i → i < n → P i (get_or xs i d)) → (i : ℕ) → t ≤ i → i < n → P i (get_or (set xs t x) i d)
set-down P xs t n x d l p h i j k = go (split t i)
  where
    go : (t < i) ⊎ (i ≤ t) → P i (get_or (set xs t x) i d)
    go (inl m) = subst (P i) (sym (get_or-set_other xs t i x d (λ e. omega arith))) (h i m k)
    go (inr m) =
        let e : t ≡ i = omega arith in
        subst (λ j. P j (get_or (set xs t x) j d)) e (subst (P t) (sym (get_or-set_same xs t x d l)) p)
