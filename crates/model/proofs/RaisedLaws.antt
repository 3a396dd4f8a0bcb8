-- Raised numbers: q + 32,768 n adds up, stays in its range, and has |q| as its distance from 32,768 n.
-- Assumes nothing.
use mathlib.Core.Path.{◌≡◌, sym, ap, ap₂, ◌∙◌}
use mathlib.Core.Logic.{◌⊎◌, inl, inr}
use Prim.Native.Nat.{ℕ, ◌+◌, ◌-◌, ◌*◌, ◌<◌, ◌≤◌}
use native.Mathlib.Omega.{arith}
use lib.IntN.{ℤ, pos, negsuc, nat_abs, sub_ℕ, ◌+ℤ◌}
use Rattle.model.specs.Values.{raised, raised_by}
use Rattle.model.specs.Index.{up, down}
use Rattle.model.proofs.IntegerLaws.{split, sub_pos, sub_neg, sub_same, sub-add, as_sub, abs_is, abs_sub}

pub raised_one : (q : ℤ) → raised q ≡ raised_by 1 q
unfolding raised raised_by
raised_one (pos k) = omega arith
raised_one (negsuc k) = omega arith

raised_is : (n : ℕ) (q : ℤ) → raised_by n q ≡ up q + 32768 * n - down q
unfolding raised_by
raised_is n (pos k) = omega arith
raised_is n (negsuc k) = omega arith

raised-sub : (n a b : ℕ) → raised_by n (sub_ℕ a b) ≡ a + 32768 * n - b
unfolding raised_by
raised-sub n a b = go (split a b)
  where
    go : (a < b) ⊎ (b ≤ a) → raised_by n (sub_ℕ a b) ≡ a + 32768 * n - b
    go (inl x) = ap (raised_by n) (sub_neg a b x) ∙ (omega arith)
    go (inr x) = ap (raised_by n) (sub_pos a b x) ∙ (omega arith)

plus-sub : (x y : ℤ) → x +ℤ y ≡ sub_ℕ (up x + up y) (down x + down y)
plus-sub x y = ap₂ ◌+ℤ◌ (as_sub x) (as_sub y) ∙ sub-add (up x) (down x) (up y) (down y)

-- a sum of m and one of n reactive powers
pub raised-plus : (m n : ℕ) (x y : ℤ) → nat_abs x ≤ 32768 * m → nat_abs y ≤ 32768 * n → raised_by (m + n) (x +ℤ y) ≡ raised_by m x + raised_by n y
raised-plus m n x y h k =
    ap (raised_by (m + n)) (plus-sub x y)
    ∙ raised-sub (m + n) (up x + up y) (down x + down y)
    ∙ (omega (arith, raised_is m x, raised_is n y, abs_is x, abs_is y))

pub abs_plus : (x y : ℤ) → nat_abs (x +ℤ y) ≤ nat_abs x + nat_abs y
abs_plus x y =
    omega (arith, ap nat_abs (plus-sub x y), abs_sub (up x + up y) (down x + down y), abs_is x, abs_is y)

pub raised_most : (n : ℕ) (q : ℤ) → nat_abs q ≤ 32768 * n → raised_by n q ≤ 65536 * n
raised_most n q h = omega (arith, raised_is n q, abs_is q)

-- the distance from 32,768 n
pub raised_abs : (n : ℕ) (q : ℤ) → nat_abs q ≤ 32768 * n → (raised_by n q - 32768 * n) + (32768 * n - raised_by n q) ≡ nat_abs q
unfolding raised_by
raised_abs n (pos k) h = omega arith
raised_abs n (negsuc k) h = omega arith

-- q, had back
pub raised_less : (n : ℕ) (q : ℤ) → nat_abs q ≤ 32768 * n → sub_ℕ (raised_by n q) (32768 * n) ≡ q
raised_less n q h =
    sub_same (raised_by n q) (32768 * n) (up q) (down q) (omega (arith, raised_is n q, abs_is q)) ∙ sym (as_sub q)
