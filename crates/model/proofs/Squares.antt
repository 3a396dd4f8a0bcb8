-- Squares of natural numbers, for omega, which multiplies products out and is linear in the monomials. Assumes nothing.
use Prim.Native.Nat.{ℕ, ◌+◌, ◌*◌, ◌-◌, ◌≤◌}
use mathlib.Core.Path.{◌≡◌}
use native.Mathlib.Nat.{mul-le-mul}
use native.Mathlib.Decide.{dec_le}
use native.Mathlib.Omega.{arith}

-- omega proves identities between polynomials over ℕ
pub sq_mono : {a b : ℕ} → a ≤ b → a * a ≤ b * b
sq_mono h = mul-le-mul h h

pub sq_cancel : (a b : ℕ) → a * a ≤ b * b → a ≤ b
sq_cancel a b h = go (dec_le a b)
  where
    go : Dec (a ≤ b) → a ≤ b
    go (yes k) = k
    go (no k) =
        let l : b + 1 ≤ a = omega arith in
        omega (arith, mul-le-mul l l)

-- the square of a difference, as a sum: a = b + k or b = a + k
pub two_mul_le : (a b : ℕ) → 2 * (a * b) ≤ a * a + b * b
two_mul_le a b = go (dec_le a b)
  where
    -- b = a + k: a² + b² = 2ab + k²
    at : (a k : ℕ) → 2 * (a * (a + k)) ≤ a * a + (a + k) * (a + k)
    at a k = omega arith

    go : Dec (a ≤ b) → 2 * (a * b) ≤ a * a + b * b
    go (yes h) =
        let e : a + (b - a) ≡ b = omega arith in
        rw e at (at a (b - a))
    go (no h) =
        let e : b + (a - b) ≡ a = omega arith in
        omega (arith, rw e at (at b (a - b)))

pub sq_sum : (a b : ℕ) → (a + b) * (a + b) ≤ 2 * (a * a + b * b)
sq_sum a b = omega (arith, two_mul_le a b)

cauchy : (a b c d : ℕ) → (a * c + b * d) * (a * c + b * d) ≤ (a * a + b * b) * (c * c + d * d)
cauchy a b c d = omega (arith, two_mul_le (a * d) (b * c))

-- in the plane: two pairs within s and t have a sum within s + t
pub minkowski : (a b c d s t : ℕ) → a * a + b * b ≤ s * s → c * c + d * d ≤ t * t
    → (a + c) * (a + c) + (b + d) * (b + d) ≤ (s + t) * (s + t)
minkowski a b c d s t h k =
    let m : (a * a + b * b) * (c * c + d * d) ≤ (s * s) * (t * t) = mul-le-mul h k in
    let l : a * c + b * d ≤ s * t = sq_cancel (a * c + b * d) (s * t) (omega (arith, cauchy a b c d)) in
    omega arith
