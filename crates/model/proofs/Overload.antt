-- How far a slot's sums can lie from the pair that was tested. Only natural numbers: P and p are active powers, Q and q magnitudes of reactive powers.
-- Assumes nothing.
use Prim.Native.Nat.{ℕ, ◌+◌, ◌*◌, ◌-◌, ◌≤◌}
use mathlib.Core.Path.{◌≡◌, ap}
use native.Mathlib.Nat.{mul-le-mul, mul-le-mul_left, le_of_mul-le-mul_left}
use native.Mathlib.Omega.{arith}
use Rattle.model.proofs.Squares.{sq_mono, sq_cancel, sq_sum}

-- x² ≤ 2s² gives 2x ≤ 3s
pub three_halves : (x s : ℕ) → x * x ≤ 2 * (s * s) → 2 * x ≤ 3 * s
three_halves x s h = sq_cancel (2 * x) (3 * s) (omega arith)

module _ (P Q p q e : ℕ) (h_p : P ≤ p + e) (h_q : Q ≤ q + e) where
  -- both powers grow by at most e
  pub widen : P * P + Q * Q ≤ p * p + q * q + 2 * (e * (p + q)) + 2 * (e * e)
  widen = omega (arith, sq_mono h_p, sq_mono h_q)

  module _ (d S : ℕ) (de : d * e ≤ S) where
    -- the same times d², where the pair before has d²(p² + q²) ≤ t² and e is at most S / d
    pub widen_scaled : (t : ℕ) → d * d * (p * p + q * q) ≤ t * t → d * d * (P * P + Q * Q) ≤ t * t + 3 * (t * S) + 2 * (S * S)
    widen_scaled t keeps =
        let x : 2 * (d * (p + q)) ≤ 3 * t = three_halves (d * (p + q)) t (omega (arith, mul-le-mul_left (d * d) (sq_sum p q))) in
        omega (arith, mul-le-mul_left (d * d) widen, mul-le-mul de x, sq_mono de)

    -- M-106, of every x that is P² + Q²: 4d²x ≤ (2d + 3)²S²
    pub closer : (x : ℕ) → x ≡ P * P + Q * Q → p * p + q * q ≤ S * S → 4 * (d * d) * x ≤ (2 * d + 3) * (2 * d + 3) * (S * S)
    closer x is keeps =
        omega (arith, ap (λ n. d * d * n) is, widen_scaled (d * S) (omega (arith, mul-le-mul_left (d * d) keeps)))

  -- M-109, of every x that is P² + Q²: where the pair before has the margin, d²(p² + q²) ≤ (d - 2)²S², both keep the limit
  pub margin : (d S : ℕ) → 2 ≤ d → d * e ≤ S → d * d * (p * p + q * q) ≤ (d - 2) * (d - 2) * (S * S) → (x : ℕ) → x ≡ P * P + Q * Q → x ≤ S * S
  margin d S two de keeps x is =
      let g : d - 2 + 2 ≡ d = omega arith in
      rw is (from (d - 2) (rw g de) (rw g keeps))
    where
      -- here d is f + 2
      from : (f : ℕ) → (f + 2) * e ≤ S → (f + 2) * (f + 2) * (p * p + q * q) ≤ f * f * (S * S) → P * P + Q * Q ≤ S * S
      from f de keeps = le_of_mul-le-mul_left {k = (f + 2) * (f + 2)} (omega (arith, widen_scaled (f + 2) S de (f * S) (omega arith))) (omega arith)
