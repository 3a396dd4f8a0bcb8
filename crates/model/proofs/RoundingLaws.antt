-- Rounding without the branch (M-102): what is divided is not negative, so that its plain quotient is the grid value, 32,768 too high.
-- Shown over Q and L. Assumes nothing.
use Prim.Native.Nat.{ℕ, suc, ◌+◌, ◌-◌, ◌*◌, ◌/◌, ◌≤◌}
use mathlib.Core.Path.{◌≡◌, ap, ◌∙◌}
use native.Mathlib.Nat.{div-eq_of_lt-le, div-le_self, div-add-mod', mod-lt}
use native.Mathlib.Omega.{arith}
use lib.IntN.{ℤ, pos, negsuc, nat_abs, ◌+ℤ◌, ◌-ℤ◌}
use lib.Signed.{quot_z}
use Rattle.model.specs.Grid.{floor_div}
use Rattle.model.specs.Values.{raised}
use Rattle.model.specs.Index.{up, down}
use Rattle.model.specs.Rounding.{Rounding}
use Rattle.model.proofs.IntegerLaws.{sub_pos, abs_is}
use Rattle.model.proofs.ValueLaws.{raised_back}

-- "add 32,768 × L": the sum is not negative
added : (q : ℤ) (l : ℕ) → 1 ≤ l → nat_abs q ≤ 32768 → q +ℤ pos (32768 * l) ≡ pos (32768 * l + up q - down q)
added (pos n) l one h = ap {B = ℤ} pos (omega arith)
added (negsuc n) l one h = sub_pos (32768 * l) (suc n) (omega arith) ∙ ap {B = ℤ} pos (omega arith)

-- "divide by L": the quotient of what is Q + 32,768 × L is the grid value + 32,768
pub divided : (q : ℤ) (l n : ℕ) → 1 ≤ l → nat_abs q ≤ 32768 → n + down q ≡ 32768 * l + up q → n / l ≡ raised (floor_div q l)
unfolding raised
divided (pos m) l n one h e =
    div-eq_of_lt-le l (omega (arith, div-add-mod' m l)) (omega (arith, div-add-mod' m l, mod-lt m one))
divided (negsuc m) l n one h e =
    let less : m / l ≤ 32767 = omega (arith, div-le_self m l) in
    let k : 32767 - m / l + m / l ≡ 32767 = omega arith in
    let t : (32767 - m / l) * l + m / l * l ≡ 32767 * l = omega (arith, ap (λ x. x * l) k) in
    div-eq_of_lt-le l (omega (arith, div-add-mod' m l, mod-lt m one)) (omega (arith, div-add-mod' m l, mod-lt m one))

pub floor_small : (q : ℤ) (l : ℕ) → nat_abs q ≤ 32768 → nat_abs (floor_div q l) ≤ 32768
floor_small (pos n) l h = omega (arith, div-le_self n l)
floor_small (negsuc n) l h = omega (arith, div-le_self n l)

-- M-102
pub rounding : Rounding
rounding q l h one most =
    ap (λ x. quot_z x (pos l) -ℤ pos 32768) (added q l one h)
    ∙ ap (λ n. pos n -ℤ pos 32768) (divided q l _ one h (omega (arith, abs_is q)))
    ∙ raised_back (floor_div q l) (floor_small q l h)
