-- Rounding without the branch (document 02, M-102): the grid value of a Q by arithmetic that asks for no sign.
use Rattle.std.specs.Prelude.{ℕ, ◌*◌, ◌≤◌, ◌≡◌, ℤ, pos, nat_abs, ◌+ℤ◌, ◌-ℤ◌}
use Rattle.std.specs.Int.Signed.{quot_z}
use Rattle.model.specs.Grid.{floor_div}

-- "add 32,768 × L, divide by L, take 32,768 off again"; the division is a machine's, which rounds toward zero
abbrev pub floor_by_sum : ℤ → ℕ → ℤ
floor_by_sum q l = quot_z (q +ℤ pos (32768 * l)) (pos l) -ℤ pos 32768

-- "For every Q of 16 bits and every L from 1 to 65,535, shown once over L, this is document 01's grid value" (proofs/RoundingLaws, `rounding`);
-- a Q of 16 bits has |Q| ≤ 32,768
abbrev pub Rounding : Type 0
Rounding = (q : ℤ) (l : ℕ) → nat_abs q ≤ 32768 → 1 ≤ l → l ≤ 65535 → floor_by_sum q l ≡ floor_div q l
