-- What a comparison leaves in the tally.
use Rattle.std.specs.Prelude.{ℕ, ◌+◌, ◌%◌, ◌^◌, Bool, not, cond, List}
use Rattle.kinds.specs.Tally.{counted}

-- one more answer of a call by the number that was wanted, and one more comparison
abbrev pub compared : List ℕ → ℕ → ℕ → List ℕ
compared counts call number = counted (counted counts ((call + number) % 2 ^ 64)) 69

-- the same, and one more that differs unless it is the same
abbrev pub settled : List ℕ → ℕ → ℕ → Bool → List ℕ
settled counts call number same = cond (not same) (counted (compared counts call number) 70) (compared counts call number)
