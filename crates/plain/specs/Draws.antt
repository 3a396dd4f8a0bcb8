-- The draws of a seed.
use Rattle.std.specs.Prelude.{ℕ, ◌*◌, ◌/◌, ◌%◌, ◌^◌, ◌==◌, cond}

-- the seed after another
abbrev pub next_seed : ℕ → ℕ
next_seed seed = (seed * 48271) % 2 ^ 64 % 2147483647

-- the number from 0 to n - 1 that a seed draws; 0 where n is 0
abbrev pub drawn : ℕ → ℕ → ℕ
drawn seed n = cond (n == 0) 0 (seed / 16 % n)
