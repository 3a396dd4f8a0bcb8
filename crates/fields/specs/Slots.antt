-- Q, the step and R, in plain numbers.
use Rattle.std.specs.Prelude.{ℕ, ◌+◌, ◌-◌, ◌*◌, ◌/◌, ◌%◌, ◌^◌, ◌==◌, cond, max, nat_lt, count_by, slice_index, List}
use Rattle.std.specs.List.{range_with_len}

-- the 16 bits of a Q that lies this far below 0
abbrev pub negative_bits : ℕ → ℕ
negative_bits far = cond (far == 0) 0 (65536 - far)

-- the 16 bits of a Q that lies so far above 0 and so far below
abbrev pub reactive_bits : ℕ → ℕ → ℕ
reactive_bits up down = (up + negative_bits down) % 2 ^ 64

-- N × d
abbrev pub parts_of : ℕ → ℕ → ℕ
parts_of fineness loads = (fineness * loads) % 2 ^ 64

-- "the step L is S div (N × d), but at least 1"
abbrev pub step_of : ℕ → ℕ → ℕ
step_of limit parts = max (cond (parts == 0) 0 (limit / parts)) 1

-- how many of the first slots have a step above 1
abbrev pub steps_above : List ℕ → ℕ → ℕ → ℕ
steps_above limits parts slots = count_by (λ slot. nat_lt 1 (step_of (slice_index limits slot) parts)) (range_with_len 0 slots)
