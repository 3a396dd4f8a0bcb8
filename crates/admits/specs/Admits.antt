-- The slots of which the numbers of the code speak, and what the test of a slot asks.
use Rattle.std.specs.Prelude.{ℕ, ◌+◌, ◌*◌, ◌<◌, ◌≤◌, ◌≡◌, List, length, get_or}
use Rattle.model.specs.Bounds.{most_loads, most_ratio}
use Rattle.grid.specs.declared.Grid.{Grid}
use Rattle.grid.specs.Geometry.{no_slot, Laid}

-- how large a reactive sum can be: b and the depth together are at most 3r × (R + N) steps, r is at most 3, N at most 24, and R × L and L are at most 65,535
abbrev pub most_reach : ℕ
most_reach = 3 * most_ratio * (most_loads + 1) * 65535

-- the numbers of one slot's test are small
pub record PairFits (a raised depth step count limit : ℕ) : Type 0 where
  pub active : a * step ≤ 65535
  pub reactive : (raised + depth) * step ≤ most_reach
  pub some_step : 0 < step
  pub step_fits : step ≤ 65535
  pub count_fits : count ≤ most_loads
  pub limit_fits : limit ≤ 65535

-- the slots of a grid, for `count` loads, with these limits
pub record SlotsHeld (grid : Grid) (count : ℕ) (limits : List ℕ) : Type 0 where
  pub laid : Laid grid
  pub loads_are : (t : ℕ) → t < length laid.slots → (get_or laid.slots t no_slot).loads ≡ count
  pub limits_are : (t : ℕ) → t < length laid.slots → get_or limits t 0 ≡ (get_or laid.slots t no_slot).limit
