-- What the functions of the header ask of its line.
use Rattle.std.specs.Prelude.{ℕ, ◌+◌, ◌*◌, ◌≤◌, ◌≡◌, List, length}
use Rattle.model.specs.Book.{slot_count, ratio_digits}
use Rattle.model.specs.Bounds.{most_slots}

-- a header line of t slots
pub record HeaderLine (t : ℕ) (line : List ℕ) : Type 0 where
  pub few : t ≤ most_slots
  pub stated : t ≡ slot_count line
  pub long : length line ≡ 16 + ratio_digits line + 4 * t
