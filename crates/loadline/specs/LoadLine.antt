-- What the functions of a load line ask of it, and the value that holds a power.
use Rattle.std.specs.Prelude.{ℕ, ◌≤◌, ◌≡◌, List, length}
use Rattle.model.specs.Book.{Power, option_count, standing_pairs, option_start}
use Rattle.model.specs.Values.{raised}
use Rattle.model.specs.Bounds.{most_slots, most_options}
use Rattle.loadline.specs.declared.PowerValue.{PowerValue}

-- the value that holds a power
abbrev pub power_value : Power → PowerValue
power_value x = record { active = x.p; reactive = raised x.q }

-- a load line of t slots, with so many pairs for standing and o options
pub record LoadLine (t pairs o : ℕ) (line : List ℕ) : Type 0 where
  pub slots : t ≤ most_slots
  pub carried : pairs ≡ standing_pairs t line
  pub some : 1 ≤ o
  pub options : o ≤ most_options
  pub stated : o ≡ option_count line
  pub long : length line ≡ option_start t pairs o
