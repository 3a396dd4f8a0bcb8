-- The loads that run, by the numbers c in an array, and the load that is started next. Load k + 1 is at place k.
use Rattle.std.specs.Prelude.{ℕ, zero, suc, ◌-◌, ◌<◌, ◌≤◌, ◌≡◌, Bool, true, false, not, ◌&&◌, ◌||◌, List, eqb, ltb, length, get_or, Option, None, Some}
use Rattle.model.specs.Bounds.{most_loads}
use Rattle.model.specs.Lists.{within}
use Rattle.model.specs.Order.{Running}

-- of n loads, those that run
abbrev pub running_in : ℕ → List ℕ → Running
running_in n picks zero = false
running_in n picks (suc k) = ltb k n && not (eqb (get_or picks k 0) 0)

-- a name other than 0 of the load at place k that is not the number of a higher load of n
abbrev pub bad_name_at : ℕ → ℕ → ℕ → Bool
bad_name_at n name k = not (eqb name 0) && not (within (suc (suc k)) n name)

-- the load at place k stands in one array and runs in the other
abbrev pub starts_at : List ℕ → List ℕ → ℕ → Bool
starts_at on planned k = eqb (get_or on k 0) 0 && not (eqb (get_or planned k 0) 0)

-- no load is named, or the named load runs
abbrev pub served : List ℕ → ℕ → Bool
served on name = eqb name 0 || not (eqb (get_or on (name - 1) 0) 0)

-- the load at place k starts, and its named load stands in the new sheet
abbrev pub blocked_at : List ℕ → List ℕ → ℕ → ℕ → Bool
blocked_at running planned name k = starts_at running planned k && not (served planned name)

-- the load at place k is left, and may start
abbrev pub may_start_at : List ℕ → List ℕ → ℕ → ℕ → Bool
may_start_at on planned name k = starts_at on planned k && served on name

-- every name is 0 or the number of a load, and there are no more than 24
pub record NamesInside (names : List ℕ) : Type 0 where
  pub few : length names ≤ most_loads
  pub inside : (k : ℕ) → k < length names → get_or names k 0 ≤ length names

-- the lowest place of a load that may start
pub record Lowest (on planned names : List ℕ) (k : ℕ) : Type 0 where
  pub inside : k < length names
  pub may : may_start_at on planned (get_or names k 0) k ≡ true
  pub before : (j : ℕ) → j < k → may_start_at on planned (get_or names j 0) j ≡ false

-- this place; or there is none
abbrev pub Found : List ℕ → List ℕ → List ℕ → Option ℕ → Type 0
Found on planned names None = (j : ℕ) → j < length names → may_start_at on planned (get_or names j 0) j ≡ false
Found on planned names (Some k) = Lowest on planned names k
