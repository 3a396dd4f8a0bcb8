-- What the search asks can be met: one slot of limit 10 and step 1, and one load with standing, an option of (5, 5) and one of (5, -4).
-- Assumes nothing.
use Prim.Native.Nat.{ℕ, zero, suc, ◌*◌, ◌<◌, ◌≤◌}
use mathlib.Core.Path.{◌≡◌, refl}
use mathlib.Core.List.{List, [], ◌∷◌}
use native.Mathlib.Omega.{arith}
use lib.IntN.{pos, negsuc, nat_abs}
use lib.ListN.{get_or}
use Rattle.model.specs.Book.{Power, no_power, Setting, Settings}
use Rattle.model.specs.Choice.{no_setting}
use Rattle.model.specs.Grid.{Slot}
use Rattle.model.specs.Valid.{SettingKept}
use Rattle.grid.specs.declared.Grid.{Grid}
use Rattle.grid.specs.Geometry.{SlotIs, no_slot, no_sizes, entry_at}
use Rattle.stretch.specs.declared.LoadMoves.{LoadMoves}
use Rattle.stretch.specs.declared.SettingMove.{SettingMove}
use Rattle.stretch.specs.Stretch.{move_of}
use Rattle.moves.specs.Moves.{moves_of, MoveIs, LoadIs}
use Rattle.search.specs.Search.{Modelled}

abbrev slots : List Slot
slots = record { place = 0; limit = 10; step = 1; loads = 1; ratio = 1 } ∷ []

abbrev option : ℕ → Power → Setting
option number x = record { number = number; worth = 5; powers = x ∷ [] }

abbrev first : Power
first = record { p = 5; q = pos 5 }

abbrev second : Power
second = record { p = 5; q = negsuc 3 }

abbrev standing : Setting
standing = record { number = 0; worth = 0; powers = no_power ∷ [] }

abbrev settings : Settings
settings = standing ∷ option 1 first ∷ option 2 second ∷ []

abbrev still : SettingMove
still = record { gain = 0; digit = 0; back = 0; up = 0; down = 0; active = 0 ∷ 0 ∷ 0 ∷ 0 ∷ [] }

abbrev load : LoadMoves
load =
    record {
      count = 3;
      moves =
          still
          ∷ record { gain = 5; digit = 1; back = 5; up = 5; down = 0; active = 5 ∷ 0 ∷ 0 ∷ 0 ∷ [] }
          ∷ record { gain = 5; digit = 2; back = 5; up = 0; down = 4; active = 5 ∷ 0 ∷ 0 ∷ 0 ∷ [] }
          ∷ still
          ∷ [];
    }

abbrev grid : Grid
grid =
    record {
      slots = 1;
      sizes = record { step = 1; top = 11; width = 22; depth = 11 } ∷ no_sizes ∷ no_sizes ∷ no_sizes ∷ [];
      rows = 11;
      width = 22;
      cells = 242;
      origin = 11;
    }

each_slot : (t : ℕ) → t < 1 → SlotIs (get_or slots t no_slot) (entry_at grid t)
each_slot zero l = record { step_is = refl; top_is = refl; width_is = refl; depth_is = refl }
each_slot (suc t) l = absurd (omega arith)

kept-standing : SettingKept 1 standing
kept-standing zero = omega arith
kept-standing (suc place) = omega arith

kept-option : (number : ℕ) (x : Power) → nat_abs x.q ≤ 1 * x.p → SettingKept 1 (option number x)
kept-option number x h zero = h
kept-option number x h (suc place) = omega arith

numbers : (n : ℕ) → n < 3 → (get_or settings n no_setting).number ≡ n
numbers zero l = refl
numbers (suc zero) l = refl
numbers (suc (suc zero)) l = refl
numbers (suc (suc (suc n))) l = absurd (omega arith)

each_setting : (n : ℕ) → n < 3 → MoveIs slots 0 (get_or settings n no_setting) (move_of load n)
each_setting zero l = record { gain_is = refl; digit_is = refl; back_is = refl; shift_is = refl; actives_are = (refl, tt); up_fits = omega arith; down_fits = omega arith }
each_setting (suc zero) l = record { gain_is = refl; digit_is = refl; back_is = refl; shift_is = refl; actives_are = (refl, tt); up_fits = omega arith; down_fits = omega arith }
each_setting (suc (suc zero)) l = record { gain_is = refl; digit_is = refl; back_is = refl; shift_is = refl; actives_are = (refl, tt); up_fits = omega arith; down_fits = omega arith }
each_setting (suc (suc (suc n))) l = absurd (omega arith)

each_load : (k : ℕ) → k < 1 → LoadIs slots k (get_or (settings ∷ []) k []) (moves_of (load ∷ []) k)
each_load zero l =
    record {
      count_is = refl;
      count_fits = omega arith;
      ascending = λ m n h k. let i : m < 3 = omega arith in omega (arith, numbers m i, numbers n k);
      each = each_setting;
    }
each_load (suc k) l = absurd (omega arith)

pub example : Modelled grid 1 (load ∷ [])
example =
    record {
      r = 1;
      slots = slots;
      loads = settings ∷ [];
      ready =
          record {
            for = ((omega arith, refl, refl), tt);
            some_ratio = omega arith;
            few = omega arith;
            keeps = ((kept-standing, (kept-option 1 first (omega arith), (kept-option 2 second (omega arith), tt))), tt);
          };
      loads_are = refl;
      loads_fit = omega arith;
      some_load = omega arith;
      some_slot = omega arith;
      small = (((omega arith, omega arith), ((omega arith, omega arith), ((omega arith, omega arith), tt))), tt);
      grid_is = record { slots_are = refl; slots_fit = omega arith; each = each_slot; rows_are = refl; width_is = refl; cells_are = refl; cells_fit = omega arith; origin_is = refl };
      each = each_load;
    }
