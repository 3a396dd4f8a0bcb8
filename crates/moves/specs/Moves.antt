-- What the settings of a load do, and the settings of which a load's value speaks.
use Rattle.std.specs.Prelude.{ℕ, ◌+◌, ◌*◌, ◌^◌, ◌<◌, ◌≤◌, ◌≡◌, List, [], ◌∷◌, length, get_or}
use Rattle.model.specs.declared.Load.{Load}
use Rattle.model.specs.Lists.{Every}
use Rattle.model.specs.Bounds.{most_settings}
use Rattle.model.specs.Book.{Setting, Settings}
use Rattle.model.specs.Choice.{no_setting}
use Rattle.model.specs.Grid.{Slot}
use Rattle.model.specs.Valid.{Labelled, SettingSmall}
use Rattle.model.specs.Values.{load_value}
use Rattle.model.specs.Index.{row_index, column_up, column_down}
use Rattle.model.specs.Cells.{setting_grid, setting_grids}
use Rattle.stretch.specs.declared.LoadMoves.{LoadMoves}
use Rattle.stretch.specs.declared.SettingMove.{SettingMove}
use Rattle.stretch.specs.Stretch.{move_of}

abbrev pub no_moves : LoadMoves
no_moves = record { count = 0; moves = [] }

-- what the settings of load k + 1 do
abbrev pub moves_of : List LoadMoves → ℕ → LoadMoves
moves_of moves k = get_or moves k no_moves

-- from place t on, the grid values of a setting's P
abbrev pub ActivesAre : List ℕ → ℕ → List Slot → Setting → Type 0
ActivesAre active t [] v = Unit {0}
ActivesAre active t (s ∷ slots) v = (get_or active t 0 ≡ (setting_grid s v).p) × ActivesAre active (t + 1) slots v

-- `mv` is what the setting v of load k + 1 does
pub record MoveIs (slots : List Slot) (k : ℕ) (v : Setting) (mv : SettingMove) : Type 0 where
  pub gain_is : mv.gain ≡ v.worth
  pub digit_is : mv.digit ≡ v.number * 4 ^ k
  pub back_is : mv.back ≡ row_index slots (setting_grids slots v)
  -- only the difference of the two counts, so that both may be raised alike
  pub shift_is : mv.up + column_down slots (setting_grids slots v) ≡ mv.down + column_up slots (setting_grids slots v)
  pub actives_are : ActivesAre mv.active 0 slots v
  pub up_fits : mv.up ≤ 1099511627776
  pub down_fits : mv.down ≤ 1099511627776

-- `load` is what the settings of load k + 1 do, by ascending number
pub record LoadIs (slots : List Slot) (k : ℕ) (vs : Settings) (load : LoadMoves) : Type 0 where
  pub count_is : load.count ≡ length vs
  pub count_fits : length vs ≤ most_settings
  pub ascending : (m n : ℕ) → m < n → n < length vs → (get_or vs m no_setting).number < (get_or vs n no_setting).number
  pub each : (n : ℕ) → n < length vs → MoveIs slots k (get_or vs n no_setting) (move_of load n)

-- ---- what a load holds

-- the settings that a load's value holds
pub record LoadHeld (l : Load) : Type 0 where
  pub settings : Settings
  pub is : l ≡ load_value settings
  pub labels : Labelled settings
  pub small : Every SettingSmall settings
