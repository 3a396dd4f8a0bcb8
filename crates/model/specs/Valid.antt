-- A valid book: what is known of every book that was read (proofs/ValidLaws, `book-valid`), for the planners to cite.
use Rattle.std.specs.Prelude.{ℕ, suc, ◌+◌, ◌*◌, ◌^◌, ◌<◌, ◌≤◌, ◌≡◌, List, [], ◌∷◌, nat_abs, length}
use Rattle.model.specs.Lists.{Every}
use Rattle.model.specs.Bounds.{most_slots, most_loads, most_fineness, most_ratio, most_options, most_limit, most_settings, most_book}
use Rattle.model.specs.Refusals.{done}
use Rattle.model.specs.Book.{Setting, Settings, Problem, read_book}
use Rattle.model.specs.Choice.{least_of, power_in}
use Rattle.model.specs.Grid.{Slot}

-- |Q| ≤ r × P in every slot (document 02, M-108); document 01 has "|Q| ≤ P", which is r = 1
abbrev pub SettingKept : ℕ → Setting → Type 0
SettingKept r v = (slot : ℕ) → nat_abs (power_in slot v).q ≤ r * (power_in slot v).p

-- the settings have the numbers i, i + 1, ..
abbrev pub Numbered : ℕ → Settings → Type 0
Numbered i [] = Unit {0}
Numbered i (v ∷ vs) = (v.number ≡ i) × Numbered (suc i) vs

-- a load's numbers go from its least, which is 0, or 1 where it must run, up to o, 1 to 3
pub record Labelled (vs : Settings) : Type 0 where
  pub numbered : Numbered (least_of vs) vs
  pub least : least_of vs ≤ 1
  pub several : 1 < least_of vs + length vs
  pub few : least_of vs + length vs ≤ most_settings

-- worth and P are below 2^16, and |Q| is at most 2^15
pub record SettingSmall (v : Setting) : Type 0 where
  pub worth : v.worth < 65536
  pub active : (slot : ℕ) → (power_in slot v).p < 65536
  pub reactive : (slot : ℕ) → nat_abs (power_in slot v).q ≤ 32768

-- what is known of n loads in t slots that were read, at ratio r
pub record ValidLoads (n t r : ℕ) (loads : List Settings) : Type 0 where
  pub count : length loads ≡ n
  pub keeps : Every (Every (SettingKept r)) loads
  pub labels : Every Labelled loads
  pub powers : Every (Every (λ v. length v.powers ≡ t)) loads
  pub small : Every (Every SettingSmall) loads

-- document 01's ranges, and M-108's of the ratio
pub record ValidBook (b : Problem) : Type 0 where
  pub loads : ValidLoads (length b.loads) (length b.limits) b.ratio b.loads
  pub slots_some : 1 ≤ length b.limits
  pub slots_few : length b.limits ≤ most_slots
  pub loads_some : 1 ≤ length b.loads
  pub loads_few : length b.loads ≤ most_loads
  pub fine_some : 1 ≤ b.fineness
  pub fine_few : b.fineness ≤ most_fineness
  pub ratio_some : 1 ≤ b.ratio
  pub ratio_few : b.ratio ≤ most_ratio
  pub budget_small : b.budget < 2 ^ 32
  pub limits_small : Every (λ s. s ≤ most_limit) b.limits

-- no book that is read is longer than 3,515 bytes (proofs/LengthLaws, `longest_book`)
abbrev pub LongestBook : Type 0
LongestBook = (book : List ℕ) (b : Problem) → read_book book ≡ done b → length book ≤ most_book

-- ---- what the search asks of slots and loads

-- what the slots of a book for n loads at ratio r have
abbrev pub SlotsFor : ℕ → ℕ → List Slot → Type 0
SlotsFor r n [] = Unit {0}
SlotsFor r n (s ∷ slots) = ((0 < s.step) × (s.loads ≡ n) × (s.ratio ≡ r)) × SlotsFor r n slots

-- a book's slots and loads, as the reader makes them: n loads in all, of which `loads` are the first, with |Q| ≤ r × P
pub record Ready (r n : ℕ) (slots : List Slot) (loads : List Settings) : Type 0 where
  pub for : SlotsFor r n slots
  pub some_ratio : 0 < r
  pub few : length loads ≤ n
  pub keeps : Every (Every (SettingKept r)) loads

-- a setting adds at most `top` to the worth, and its number is at most 3
abbrev pub SettingBelow : ℕ → Setting → Type 0
SettingBelow top v = (v.worth ≤ top) × (v.number ≤ most_options)
