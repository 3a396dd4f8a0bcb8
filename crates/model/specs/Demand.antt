-- The buyer's demand 3, with M-104, M-105 and M-106 of document 02: when the planner gives a sheet, and what holds of the book's bytes and the bytes of the
-- sheet buffer after a call that gave one. M-108: "Everything said about best choice and overload holds for each r": it is said of every book that is read, and
-- no sentence of it asks for r.
use Rattle.std.specs.Prelude.{ℕ, ◌+◌, ◌*◌, ◌<◌, ◌≤◌, ◌≡◌, List, length, get_or}
use Rattle.model.specs.Bounds.{most_cells}
use Rattle.model.specs.Frames.{field, after_line}
use Rattle.model.specs.Refusals.{done}
use Rattle.model.specs.Book.{Problem, read_book}
use Rattle.model.specs.MustRun.{RunsRequired}
use Rattle.model.specs.Grid.{slots_of, Admitted}
use Rattle.model.specs.Trials.{cells, needed_words, trials}
use Rattle.model.specs.Sheet.{sheet_length}
use Rattle.model.specs.Choice.{Choice, IsChoice, no_setting, worth_of, sum_in, square, apparent_squared}

-- ---- "Whenever no refusal applies there is a sheet."

-- none of refusals 1 to 12 applies to these bytes, with so many words and so much room: 1 to 8, 9, 10, 11 and 12 do not
pub record Past12 (book : List ℕ) (words room : ℕ) (b : Problem) : Type 0 where
  pub reads : read_book book ≡ done b
  pub few : cells b ≤ most_cells
  pub wide : needed_words b ≤ words
  pub long : sheet_length b ≤ room
  pub enough : trials b ≤ b.budget

-- some choice of the book is admitted; the choices of a book run every load that must run (MustRun, `ChoicesRun`)
pub record SomeAdmitted (b : Problem) : Type 0 where
  pub choice : Choice
  pub of_book : IsChoice b.loads choice
  pub admissible : Admitted (slots_of b) choice

-- the number that a planner answers is 0 exactly where a book is past the refusals before 17 and has some plan, and 17 exactly where it is past them and has none
pub record NumberIs (Past SomePlan : Problem → Type 0) (number : ℕ) : Type 0 where
  pub sheet : (b : Problem) → Past b → SomePlan b → number ≡ 0
  pub sheet_only : number ≡ 0 → (b : Problem) × Past b × SomePlan b
  pub no_plan : (b : Problem) → Past b → (SomePlan b → ⊥) → number ≡ 17
  pub no_plan_only : number ≡ 17 → (b : Problem) × Past b × (SomePlan b → ⊥)

-- the planner's number is 0 exactly where no refusal applies, and 17 exactly where none of 1 to 12 does and "no choice is admitted" (M-104);
-- M-105: "exactly when no refusal before it applies and none of those is admitted", of "the choices that run every such load"
abbrev pub Answered : List ℕ → ℕ → ℕ → ℕ → Type 0
Answered book words room number = NumberIs (Past12 book words room) SomeAdmitted number

-- ---- of a sheet that was given

-- P² + Q², of a choice's true sums in a slot; slots are counted from 0 to T - 1
abbrev pub apparent_squared_in : ℕ → Choice → ℕ
apparent_squared_in slot c = apparent_squared (sum_in slot c)

-- the limit there
abbrev pub S : Problem → ℕ → ℕ
S b slot = get_or b.limits slot 0

abbrev pub T : Problem → ℕ
T b = length b.limits

abbrev pub N : Problem → ℕ
N b = length b.loads

-- a choice "that keeps P² + Q² ≤ S² in every slot"
abbrev pub KeepsLimits : Problem → Choice → Type 0
KeepsLimits b c = (slot : ℕ) → slot < T b → apparent_squared_in slot c ≤ square (S b slot)

-- "the sheet's choice": one setting for each load of the book, whose number c and whose worth stand on the sheet's first line
pub record OnSheet (b : Problem) (sheet : List ℕ) (choice : Choice) : Type 0 where
  pub of_book : IsChoice b.loads choice
  pub numbers : (k : ℕ) → k < N b → field sheet (18 + 2 * k) 2 ≡ (get_or choice k no_setting).number
  pub worth : field sheet 2 8 ≡ worth_of choice

-- M-106's "(2d + 3)² × S²", which 4 × d² × (P² + Q²) keeps to: the apparent power is at most 1 + 3/(2d) times the limit
abbrev pub closer_bound : ℕ → ℕ → ℕ
closer_bound d s = square (2 * d + 3) * square s

-- M-106: "each slot of its sheet keeps 4 × d² × (P² + Q²) at or below (2d + 3)² × S²"
abbrev pub CloserOverload : Problem → Choice → Type 0
CloserOverload b choice = (slot : ℕ) → slot < T b → 4 * square b.fineness * apparent_squared_in slot choice ≤ closer_bound b.fineness (S b slot)

pub record Demand3 (book sheet : List ℕ) : Type 0 where
  -- the book as it is read, with N loads and fineness d, and the sheet's choice
  pub b : Problem
  pub reads : read_book book ≡ done b
  pub choice : Choice
  pub on_sheet : OnSheet b sheet choice
  -- it runs every load that must run
  pub runs : RunsRequired (after_line book) choice
  -- "the sheet's choice is worth at least as much as every other choice that keeps P² + Q² ≤ S² in every slot"; M-104: "among choices summed this way";
  -- M-105: "among the choices that run every such load", which these are (MustRun, `ChoicesRun`)
  pub worth : (other : Choice) → IsChoice b.loads other → KeepsLimits b other → worth_of other ≤ worth_of choice
  -- the next three have no condition on other choices: "whether or not another choice keeps the limits"
  pub closer : CloserOverload b choice
  -- "The older bound then follows from this one": "it keeps d²(P² + Q²) ≤ (d + 2)²S² in every slot"
  pub overload : (slot : ℕ) → slot < T b → square b.fineness * apparent_squared_in slot choice ≤ square (b.fineness + 2) * square (S b slot)
  -- "and P² + Q² ≤ S² in every slot where S < 2Nd"
  pub exact : (slot : ℕ) → slot < T b → S b slot < 2 * (N b * b.fineness) → apparent_squared_in slot choice ≤ square (S b slot)
