-- The strict planner (document 02, M-109): "Sites without overload margin need plans that truly keep S."
use Rattle.std.specs.Prelude.{ℕ, ◌*◌, ◌-◌, ◌<◌, ◌≤◌, ◌≡◌, Bool, not, ◌&&◌, List, [], ◌∷◌, eqb}
use Rattle.std.proofs.Math.Option.{Option, some}
use Rattle.model.specs.declared.Refusal.TheVariants.{TooCoarse}
use Rattle.model.specs.Lists.{keep, all, same_lists}
use Rattle.model.specs.Frames.{after_line}
use Rattle.model.specs.Refusals.{Result, done, ◌⇒◌, first, checked, and_then}
use Rattle.model.specs.Book.{Settings, Problem, read_book}
use Rattle.model.specs.Choice.{Choice, IsChoice, choices, worth_of, square}
use Rattle.model.specs.MustRun.{RunsRequired}
use Rattle.model.specs.Grid.{Slot, slots_of, keeps_limits, grids_of, better, best, NoBetter, plan}
use Rattle.model.specs.Trials.{same_pair}
use Rattle.model.specs.Answers.{Output}
use Rattle.model.specs.Calls.{fitting, plan_sheet, planner_result, free_for}
use Rattle.model.specs.Demand.{Past12, NumberIs, T, S, apparent_squared_in, KeepsLimits, OnSheet}

-- ---- the strict plan

-- two choices have the same grid pairs, slot by slot
abbrev pub same_pairs : List Slot → Choice → Choice → Bool
same_pairs slots c d = same_lists same_pair (grids_of slots c) (grids_of slots d)

-- "The new planner compares one choice for each list of grid pairs: the greatest worth, then smallest code, that has those pairs": of the choices with the
-- pairs of c none is better than c. Of these choices, as "Must-run loads count as in M-105", each runs every load that must run (MustRun, `ChoicesRun`)
abbrev pub compared : List Slot → List Settings → Choice → Bool
compared slots loads c = all (λ d. not (same_pairs slots c d && better d c)) (choices loads)

-- a compared choice "that has P² + Q² ≤ S² in every slot"
abbrev pub compared_keeping : List Slot → List Settings → Choice → Bool
compared_keeping slots loads c = keeps_limits slots c && compared slots loads c

-- the best of these
unfoldable pub best_keeping : List Slot → List Settings → Option Choice
best_keeping slots loads = best (keep (compared_keeping slots loads) (choices loads))

-- "Of these it returns the best, by the same two rules, that has P² + Q² ≤ S² in every slot"
unfoldable pub strict_plan : Problem → Option Choice
strict_plan b = best_keeping (slots_of b) b.loads

-- the same two sentences as properties, without a test or an order of trying (proofs/StrictLaws, `strict_is`)
pub record Compared (b : Problem) (c : Choice) : Type 0 where
  pub choice : IsChoice b.loads c
  pub greatest : (other : Choice) → IsChoice b.loads other → grids_of (slots_of b) other ≡ grids_of (slots_of b) c → NoBetter other c

pub record IsStrictPlan (b : Problem) (c : Choice) : Type 0 where
  pub compared : Compared b c
  pub keeps : KeepsLimits b c
  pub greatest : (other : Choice) → Compared b other → KeepsLimits b other → NoBetter other c

-- there is exactly "one choice for each list of grid pairs" that a choice has (proofs/StrictLaws, `one_for-each`)
abbrev pub OneForEach : Type 0
OneForEach =
    (book : List ℕ) (b : Problem) → read_book book ≡ done b → (c : Choice) → IsChoice b.loads c
    → (d : Choice) × Compared b d × (grids_of (slots_of b) d ≡ grids_of (slots_of b) c)
    × ((other : Choice) → Compared b other → grids_of (slots_of b) other ≡ grids_of (slots_of b) c → other ≡ d)

-- ---- the call

-- "20 when d is 1, tried after 8", with line 0
abbrev pub fine : Problem → Result Problem
fine b = checked 0 (first ((eqb b.fineness 1 ⇒ TooCoarse) ∷ [])) (done b)

-- the book, after refusals 1 to 8, 20, and 9 to 11
unfoldable pub strict_book : List ℕ → ℕ → ℕ → Result Problem
strict_book bytes words room = and_then (and_then (read_book bytes) fine) (fitting words room)

-- the strict planner's result: 12 and 17 after these, or the sheet; "Its trials are the book's, as in the plain planner"
unfoldable pub strict_result : List ℕ → ℕ → ℕ → Result Output
strict_result bytes words room = and_then (strict_book bytes words room) (plan_sheet strict_plan)

-- 20 "changes no word of the work area"; else as the plain planner
unfoldable pub strict_free : List ℕ → ℕ → ℕ → ℕ
strict_free bytes words room = free_for (strict_book bytes words room)

-- ---- when there is a sheet

-- no refusal before 17 applies: none of 1 to 12, and not 20
pub record StrictPast (book : List ℕ) (words room : ℕ) (b : Problem) : Type 0 where
  pub past : Past12 book words room b
  pub fine_enough : b.fineness ≡ 1 → ⊥

-- one "of the compared choices fits"
pub record SomeKeeping (b : Problem) : Type 0 where
  pub choice : Choice
  pub compared : Compared b choice
  pub keeps : KeepsLimits b choice

-- "17 is given exactly when no refusal before it applies and none of the compared choices fits"
abbrev pub StrictAnswered : List ℕ → ℕ → ℕ → ℕ → Type 0
StrictAnswered book words room number = NumberIs (StrictPast book words room) SomeKeeping number

-- "a choice has d² × (P² + Q²) ≤ (d - 2)² × S² in every slot"; d is 2 or more here, as 20 comes before
abbrev pub HasMargin : Problem → Choice → Type 0
HasMargin b c = (slot : ℕ) → slot < T b → square b.fineness * apparent_squared_in slot c ≤ square (b.fineness - 2) * square (S b slot)

-- "If a choice has .. , the planner doesn't give 17": no choice of a book that gets 17 has the margin
abbrev pub NoMargin : List ℕ → Type 0
NoMargin book = (b : Problem) → read_book book ≡ done b → (c : Choice) → IsChoice b.loads c → HasMargin b c → ⊥

-- ---- of a sheet that was given, for a work area of so many words and a buffer with so much room

pub record NeverAbove (book : List ℕ) (words room : ℕ) (sheet : List ℕ) : Type 0 where
  -- the book as it is read, and the sheet's choice
  pub b : Problem
  pub reads : read_book book ≡ done b
  pub choice : Choice
  pub on_sheet : OnSheet b sheet choice
  -- it runs every load that must run
  pub runs : RunsRequired (after_line book) choice
  -- "plans that truly keep S"
  pub keeps : KeepsLimits b choice
  -- "and a sheet from it is worth at least as much"
  pub worth : (other : Choice) → IsChoice b.loads other → HasMargin b other → worth_of other ≤ worth_of choice
  -- the plain planner gives a sheet too, of at least that worth
  pub plain : (x : Output) × (planner_result book words room ≡ done x) × (worth_of choice ≤ x.worth)

-- WHERE THE PLAIN PLANNER'S PLAN KEEPS EVERY LIMIT, and d is not 1, the strict planner's result is the same (proofs/StrictGivenLaws, `same-sheet`)
abbrev pub SameSheet : Type 0
SameSheet =
    (book : List ℕ) (words room : ℕ) (b : Problem) → read_book book ≡ done b → (b.fineness ≡ 1 → ⊥) → (c : Choice) → plan b ≡ some c → KeepsLimits b c
    → strict_result book words room ≡ planner_result book words room
