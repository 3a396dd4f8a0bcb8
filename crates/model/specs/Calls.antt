-- The planner's result, and which words it may change (document 01, "Trials and the work area", "Refusals by number" 9 to 12; document 02, M-104, M-105 and M-108;
-- what M-109's planner shares with it).
use Rattle.std.specs.Prelude.{ℕ, List, [], ◌∷◌, ltb}
use Rattle.std.proofs.Math.Option.{Option, none, some}
use Rattle.model.specs.declared.Refusal.TheVariants.{TooManyCells, WorkTooSmall, BudgetExceeded, NoPlan}
use Rattle.model.specs.Bounds.{most_cells}
use Rattle.model.specs.Refusals.{Result, refused, done, Rule, ◌⇒◌, first, checked, and_then}
use Rattle.model.specs.Book.{Problem, read_book}
use Rattle.model.specs.Choice.{Choice}
use Rattle.model.specs.Grid.{plan}
use Rattle.model.specs.Trials.{cells, needed_words, trials}
use Rattle.model.specs.Answers.{Output, room_rule}
use Rattle.model.specs.Sheet.{sheet_of, sheet_length}

-- "Then 8 to 13", with line 0. 9: "cells over 1,048,576"; 10: "work area under 4 × cells words", both by M-108's cells; 11: "buffer shorter than the sheet"
unfoldable pub size_rules : Problem → ℕ → ℕ → List Rule
size_rules b words room =
    (ltb most_cells (cells b) ⇒ TooManyCells)
    ∷ (ltb words (needed_words b) ⇒ WorkTooSmall)
    ∷ room_rule (sheet_length b) room
    ∷ []

-- a book that was read, after refusals 9 to 11, for a work area of so many words and a buffer with room for so many bytes
abbrev pub fitting : ℕ → ℕ → Problem → Result Problem
fitting words room b = checked 0 (first (size_rules b words room)) (done b)

-- the book, after refusals 1 to 11
unfoldable pub fitting_book : List ℕ → ℕ → ℕ → Result Problem
fitting_book bytes words room = and_then (read_book bytes) (fitting words room)

-- 17 (document 02, M-104): "when no choice is admitted", as "All standing may now break a limit"; document 01's "The choice of all standing always is"
-- went with that; M-105: when none is admitted of "the choices that run every such load", as a book has no others; M-109: when "none of the compared choices
-- fits". "numbers from 14 on carry line 0".
-- Else the plan's sheet: "The result carries the planner's count, and it equals this number"
abbrev pub planned : Problem → Option Choice → Result Output
planned b none = refused NoPlan 0
planned b (some c) = done (sheet_of b c (trials b))

-- 12: "trials over the budget"; 17 "comes after 12". `p` says which choice is the plan of a book, if it has one
unfoldable pub plan_sheet : (Problem → Option Choice) → Problem → Result Output
plan_sheet p b = checked 0 (first ((ltb b.budget (trials b) ⇒ BudgetExceeded) ∷ [])) (planned b (p b))

-- the planner's result, of the book's bytes, the number of words and the room: "no answer depends on what they held before"
unfoldable pub planner_result : List ℕ → ℕ → ℕ → Result Output
planner_result bytes words room = and_then (fitting_book bytes words room) (plan_sheet plan)

-- "Refusals 1 to 11 change no word of the work area"; after a sheet or refusal 12 the needed words are free; 17 "leaves the
-- needed words as free as 12 does"
abbrev pub free_for : Result Problem → ℕ
free_for (refused r number) = 0
free_for (done b) = needed_words b

unfoldable pub free_words : List ℕ → ℕ → ℕ → ℕ
free_words bytes words room = free_for (fitting_book bytes words room)
