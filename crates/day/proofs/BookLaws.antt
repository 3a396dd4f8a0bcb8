-- A book alone, in a buffer that is longer than every sheet: what it puts out, and the words that it may change.
-- Assumes nothing.
use mathlib.Core.Path.{◌≡◌, ap}
use mathlib.Core.List.{List}
use Prim.Native.Nat.{ℕ, ◌≤◌}
use Rattle.model.specs.Bounds.{most_sheet}
use Rattle.model.specs.Refusals.{and_then}
use Rattle.model.specs.Grid.{plan}
use Rattle.model.specs.Calls.{plan_sheet, planner_result, free_for, free_words}
use Rattle.model.specs.Program.{printed}
use Rattle.model.specs.Day.{book_output}
use Rattle.model.proofs.DayLaws.{long-suffices}

pub same_output : (words : ℕ) (book : List ℕ) (room : ℕ) → most_sheet ≤ room → printed (planner_result book words room) ≡ book_output words book
unfolding planner_result
same_output words book room h = ap (λ x. printed (and_then x (plan_sheet plan))) (long-suffices words book room h)

pub same-free : (words : ℕ) (book : List ℕ) (room : ℕ) → most_sheet ≤ room → free_words book words room ≡ free_words book words most_sheet
unfolding free_words
same-free words book room h = ap free_for (long-suffices words book room h)
