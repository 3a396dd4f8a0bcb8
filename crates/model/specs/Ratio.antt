-- Poorer power factors (document 02, M-108). A book has a ratio r (Book, `ratio_in`). Refusals 6 and 7 go by it (Book, `header_rules`, `some_exceeds`) and the number
-- of cells (Trials, `width_of`), and by that 9, 10, the needed words and the layout of the table (Index). Grid, admission, plan and trials (Grid, Trials), the
-- strict plan (Strict) and the bounds of demand 3 and M-106 (Demand) do not. Here is what that means, whichever the ratio.
use Rattle.std.specs.Prelude.{ℕ, ◌≤◌, ◌≡◌, List, take}
use Rattle.model.specs.Lists.{Every}
use Rattle.model.specs.Bounds.{most_ratio}
use Rattle.model.specs.Refusals.{done}
use Rattle.model.specs.Book.{Problem, read_book}
use Rattle.model.specs.Choice.{Choice, IsChoice}
use Rattle.model.specs.Grid.{slots_of, grid_in, plan}
use Rattle.model.specs.Trials.{grid_top}
use Rattle.model.specs.Valid.{SettingKept}
use Rattle.model.specs.Index.{Within}
use Rattle.model.specs.Calls.{plan_sheet}
use Rattle.model.specs.Quick.{quick_sheet}
use Rattle.model.specs.Strict.{strict_plan}

-- "The promise of every option and standing pair becomes |Q| ≤ r × P", with "a ratio r from 1 to 3" (proofs/RatioLaws, `promise_kept`)
abbrev pub PromiseKept : Type 0
PromiseKept =
    (book : List ℕ) (b : Problem) → read_book book ≡ done b → (1 ≤ b.ratio) × (b.ratio ≤ most_ratio) × Every (Every (SettingKept b.ratio)) b.loads

-- "The grid pairs of a slot become (R + 1) × (2rR + (2r - 1) × N + 1)": among these is every pair that a choice of loads 1 to k, summed over those alone, has in a
-- slot in which its a is at most R (proofs/RatioLaws, `pairs_within`)
abbrev pub PairsWithin : Type 0
PairsWithin =
    (book : List ℕ) (b : Problem) → read_book book ≡ done b → (k : ℕ) (c : Choice) → IsChoice (take k b.loads) c
    → Every (λ s. (grid_in s c).p ≤ grid_top s → Within s (grid_in s c)) (slots_of b)

-- a book with another ratio
abbrev pub with_ratio : ℕ → Problem → Problem
with_ratio r b = record { fineness = b.fineness; ratio = r; budget = b.budget; limits = b.limits; loads = b.loads }

-- NO SHEET DEPENDS ON THE RATIO: past 9 to 11 the planner's sheet, 12 and 17 are the same for every r, the strict planner's (M-109) too, and so is what the quick
-- planner gives (proofs/RatioLaws, `same-plan`). So r decides only which books are refused by 6, 7, 9 and 10, and how many words are needed.
abbrev pub SamePlan : Type 0
SamePlan =
    (r : ℕ) (b : Problem)
    → (plan_sheet plan (with_ratio r b) ≡ plan_sheet plan b)
    × (plan_sheet strict_plan (with_ratio r b) ≡ plan_sheet strict_plan b)
    × ((room : ℕ) → quick_sheet room (with_ratio r b) ≡ quick_sheet room b)
