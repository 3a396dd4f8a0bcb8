-- What the search of a book finds.
use Rattle.std.specs.Prelude.{ℕ, cond, ltb, Ok, Err, Some, None}
use Rattle.std.specs.Prelude as std
use Rattle.std.proofs.Math.Option.{Option, none, some}
use Rattle.model.specs.declared.Refusal.{Refusal}
use Rattle.model.specs.declared.Refusal.TheVariants.{BudgetExceeded}
use Rattle.model.specs.Book.{Problem}
use Rattle.model.specs.Choice.{Choice, code_of}
use Rattle.model.specs.Grid.{plan}
use Rattle.model.specs.Strict.{strict_plan}
use Rattle.model.specs.Trials.{trials}
use Rattle.scan.specs.declared.Test.{Test}
use Rattle.scan.specs.declared.Test.TheVariants.{Admission, TrueSums}
use Rattle.found.specs.declared.Planned.{Planned}

-- the plan, by the test of the last layer's cells: the plain planner's, or the strict planner's
abbrev pub plan_by : Test → Problem → Option Choice
plan_by Admission = plan
plan_by TrueSums = strict_plan

-- the code of a plan, where there is one
abbrev pub plan_code : Option Choice → std.Option ℕ
plan_code none = None
plan_code (some c) = Some (code_of c)

-- what the search finds: 12 where the book's trials are over the budget; else the trials, and the plan's code
unfoldable pub found_for : Test → Problem → std.Result Planned Refusal
found_for test b = cond (ltb b.budget (trials b)) (Err BudgetExceeded) (Ok (record { trials = trials b; code = plan_code (plan_by test b) }))
