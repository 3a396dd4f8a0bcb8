-- `planner::plan` meets its contract: it is `plan_by` with the plain test, and demand 3 follows from what that writes.
use mathlib.Core.Path.{sym, ap, subst, ◌∙◌}
use lib.ListN.{length}
use Rattle.model.specs.declared.Answer.{Answer}
use Rattle.model.specs.Answers.{Writes}
use Rattle.model.specs.Calls.{planner_result}
use Rattle.model.specs.Demand.{Demand3}
use Rattle.model.proofs.SheetGivenLaws.{answered_as}
use Rattle.model.proofs.DemandLaws.{demand3}
use Rattle.planner.proofs.plan.Goals as goal

pub returns : goal.returns
returns c =
    let a = c.args in
    let words = length a.work.now in
    let room = length a.sheet.now in
    let w : Writes (planner_result a.book.now words room) a.sheet.now _ _ = c.plan_by.ensures.result in
    record {
      result = w;
      words = c.plan_by.ensures.words;
      answered = answered_as a.book.now words room _ w.answers;
      demand = λ n. subst (Demand3 a.book.now) (sym w.leaves) (demand3 a.book.now words a.sheet.now (sym (ap (λ (x : Answer). x.number) w.answers) ∙ n));
    }
