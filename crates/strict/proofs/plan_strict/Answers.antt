-- `strict::plan_strict` meets its contract: it is `plan_by` with the strict test, and the theorems follow from what that writes.
use mathlib.Core.Path.{sym, ap, subst, ◌∙◌}
use lib.ListN.{length}
use Rattle.model.specs.declared.Answer.{Answer}
use Rattle.model.specs.Answers.{Writes}
use Rattle.model.specs.Strict.{strict_result, NeverAbove}
use Rattle.model.proofs.StrictGivenLaws.{strict_answered_as, never_above, no_margin}
use Rattle.strict.proofs.plan_strict.Goals as goal

pub returns : goal.returns
returns c =
    let a = c.args in
    let words = length a.work.now in
    let room = length a.sheet.now in
    let w : Writes (strict_result a.book.now words room) a.sheet.now _ _ = c.plan_by.ensures.result in
    let e = ap (λ (x : Answer). x.number) w.answers in
    record {
      result = w;
      words = c.plan_by.ensures.words;
      answered = strict_answered_as a.book.now words room _ w.answers;
      keeps = λ n. subst (NeverAbove a.book.now words room) (sym w.leaves) (never_above a.book.now words a.sheet.now (sym e ∙ n));
      margin = λ n. no_margin a.book.now words room (sym e ∙ n);
    }
