-- `planner::plan_by` meets its contract: a refusal of the book is passed on, then comes 20, and else the book is planned.
use mathlib.Core.Path.{sym, ap, subst, ◌∙◌}
use lib.ListN.{length}
use Rattle.model.specs.Refusals.{and_then}
use Rattle.model.specs.Trials.{WordsKept}
use Rattle.model.proofs.AnswerLaws.{writes-same, refused-writes}
use Rattle.model.proofs.ReadingLaws.{reading_held, reading_done, reading_refused}
use Rattle.planner.specs.Planner.{fitted_plan}
use Rattle.planner.proofs.CallLaws.{fine_plan, result_is, too_coarse, fitted_result, fitted-free}
use Rattle.planner.proofs.plan_by.Goals as goal

pub returns-in-Err-clause-result : goal.returns-in-Err-clause-result
returns-in-Err-clause-result c =
    let a = c.args in
    let words = length a.work.now in
    let room = length a.sheet.now in
    writes-same (sym (result_is words room a.test a.book.now))
    (reading_refused a.book.now c.in-Err.refused c.in-Err.ensures (fine_plan words room a.test) a.sheet.now _ c.from.ensures)

pub returns-then-too_coarse-clause-result : goal.returns-then-too_coarse-clause-result
returns-then-too_coarse-clause-result c =
    let a = c.args in
    let words = length a.work.now in
    let room = length a.sheet.now in
    let coarse = too_coarse a.test c.in-Ok.read (sym c.too_coarse.ensures ∙ c.if-too_coarse.true) in
    refused-writes _ _ _ a.sheet.now _ c.refusal.ensures
    (result_is words room a.test a.book.now
    ∙ sym (reading_done a.book.now c.in-Ok.read c.in-Ok.ensures (fine_plan words room a.test))
    ∙ ap (λ x. and_then x (fitted_plan a.test words room)) coarse)

pub plan_book-requires : goal.plan_book-requires
plan_book-requires c = reading_held _ c.in-Ok.read c.in-Ok.ensures

pub returns-in-Ok-plan_book-clause-result : goal.returns-in-Ok-plan_book-clause-result
returns-in-Ok-plan_book-clause-result c =
    let a = c.args in
    writes-same (fitted_result _ _ a.test a.book.now _ c.in-Ok.ensures (sym c.too_coarse.ensures ∙ c.if-too_coarse.false)) c.in-Ok-plan_book.ensures.result

pub returns-in-Ok-plan_book-clause-words : goal.returns-in-Ok-plan_book-clause-words
returns-in-Ok-plan_book-clause-words c =
    let a = c.args in
    subst (λ n. WordsKept n a.work.now c.plan_book.new.work)
    (fitted-free _ _ a.test a.book.now _ c.in-Ok.ensures (sym c.too_coarse.ensures ∙ c.if-too_coarse.false))
    c.in-Ok-plan_book.ensures.words

pub returns-in-Err-plan_book-clause-result : goal.returns-in-Err-plan_book-clause-result
returns-in-Err-plan_book-clause-result c =
    let a = c.args in
    rw c.refusal-in-Err-plan_book.ensures
    (writes-same (fitted_result _ _ a.test a.book.now _ c.in-Ok.ensures (sym c.too_coarse.ensures ∙ c.if-too_coarse.false)) c.in-Err-plan_book.ensures.result)

pub returns-in-Err-plan_book-clause-words : goal.returns-in-Err-plan_book-clause-words
returns-in-Err-plan_book-clause-words c =
    let a = c.args in
    subst (λ m. WordsKept m a.work.now c.plan_book.new.work)
    (fitted-free _ _ a.test a.book.now _ c.in-Ok.ensures (sym c.too_coarse.ensures ∙ c.if-too_coarse.false))
    c.in-Err-plan_book.ensures.words
