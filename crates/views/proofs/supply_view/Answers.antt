-- `views::supply_view` meets its contract: a refusal of the book or the sheet is passed on, and else the sums are shown.
use lib.ListN.{length}
use Rattle.model.specs.Views.{sums_and_limits_on, supply_view, supply_result}
use Rattle.model.proofs.AnswerLaws.{writes-same}
use Rattle.views.proofs.ReadLaws.{refused_view, accepted_then}
use Rattle.views.proofs.supply_view.Goals as goal

pub returns-in-Ok-clause-result : goal.returns-in-Ok-clause-result
unfolding supply_result
returns-in-Ok-clause-result c =
    let a = c.args in
    writes-same (accepted_then a.book.now a.sheet.now (λ x. supply_view (sums_and_limits_on x) (length a.view.now)) _ c.in-Ok.ensures) c.supply_of.ensures

pub returns-in-Err-clause-result : goal.returns-in-Err-clause-result
unfolding supply_result
returns-in-Err-clause-result c =
    let a = c.args in
    refused_view a.book.now a.sheet.now (λ x. supply_view (sums_and_limits_on x) (length a.view.now)) c.in-Err.refused c.in-Err.ensures a.view.now _ c.from.ensures
