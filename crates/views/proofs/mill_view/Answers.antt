-- `views::mill_view` meets its contract: a refusal of the book or the sheet is passed on, and else the choice is shown.
use lib.ListN.{length}
use Rattle.model.specs.Answers.{in_room}
use Rattle.model.specs.Views.{mill_line, mill_result}
use Rattle.model.proofs.AnswerLaws.{writes-same}
use Rattle.views.proofs.ReadLaws.{refused_view, accepted_then}
use Rattle.views.proofs.mill_view.Goals as goal

pub returns-in-Ok : goal.returns-in-Ok
unfolding mill_result
returns-in-Ok c =
    let a = c.args in
    writes-same (accepted_then a.book.now a.sheet.now (λ x. in_room (mill_line x.choice) (length a.view.now)) _ c.in-Ok.ensures) c.mill_of.ensures

pub returns-in-Err : goal.returns-in-Err
unfolding mill_result
returns-in-Err c =
    let a = c.args in
    refused_view a.book.now a.sheet.now (λ x. in_room (mill_line x.choice) (length a.view.now)) c.in-Err.refused c.in-Err.ensures a.view.now _ c.from.ensures
