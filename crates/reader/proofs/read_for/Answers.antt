-- `reader::read_for` meets its contract: refusal 13, and the answer, are what the definitions give.
use mathlib.Core.Path.{ap, ap₂, ◌∙◌}
use Rattle.model.specs.declared.Answer.{Answer}
use Rattle.model.specs.declared.SheetAnswer.{SheetAnswer}
use Rattle.model.specs.Answers.{success_answer}
use Rattle.model.specs.SheetReader.{sheet_answer_of}
use Rattle.model.specs.Values.{problem_of}
use Rattle.reader.proofs.DataLaws.{data_foreign, data_read}
use Rattle.reader.proofs.read_for.Goals as goal

pub returns-in_default : goal.returns-in_default
returns-in_default c =
    let a = c.args in
    ap (λ (x : Answer). record { answer = x; code = 0 }) c.refusal-answer.ensures
    ∙ ap sheet_answer_of (data_foreign a.sheet.now (problem_of a.book) c.in_default.ensures)

pub returns : goal.returns
returns c =
    let a = c.args in
    let on = c.in-Some in
    ap₂ {C = SheetAnswer} (λ (x : Answer) n. record { answer = x; code = n })
    (c.success-answer.ensures ∙ ap (λ n. success_answer 0 n on.on.trials) c.worth_of-worth.ensures) c.code_of-code.ensures
    ∙ ap sheet_answer_of (data_read a.sheet.now (problem_of a.book) _ on.ensures)
