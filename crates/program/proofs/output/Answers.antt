-- `program::output` meets its contract: what is printed of the planner's answer.
use Rattle.model.proofs.AnswerLaws.{printed_from_lem}
use Rattle.print.proofs.PrintLaws.{printed-over}
use Rattle.program.specs.PrintedValue.{printed_value}
use Rattle.program.proofs.ProgramLaws.{program_is, value_is}
use mathlib.Core.Path.{ap, ◌∙◌}
use lib.ListN.{length}
use Rattle.program.proofs.output.Goals as goal

pub returns : goal.returns
returns c =
    let input = c.args.input.now in
    let words = c.words-work in
    let room = c.room-bytes in
    let end = c.book_length-end in
    let w = c.plan-answer.ensures.result in
    value_is room.result _ _ _ room.ensures (c.print_answer-length.ensures.bytes ∙ printed-over _ room.result _ _ w) (c.print_answer-length.ensures.length ∙ ap length (printed_from_lem _ w))
    ∙ ap printed_value (program_is input words.result room.result end.result end.ensures.0 end.ensures.1 words.ensures room.ensures)
