-- `print::print_answer` meets its contract: the buffer as it is, or with the line of the refusal.
use borrow.Author.Tests.{eq-eqb, ne_eqb}
use mathlib.Core.Path.{sym}
use Rattle.model.proofs.AnswerLaws.{length-refusal}
use Rattle.print.proofs.PrintLaws.{own_written}
use Rattle.print.proofs.print_answer.Goals as goal

pub returns-then-answer-eq0-clause-bytes : goal.returns-then-answer-eq0-clause-bytes
returns-then-answer-eq0-clause-bytes c =
    let e = eq-eqb c.args.answer.number 0 c.if-answer-eq0.true in
    rw e (own_written c.args.out.now c.args.answer.bytes c.requires.bytes_in_bounds)

pub returns-clause-length : goal.returns-clause-length
returns-clause-length c =
    let a = c.args in
    let n = ne_eqb a.answer.number 0 c.if-answer-eq0.false in
    rw n (sym (length-refusal a.answer.number a.answer.line))
