-- `day::write_book` meets its contract: what is printed of the planner's answer.
use mathlib.Core.Path.{ap, subst, ◌∙◌}
use lib.ListN.{length}
use Rattle.model.specs.Trials.{WordsKept}
use Rattle.model.proofs.AnswerLaws.{printed_from_lem}
use Rattle.print.proofs.PrintLaws.{printed-over}
use Rattle.day.proofs.BookLaws.{same_output, same-free}
use Rattle.hexadecimal.specs.Written.{written}
use Rattle.day.proofs.write_book.Goals as goal

pub returns : goal.returns
returns c =
    let p = c.plan-answer in
    let book = c.args.book.now in
    let words = length c.args.work.now in
    let out = c.args.out.now in
    let same = same_output words book (length out) c.requires in
    record {
      bytes = c.print_answer.ensures.bytes ∙ printed-over _ out _ _ p.ensures.result ∙ ap (written out 0) same;
      length = c.print_answer.ensures.length ∙ ap length (printed_from_lem _ p.ensures.result ∙ same);
      words = subst (λ n. WordsKept n c.args.work.now p.new.work) (same-free words book (length out) c.requires) p.ensures.words;
    }
