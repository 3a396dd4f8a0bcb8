-- `views::read` meets its contract: a refusal of the book is passed on, a foreign sheet is refused, and else both are accepted.
use Rattle.std.proofs.lemmas.Result.{err_from_is_err_and}
use Rattle.model.proofs.ReadingLaws.{reading_held}
use Rattle.views.proofs.ReadLaws.{book-refused, sheet-foreign, both_accepted}
use Rattle.views.proofs.read.Goals as goal

pub returns-in_err-book : goal.returns-in_err-book
returns-in_err-book c =
    let p = err_from_is_err_and c.from_residual.result c.from_residual.ensures.1 in
    rw (p.1, p.2) (book-refused c.args.book.now c.args.sheet.now _ c.in_err-book.ensures)

pub choice_on-requires : goal.choice_on-requires
choice_on-requires c = reading_held _ _ c.in_ok-book.ensures

pub returns : goal.returns
returns c = both_accepted _ _ _ c.in_ok-book.ensures _ c.in-Some.ensures

pub returns-in_default : goal.returns-in_default
returns-in_default c = rw c.on_line.ensures (sheet-foreign _ _ _ c.in_ok-book.ensures c.in_default.ensures)
