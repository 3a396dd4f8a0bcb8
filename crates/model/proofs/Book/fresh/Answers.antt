-- `model::Book::fresh` meets its contract: its loads are what `Load::fresh` ensures.
use Rattle.model.specs.Values.{fresh_book}
use Rattle.model.proofs.Book.fresh.Goals as goal

pub returns : goal.returns
unfolding fresh_book
returns c = rw c.fresh-none.ensures
