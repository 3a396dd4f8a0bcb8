-- `table::Cell::offer` meets its contract: one law for each branch.
use Rattle.table.specs.Table.{raised}
use Rattle.table.proofs.WordLaws.{offered-empty, offered-more, offered_less}
use Rattle.table.proofs.Cell.offer.Goals as goal

pub returns-then-src-eq0 : goal.returns-then-src-eq0
returns-then-src-eq0 c = search offered-empty

pub returns-then-self-worth : goal.returns-then-self-worth
unfolding raised
returns-then-self-worth c = search offered-more

pub returns : goal.returns
returns c = search offered_less
