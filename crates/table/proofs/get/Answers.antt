-- `table::get` meets its contract: two reads.
use borrow.Author.Rules.{rules}
use Rattle.table.specs.Table.{cell_at}
use Rattle.table.proofs.get.Goals as goal

pub returns : goal.returns
unfolding cell_at
returns c = search rules
