-- `table::put` meets its contract: two stores.
use borrow.Author.Rules.{rules}
use Rattle.table.specs.Table.{put_at}
use Rattle.table.proofs.put.Goals as goal

pub returns : goal.returns
unfolding put_at
returns c = search rules
