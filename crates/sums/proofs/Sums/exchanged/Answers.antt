-- `sums::Sums::exchanged` meets its contract: each array is shifted.
use Rattle.sums.specs.Sums.{exchanged}
use Rattle.sums.proofs.Sums.exchanged.Goals as goal

pub returns : goal.returns
unfolding exchanged
returns c = cc
