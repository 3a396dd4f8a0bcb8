-- `sums::Sums::plus` meets its contract: each array is shifted.
use Rattle.sums.specs.Sums.{added}
use Rattle.sums.proofs.Sums.plus.Goals as goal

pub returns : goal.returns
unfolding added
returns c = cc
