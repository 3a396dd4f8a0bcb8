-- `sums::Sums::none` meets its contract: both sides compute to the same arrays.
use mathlib.Core.Path.{refl}
use Rattle.model.specs.Values.{raised_by}
use Rattle.sums.specs.Sums.{sums_value}
use Rattle.sums.proofs.Sums.none.Goals as goal

pub returns : goal.returns
unfolding raised_by sums_value
returns c = refl
