-- `loadline::PowerValue::none` meets its contract.
use mathlib.Core.Path.{refl}
use Rattle.model.specs.Values.{raised}
use Rattle.loadline.proofs.PowerValue.none.Goals as goal

pub returns : goal.returns
unfolding raised
returns c = refl
