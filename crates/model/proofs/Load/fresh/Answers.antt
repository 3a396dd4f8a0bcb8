-- `model::Load::fresh` meets its contract: both sides compute to the same arrays.
use Rattle.std.proofs.Common.{refl}
use Rattle.model.specs.Choice.{setting_of}
use Rattle.model.specs.Values.{load_value, power_of, raised}
use Rattle.model.proofs.Load.fresh.Goals as goal

pub returns : goal.returns
unfolding load_value power_of setting_of raised
returns c = refl
