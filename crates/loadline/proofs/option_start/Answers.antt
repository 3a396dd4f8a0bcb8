-- `loadline::option_start` meets its contract.
use mathlib.Core.Path.{refl}
use Rattle.model.specs.Book.{option_start}
use Rattle.loadline.proofs.option_start.Goals as goal

pub returns : goal.returns
unfolding option_start
returns c = refl
