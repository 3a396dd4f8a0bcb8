-- `starts::ones_and_not` meets its contract: the complement in 32 bits agrees in the lower 24.
use mathlib.Core.Path.{ap}
use lib.Count.{ones}
use Rattle.starts.proofs.PlaceLaws.{wide_and_not}
use Rattle.starts.proofs.ones_and_not.Goals as goal

pub returns : goal.returns
returns c = ap ones (wide_and_not c.args.x c.args.y c.requires.x_bound c.requires.y_bound)
