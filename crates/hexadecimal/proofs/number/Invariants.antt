-- `hexadecimal::number` meets its contract. The invariant: the value is that of the digits passed.
use mathlib.Core.Path.{◌≡◌}
use Rattle.model.specs.Frames.{field}
use Rattle.hexadecimal.proofs.number.Given as goal

abbrev pub invariant-loop-i : goal.invariant-loop-i
invariant-loop-i l = l.v ≡ field l.line l.at l.i
