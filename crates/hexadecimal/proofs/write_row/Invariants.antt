-- `hexadecimal::write_row` meets its contract. The invariant: the numbers passed are written.
use mathlib.Core.Path.{◌≡◌}
use mathlib.Core.List.{map}
use lib.ListN.{take}
use Rattle.model.specs.Lists.{concat}
use Rattle.model.specs.Frames.{digits}
use Rattle.hexadecimal.specs.Written.{written}
use Rattle.hexadecimal.proofs.write_row.Given as goal

abbrev pub invariant-loop-i : goal.invariant-loop-i
invariant-loop-i l = l.buf ≡ written l.initial.buf l.at (concat (map (digits l.n) (take l.i l.xs)))
