-- `hexadecimal::copy` meets its contract. The invariant: the bytes passed are written.
use mathlib.Core.Path.{◌≡◌}
use lib.ListN.{length, take}
use Rattle.hexadecimal.specs.Written.{written}
use Rattle.hexadecimal.proofs.copy.Given as goal

abbrev pub invariant-loop-i : goal.invariant-loop-i
invariant-loop-i l = (length l.buf ≡ length l.initial.buf) × (l.buf ≡ written l.initial.buf l.at (take l.i l.bytes))
