-- `views::loads_length` meets its contract. The invariant: the bytes of the loads passed are counted.
use mathlib.Core.Path.{◌≡◌}
use lib.ListN.{length}
use Rattle.views.specs.MillLine.{loads_bytes}
use Rattle.views.proofs.loads_length.Given as goal

abbrev pub invariant-loop-k : goal.invariant-loop-k
invariant-loop-k l = l.bytes ≡ length (loads_bytes l.picks l.k)
