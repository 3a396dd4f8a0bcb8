-- `views::write_loads` meets its contract. The invariant: the loads passed are written.
use Prim.Native.Nat.{◌+◌}
use mathlib.Core.Path.{◌≡◌}
use lib.ListN.{length}
use Rattle.hexadecimal.specs.Written.{written}
use Rattle.views.specs.MillLine.{loads_bytes}
use Rattle.views.proofs.write_loads.Given as goal

abbrev pub invariant-loop-k : goal.invariant-loop-k
invariant-loop-k l = (l.next ≡ l.at + length (loads_bytes l.picks l.k)) × (l.view ≡ written l.initial.view l.at (loads_bytes l.picks l.k))
