-- `sums::picks_of` meets its contract. The invariant: the digits so far, and then those of the rest.
use Prim.Native.Nat.{◌-◌}
use mathlib.Core.Path.{◌≡◌}
use mathlib.Core.List.{◌++◌}
use lib.ListN.{length, take}
use Rattle.model.specs.Bounds.{most_loads}
use Rattle.model.specs.Choice.{decode}
use Rattle.sums.proofs.picks_of.Given as goal

abbrev pub invariant-loop-k : goal.invariant-loop-k
invariant-loop-k l = (length l.picks ≡ most_loads) × (take l.k l.picks ++ decode (l.count - l.k) l.rest ≡ decode l.count l.code)
