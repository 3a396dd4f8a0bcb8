-- `starts::next_start` meets its contract. The invariant: none of the loads before place k may start.
use mathlib.Core.Path.{◌≡◌}
use mathlib.Core.Bool.{false}
use Prim.Native.Nat.{ℕ, ◌<◌}
use lib.ListN.{get_or}
use Rattle.starts.specs.Places.{may_start_at}
use Rattle.starts.proofs.next_start.Given as goal

abbrev pub invariant-loop-k : goal.invariant-loop-k
invariant-loop-k l = (j : ℕ) → j < l.k → may_start_at l.on l.planned (get_or l.names j 0) j ≡ false
