-- `starts::some_blocked` meets its contract. The invariant: none of the loads before place k is blocked.
use mathlib.Core.Path.{◌≡◌}
use mathlib.Core.Bool.{false}
use mathlib.Core.List.{map}
use Prim.Native.Nat.{suc}
use Rattle.model.specs.Lists.{upto, any}
use Rattle.starts.proofs.PlaceLaws.{barred}
use Rattle.starts.proofs.some_blocked.Given as goal

abbrev pub invariant-loop-k : goal.invariant-loop-k
invariant-loop-k l = any (barred l.running l.planned l.names) (map suc (upto l.k)) ≡ false
