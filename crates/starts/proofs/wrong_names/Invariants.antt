-- `starts::wrong_names` meets its contract. The invariant: none of the names before k is bad.
use mathlib.Core.Path.{◌≡◌}
use mathlib.Core.Bool.{false}
use mathlib.Core.List.{map}
use Prim.Native.Nat.{suc}
use Rattle.model.specs.Lists.{upto, any}
use Rattle.model.specs.Order.{bad_name}
use Rattle.starts.proofs.wrong_names.Given as goal

abbrev pub invariant-loop-k : goal.invariant-loop-k
invariant-loop-k l = any (bad_name l.count l.names) (map suc (upto l.k)) ≡ false
