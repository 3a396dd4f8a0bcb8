-- `stretch::covers` meets its contract. The invariant: what the slots from t on say of the rest of the row is what all slots say of the row.
use Prim.Native.Nat.{◌-◌}
use mathlib.Core.Path.{◌≡◌}
use Rattle.stretch.specs.Stretch.{covers_from}
use Rattle.stretch.proofs.covers.Given as goal

abbrev pub invariant-loop-t : goal.invariant-loop-t
invariant-loop-t l = covers_from l.sizes l.active 0 l.slots l.row ≡ covers_from l.sizes l.active l.t (l.slots - l.t) l.rest
