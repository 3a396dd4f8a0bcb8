-- `moves::move_of` meets its contract. The invariant: the numbers are those of the slots from t on.
use Prim.Native.Nat.{◌<◌, ◌≤◌}
use mathlib.Core.Path.{◌≡◌}
use lib.ListN.{length}
use Rattle.model.specs.Choice.{setting_of}
use Rattle.grid.specs.Geometry.{Laid}
use Rattle.moves.specs.Moves.{LoadHeld}
use Rattle.moves.proofs.MoveLaws.{Moved}
use Rattle.moves.proofs.move_of.Given as goal

abbrev pub invariant-loop-t : goal.invariant-loop-t
invariant-loop-t v =
    (v.grid.slots ≤ 4) × (v.c < 4) × (length v.active ≡ 4)
    × ((h : LoadHeld v.load) (l : Laid v.grid) → Moved l.slots (setting_of h.settings v.c) v.t v.back v.up v.down v.active)
