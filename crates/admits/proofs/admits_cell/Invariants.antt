-- `admits::admits_cell` meets its contract. The invariant: what the slots from t on say of what is left of the row and the column is what all
-- slots say of the cell.
use mathlib.Core.Path.{◌≡◌}
use Prim.Native.Nat.{◌≤◌}
use Rattle.model.specs.Index.{grid_from}
use Rattle.model.specs.Cells.{admits_all}
use Rattle.admits.specs.Admits.{SlotsHeld}
use Rattle.admits.proofs.SlotLaws.{admits_from}
use Rattle.admits.proofs.admits_cell.Given as goal

abbrev pub invariant-loop-t : goal.invariant-loop-t
invariant-loop-t l =
    (l.slots ≤ 4)
    × ((h : SlotsHeld l.grid l.count l.limits) → admits_from h l.t l.a l.b ≡ admits_all h.laid.slots (grid_from h.laid.slots l.row l.col))
