-- `grid::grid_of` meets its contract. The invariant: the numbers are those of the slots from t on.
use Prim.Native.Nat.{◌≤◌}
use Rattle.model.specs.Grid.{slots_of}
use Rattle.model.specs.Values.{problem_of}
use Rattle.grid.proofs.GeometryLaws.{MadeFrom}
use Rattle.grid.proofs.grid_of.Given as goal

abbrev pub invariant-loop-t : goal.invariant-loop-t
invariant-loop-t l =
    (l.slots ≤ 4)
    × MadeFrom (slots_of (problem_of l.book)) l.t (record { slots = l.slots; sizes = l.sizes; rows = l.rows; width = l.width; cells = l.cells; origin = l.origin })
