-- `moves::loads_of` meets its contract. The invariant: the loads passed have their moves, and the unit is 4^k.
use Prim.Native.Nat.{ℕ, ◌^◌, ◌<◌, ◌≤◌}
use mathlib.Core.Path.{◌≡◌}
use mathlib.Core.List.{[]}
use lib.ListN.{get_or, length}
use Rattle.model.specs.Bounds.{most_loads}
use Rattle.model.specs.Values.{problem_of}
use Rattle.grid.specs.Geometry.{Laid}
use Rattle.moves.specs.Moves.{moves_of, LoadIs}
use Rattle.moves.proofs.loads_of.Given as goal

abbrev pub invariant-loop-k : goal.invariant-loop-k
invariant-loop-k v =
    (v.loads ≤ most_loads) × (length v.moves ≡ most_loads) × (v.unit ≡ 4 ^ v.k)
    × ((l : Laid v.grid) (i : ℕ) → i < v.k → LoadIs l.slots i (get_or (problem_of v.book).loads i []) (moves_of v.moves i))
