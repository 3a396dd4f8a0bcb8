-- `moves::moves_of` meets its contract. The invariant: the settings passed have their moves.
use Prim.Native.Nat.{ℕ, ◌+◌, ◌^◌, ◌<◌, ◌≤◌}
use mathlib.Core.Path.{◌≡◌}
use lib.ListN.{get_or, length}
use Rattle.model.specs.Choice.{setting_of}
use Rattle.stretch.specs.Stretch.{no_move}
use Rattle.grid.specs.Geometry.{Laid}
use Rattle.moves.specs.Moves.{MoveIs, LoadHeld}
use Rattle.moves.proofs.moves_of.Given as goal

abbrev pub invariant-loop-i : goal.invariant-loop-i
invariant-loop-i v =
    (v.least + v.settings ≤ 4) × (length v.moves ≡ 4)
    × ((h : LoadHeld v.load) (l : Laid v.grid) (k : ℕ) → v.unit ≡ 4 ^ k → (j : ℕ) → j < v.i → MoveIs l.slots k (setting_of h.settings (v.least + j)) (get_or v.moves j no_move))
