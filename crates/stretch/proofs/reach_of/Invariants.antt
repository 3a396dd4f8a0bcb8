-- `stretch::reach_of` meets its contract. The invariant: the rows from r on lie too far for the first n settings.
use Prim.Native.Nat.{ℕ, ◌≤◌, ◌<◌, ◌+◌}
use Rattle.stretch.specs.Stretch.{move_of}
use Rattle.stretch.proofs.reach_of.Given as goal

abbrev pub invariant-loop-n : goal.invariant-loop-n
invariant-loop-n l =
    (l.used ≤ l.r) × (l.r ≤ l.grid.rows) × ((m : ℕ) → m < l.n → (row : ℕ) → l.r ≤ row → row < l.grid.rows → l.used + (move_of l.load m).back ≤ row)
