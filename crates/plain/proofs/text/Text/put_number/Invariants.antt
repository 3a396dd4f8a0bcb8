use Rattle.std.proofs.Common.{◌≡◌, ℕ, ◌<◌, ◌≤◌, get_or}
use Rattle.plain.proofs.text.Text.put_number.Given as goal

abbrev pub invariant-loop-place : goal.invariant-loop-place
invariant-loop-place l =
    (l.self.length ≡ l.fn.self.length)
    × ((k : ℕ) → k < l.start → get_or l.self.bytes k 0 ≡ get_or l.fn.self.bytes k 0)
    × ((k : ℕ) → l.end ≤ k → get_or l.self.bytes k 0 ≡ get_or l.fn.self.bytes k 0)
