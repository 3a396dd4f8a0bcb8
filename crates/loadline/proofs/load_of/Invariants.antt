-- `loadline::load_of` meets its contract. The invariant: the first k entries of both arrays are filled.
use Prim.Native.Nat.{ℕ, ◌≤◌, ◌-◌}
use mathlib.Core.Path.{◌≡◌}
use mathlib.Core.List.{map}
use lib.ListN.{length, take}
use Rattle.model.specs.Lists.{upto}
use Rattle.model.specs.Book.{Settings, settings}
use Rattle.model.specs.Values.{raised, power_of}
use Rattle.loadline.proofs.load_of.Given as goal

abbrev pub active : Settings → ℕ → ℕ
active vs k = (power_of vs k).p

abbrev pub reactive : Settings → ℕ → ℕ
reactive vs k = raised (power_of vs k).q

abbrev pub invariant-loop-k : goal.invariant-loop-k
invariant-loop-k l = (l.k ≤ 16) × (length l.actives ≡ 16) × (length l.reactives ≡ 16) × (take l.k l.actives ≡ map (active (settings l.slots l.line)) (upto l.k)) × (take l.k l.reactives ≡ map (reactive (settings l.slots l.line)) (upto l.k))

abbrev pub decreases-loop-k : goal.decreases-loop-k
decreases-loop-k l = 16 - l.k
