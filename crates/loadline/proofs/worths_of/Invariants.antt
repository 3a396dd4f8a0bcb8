-- `loadline::worths_of` meets its contract. The invariant: the first c entries are filled.
use Prim.Native.Nat.{◌≤◌, ◌-◌}
use mathlib.Core.Path.{◌≡◌}
use mathlib.Core.List.{map}
use lib.ListN.{length, take}
use Rattle.model.specs.Lists.{upto}
use Rattle.model.specs.Book.{settings}
use Rattle.model.specs.Choice.{setting_of}
use Rattle.loadline.proofs.worths_of.Given as goal

abbrev pub invariant-loop-c : goal.invariant-loop-c
invariant-loop-c l = (l.c ≤ 4) × (length l.worths ≡ 4) × (take l.c l.worths ≡ map (λ k. (setting_of (settings l.slots l.line) k).worth) (upto l.c))

abbrev pub decreases-loop-c : goal.decreases-loop-c
decreases-loop-c l = 4 - l.c
