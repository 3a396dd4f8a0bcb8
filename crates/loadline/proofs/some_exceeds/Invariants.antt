-- `loadline::some_exceeds` meets its contract. The invariants: no setting passed exceeds in any slot, and this one in no slot passed.
use Prim.Native.Nat.{ℕ, ◌-◌, ◌≤◌}
use mathlib.Core.Path.{◌≡◌}
use mathlib.Core.Bool.{false}
use mathlib.Core.List.{List, map}
use Rattle.model.specs.Lists.{upto, any}
use Rattle.model.specs.Book.{Power, Setting, settings, reactive_exceeds}
use Rattle.model.specs.Choice.{setting_of, power_in}
use Rattle.loadline.proofs.LineLaws.{exceeds_in}
use Rattle.loadline.proofs.some_exceeds.Given as goal

-- setting c of the line, and its power in slot s
abbrev pub setting : List ℕ → ℕ → ℕ → Setting
setting line slots c = setting_of (settings slots line) c

abbrev pub power : List ℕ → ℕ → ℕ → ℕ → Power
power line slots c s = power_in s (setting line slots c)

abbrev pub invariant-loop-s : goal.invariant-loop-s
invariant-loop-s l = (l.s ≤ l.slots) × (l.found ≡ false) × (any (reactive_exceeds l.ratio) (map (power l.line l.slots l.c) (upto l.s)) ≡ false)

abbrev pub decreases-loop-s : goal.decreases-loop-s
decreases-loop-s l = l.slots - l.s

abbrev pub invariant-settings : goal.invariant-settings
invariant-settings l = (l.c ≤ l.settings) × (l.found ≡ false) × (any (exceeds_in l.ratio l.slots) (map (setting l.line l.slots) (upto l.c)) ≡ false)

abbrev pub decreases-settings : goal.decreases-settings
decreases-settings l = l.settings - l.c
