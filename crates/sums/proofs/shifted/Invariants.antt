-- `sums::shifted` meets its contract. The invariant: the entries of the slots passed are filled.
use mathlib.Core.Path.{◌≡◌}
use mathlib.Core.List.{map}
use lib.ListN.{length, take}
use Rattle.model.specs.Lists.{upto}
use Rattle.sums.specs.Sums.{shifted_in}
use Rattle.sums.proofs.shifted.Given as goal

abbrev pub invariant-loop-s : goal.invariant-loop-s
invariant-loop-s l = (length l.next ≡ 4) × (take l.s l.next ≡ map (shifted_in l.sums l.powers l.c l.less l.from) (upto l.s))
