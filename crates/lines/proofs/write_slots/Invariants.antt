-- `lines::write_slots` meets its contract. The invariant: the lines of the slots passed are written.
use mathlib.Core.Path.{◌≡◌}
use Rattle.hexadecimal.specs.Written.{written}
use Rattle.lines.specs.Lines.{slots_bytes}
use Rattle.lines.proofs.write_slots.Given as goal

abbrev pub invariant-loop-s : goal.invariant-loop-s
invariant-loop-s l = l.part ≡ written l.initial.part 0 (slots_bytes l.count l.actives l.reactives l.limits l.s)
