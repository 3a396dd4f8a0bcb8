-- `hexadecimal::write` meets its contract. The invariant: the digits from place i on are written, and `rest` is what is left of x.
use mathlib.Core.Path.{◌≡◌}
use Rattle.model.specs.Frames.{digits}
use Prim.Native.Nat.{◌+◌, ◌-◌, ◌/◌, ◌^◌}
use Rattle.hexadecimal.specs.Written.{written}
use Rattle.hexadecimal.proofs.write.Given as goal

abbrev pub invariant-loop-i : goal.invariant-loop-i
invariant-loop-i l = (l.rest ≡ l.x / 16 ^ (l.n - l.i)) × (l.buf ≡ written l.initial.buf (l.at + l.i) (digits (l.n - l.i) l.x))
