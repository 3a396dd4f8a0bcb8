-- `lines::write_numbers` meets its contract. The invariant: the numbers passed are written.
use mathlib.Core.Path.{◌≡◌}
use Rattle.hexadecimal.specs.Written.{written}
use Rattle.lines.specs.Lines.{numbers_in}
use Rattle.lines.proofs.write_numbers.Given as goal

abbrev pub invariant-loop-k : goal.invariant-loop-k
invariant-loop-k l = l.buf ≡ written l.initial.buf l.at (numbers_in l.picks l.k)
