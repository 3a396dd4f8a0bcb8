-- `stretch::span_of` meets its contract. The invariant: the stretch holds all to which the first n settings offer something.
use Rattle.stretch.specs.Stretch.{Spans}
use Rattle.stretch.proofs.span_of.Given as goal

abbrev pub invariant-loop-n : goal.invariant-loop-n
invariant-loop-n l = Spans l.layer.lows l.layer.highs l.grid l.row l.load l.n l.s
