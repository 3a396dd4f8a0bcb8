-- `order::write_order` meets its contract. The invariant: i loads have been started, and stand in the buffer.
use Rattle.order.proofs.StepLaws.{Turned}
use Rattle.order.proofs.write_order.Given as goal

abbrev pub invariant-loop-i : goal.invariant-loop-i
invariant-loop-i l = Turned l.initial.on l.planned l.names l.i l.initial.order l.order l.on
