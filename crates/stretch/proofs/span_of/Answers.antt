-- `stretch::span_of` meets its contract. The invariant: the stretch holds all to which the first n settings offer something.
use Rattle.stretch.proofs.ReachLaws.{spans_more, spans_all}
use Rattle.stretch.proofs.span_of.Goals as goal

pub loop-n-preserved : goal.loop-n-preserved
loop-n-preserved c = search spans_more

pub returns : goal.returns
returns c = search spans_all
