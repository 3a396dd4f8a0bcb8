-- `stretch::covers` meets its contract. The invariant: what the slots from t on say of the rest of the row is what all slots say of the row.
use native.Mathlib.Omega.{arith}
use Rattle.stretch.proofs.ReachLaws.{covers_less, covers_more, covers_all_lem}
use Rattle.stretch.proofs.covers.Goals as goal

pub returns-then-rest-top : goal.returns-then-rest-top
returns-then-rest-top c = covers_less _ _ _ _ _ c.loop-t.invariant (omega arith) c.if-rest-top.true

pub loop-t-preserved : goal.loop-t-preserved
loop-t-preserved c = covers_more _ _ _ _ _ c.loop-t.invariant (omega arith) c.if-rest-top.false

pub returns : goal.returns
returns c = covers_all_lem _ _ _ _ _ c.loop-t.invariant (omega arith)
