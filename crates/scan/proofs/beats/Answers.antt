-- `scan::beats` meets its contract, branch by branch.
use Rattle.scan.proofs.BestLaws.{better-empty, better_tie, better-worth}
use Rattle.scan.proofs.beats.Goals as goal

pub returns-then-c-eq0 : goal.returns-then-c-eq0
returns-then-c-eq0 c = let a = c.args in better-empty a.best a.c c.if-c-eq0.true

pub returns-then-c-best : goal.returns-then-c-best
returns-then-c-best c =
    let a = c.args in
    better_tie a.best a.c c.if-c-eq0.false c.if-c-best.true

pub returns : goal.returns
returns c =
    let a = c.args in
    better-worth a.best a.c c.if-c-eq0.false c.if-c-best.false
