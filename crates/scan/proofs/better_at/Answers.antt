-- `scan::better_at` meets its contract: a better cell that passes takes the best's place.
use Rattle.model.specs.Values.{problem_of}
use Rattle.scan.specs.Scan.{test_of}
use Rattle.scan.proofs.BestLaws.{better_coded, best-taken, best-refused}
use Rattle.scan.proofs.better_at.Goals as goal

pub passes-requires-clause-code : goal.passes-requires-clause-code
passes-requires-clause-code c =
    better_coded c.args.best c.get-c.ensures c.beats.ensures (problem_of c.args.book) c.if-not-beats.false c.requires.coded

pub returns-then-passes : goal.returns-then-passes
returns-then-passes c =
    let a = c.args in
    best-taken a.best c.get-c.ensures c.beats.ensures (test_of a.test (problem_of a.book) a.row a.col)
    c.passes.ensures c.if-not-beats.false c.if-passes.true

pub returns : goal.returns
returns c =
    let a = c.args in
    best-refused a.best c.get-c.ensures c.beats.ensures (test_of a.test (problem_of a.book) a.row a.col)
    c.passes.ensures c.if-passes.false
