-- `views::write_load` meets its contract: two fields of two digits, or nothing.
use Prim.Native.Nat.{suc}
use mathlib.Core.Path.{sym, ap, ◌∙◌}
use lib.ListN.{length}
use Rattle.hexadecimal.specs.Written.{written}
use Rattle.hexadecimal.proofs.WrittenLaws.{written_none}
use Rattle.views.proofs.MillLaws.{load_stands, length_runs, load_written}
use native.Mathlib.Omega.{arith}
use Rattle.views.proofs.write_load.Goals as goal

pub returns-then-level-eq0-clause-bytes : goal.returns-then-level-eq0-clause-bytes
returns-then-level-eq0-clause-bytes c =
    let a = c.args in
    let none = load_stands (suc a.k) a.level c.if-level-eq0.true in
    sym (ap (written a.view.now a.at) none ∙ written_none a.view.now a.at)

pub returns-then-level-eq0-clause-next : goal.returns-then-level-eq0-clause-next
returns-then-level-eq0-clause-next c =
    let a = c.args in
    let none = load_stands (suc a.k) a.level c.if-level-eq0.true in
    omega (arith, ap length none)

pub write-requires : goal.write-requires
write-requires c =
    omega (arith, c.requires.level_in_bounds, length_runs (suc c.args.k) c.args.level c.if-level-eq0.false)

pub write-requires-2 : goal.write-requires-2
write-requires-2 c =
    omega (arith, c.requires.level_in_bounds, length_runs (suc c.args.k) c.args.level c.if-level-eq0.false)

pub returns-clause-bytes : goal.returns-clause-bytes
returns-clause-bytes c =
    let a = c.args in
    let runs = c.if-level-eq0.false in
    let long = length_runs (suc a.k) a.level runs in
    load_written a.view.now _ _ a.at (suc a.k) a.level _ _ runs (omega arith) (omega arith) (omega (arith, c.requires.level_in_bounds, long))
    c.write.ensures c.write-2.ensures

pub returns-clause-next : goal.returns-clause-next
returns-clause-next c =
    let a = c.args in
    let runs = c.if-level-eq0.false in
    let long = length_runs (suc a.k) a.level runs in
    omega (arith, long)
