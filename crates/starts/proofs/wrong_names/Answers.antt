-- `starts::wrong_names` meets its contract. The invariant: none of the names before k is bad.
use mathlib.Core.Path.{sym, ◌∙◌}
use Prim.Native.Nat.{suc}
use native.Mathlib.Omega.{arith}
use Rattle.model.specs.Order.{bad_name}
use Rattle.model.proofs.UptoLaws.{any-more}
use Rattle.starts.proofs.PlaceLaws.{names_short, names_bad, names_good}
use Rattle.starts.proofs.wrong_names.Goals as goal

pub returns-then-names-count : goal.returns-then-names-count
returns-then-names-count c =
    let a = c.args in
    names_short a.count a.names.now c.if-names-count.true

pub returns-then-bad_name : goal.returns-then-bad_name
returns-then-bad_name c =
    let a = c.args in
    let same = c.if-names-count.false in
    names_bad a.count a.names.now c.loop-k.k same (omega (arith, same)) (sym c.bad_name.ensures ∙ c.if-bad_name.true)

pub loop-k-preserved : goal.loop-k-preserved
loop-k-preserved c =
    let a = c.args in
    let l = c.loop-k in
    any-more suc (bad_name a.count a.names.now) l.k l.invariant (sym c.bad_name.ensures ∙ c.if-bad_name.false)

pub returns : goal.returns
returns c =
    let a = c.args in
    let l = c.loop-k in
    let same = c.if-names-count.false in
    names_good a.count a.names.now l.k same (omega (arith, same)) l.invariant
