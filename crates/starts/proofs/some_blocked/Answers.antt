-- `starts::some_blocked` meets its contract. The invariant: none of the loads before place k is blocked.
use mathlib.Core.Path.{sym, ◌∙◌}
use Prim.Native.Nat.{suc}
use native.Mathlib.Omega.{arith}
use Rattle.model.proofs.UptoLaws.{any-more}
use Rattle.starts.proofs.PlaceLaws.{barred, barred_is, blocked-some, blocked-none}
use Rattle.starts.proofs.some_blocked.Goals as goal

pub returns-then-blocked_at : goal.returns-then-blocked_at
returns-then-blocked_at c =
    let a = c.args in
    blocked-some a.running a.planned a.names.now c.requires c.loop-k.k (omega arith)
    (sym c.blocked_at.ensures ∙ c.if-blocked_at.true)

pub loop-k-preserved : goal.loop-k-preserved
loop-k-preserved c =
    let a = c.args in
    let l = c.loop-k in
    any-more suc (barred a.running a.planned a.names.now) l.k l.invariant
    (barred_is a.running a.planned a.names.now c.requires l.k (omega arith) ∙ sym c.blocked_at.ensures ∙ c.if-blocked_at.false)

pub returns : goal.returns
returns c =
    let a = c.args in
    let l = c.loop-k in
    blocked-none a.running a.planned a.names.now c.requires l.k (omega arith) l.invariant
