-- `views::loads_length` meets its contract. The invariant: the bytes of the loads passed are counted.
use Prim.Native.Nat.{suc}
use mathlib.Core.Path.{sym, ap}
use lib.ListN.{length}
use Rattle.views.proofs.MillLaws.{load_stands, length_runs, loads-none, length_more, loads_most}
use native.Mathlib.Omega.{arith}
use Rattle.views.proofs.loads_length.Goals as goal
use Rattle.views.proofs.loads_length.Goals.{then-picks-k-ne0, else-picks-k-ne0}

pub loop-k-init : goal.loop-k-init
loop-k-init c = sym (ap length (loads-none c.args.picks))

pub overflow_add-bytes : goal.overflow_add-bytes
overflow_add-bytes c =
    let l = c.loop-k in
    omega (arith, l.invariant, loads_most c.args.picks l.k)

pub loop-k-preserved : goal.loop-k-preserved
loop-k-preserved c =
    let l = c.loop-k in
    let more = length_more c.args.picks l.k in
    elim c.if-picks-k-ne0.branch [
      | then-picks-k-ne0 w ↦ omega (arith, more, w.bytes-is, length_runs (suc l.k) _ w.if-picks-k-ne0.true)
      | else-picks-k-ne0 w ↦ omega (arith, more, w.bytes-is, ap length (load_stands (suc l.k) _ w.if-picks-k-ne0.false))
    ]
