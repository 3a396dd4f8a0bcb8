-- `sums::picks_of` meets its contract. The invariant: the digits so far, and then those of the rest.
use Prim.Native.Nat.{suc, ◌+◌, ◌-◌}
use mathlib.Core.Path.{◌≡◌, sym, ap, ◌∙◌}
use mathlib.Core.List.{◌++◌}
use lib.ListN.{take, length-set}
use Rattle.model.specs.Choice.{decode}
use native.Mathlib.Omega.{arith}
use Rattle.sums.proofs.PickLaws.{decode-more}
use Rattle.sums.proofs.picks_of.Goals as goal

pub loop-k-preserved : goal.loop-k-preserved
loop-k-preserved c =
    let a = c.args in
    let l = c.loop-k in
    let e : a.count - l.k ≡ suc (a.count - (l.k + 1)) = omega arith in (
      length-set l.picks l.k _ ∙ l.invariant.0,
      decode-more l.picks l.k (a.count - (l.k + 1)) l.rest (decode a.count a.code) (omega arith)
          (sym (ap (λ n. take l.k l.picks ++ decode n l.rest) e) ∙ l.invariant.1),
    )
