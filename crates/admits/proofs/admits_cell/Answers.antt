-- `admits::admits_cell` meets its contract. The invariant: what the slots from t on say of what is left of the row and the column is what all
-- slots say of the cell.
use mathlib.Core.Path.{◌∙◌, sym}
use native.Mathlib.Omega.{arith}
use Rattle.admits.proofs.SlotLaws.{pair_held, from_stop, from_go}
use Rattle.admits.proofs.admits_cell.Goals as goal

pub admits_pair-requires : goal.admits_pair-requires
admits_pair-requires c = let l = c.loop-t in pair_held c.requires l.t (omega arith) l.a l.b

pub returns-then-not-admits_pair : goal.returns-then-not-admits_pair
returns-then-not-admits_pair c =
    let l = c.loop-t in
    λ h. from_stop h l.t (omega arith) l.a l.b c.admits_pair.ensures c.if-not-admits_pair.true ∙ l.invariant.1 h

pub loop-t-preserved : goal.loop-t-preserved
loop-t-preserved c =
    let l = c.loop-t in (
      l.invariant.0,
      λ h. sym (from_go h l.t (omega arith) l.a l.b c.admits_pair.ensures c.if-not-admits_pair.false) ∙ l.invariant.1 h,
    )
