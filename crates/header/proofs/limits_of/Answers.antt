-- `header::limits_of` meets its contract. The invariant: the first s entries are filled.
use Prim.Native.Nat.{ℕ}
use lib.ListN.{get_or, length-set}
use Rattle.model.specs.Book.{limits_in}
use Rattle.model.proofs.UptoLaws.{fill_more}
use borrow.Author.Rules.{rules}
use native.Mathlib.Omega.{arith}
use Rattle.header.proofs.limits_of.Goals as goal

pub loop-s-preserved : goal.loop-s-preserved
loop-s-preserved c =
    let l = c.loop-s in
    let f : ℕ → ℕ = λ k. get_or (limits_in c.args.line.now) k 0 in
    (search rules, simp length-set l.invariant.1, fill_more f l.limits l.s _ (omega arith) c.limit_at.ensures l.invariant.2)
