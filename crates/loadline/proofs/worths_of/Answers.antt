-- `loadline::worths_of` meets its contract. The invariant: the first c entries are filled.
use Prim.Native.Nat.{ℕ}
use lib.ListN.{length-set}
use Rattle.model.specs.Book.{settings}
use Rattle.model.specs.Choice.{setting_of}
use Rattle.model.proofs.UptoLaws.{fill_more}
use borrow.Author.Rules.{rules}
use native.Mathlib.Omega.{arith}
use Rattle.loadline.proofs.worths_of.Goals as goal

pub loop-c-preserved : goal.loop-c-preserved
loop-c-preserved c =
    let a = c.args in
    let l = c.loop-c in
    let f : ℕ → ℕ = λ k. (setting_of (settings a.slots a.line.now) k).worth in
    (search rules, simp length-set l.invariant.1, fill_more f l.worths l.c _ (omega arith) c.worth_of.ensures l.invariant.2)
