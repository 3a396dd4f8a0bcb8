-- `day::book_end` meets its contract. The invariant: what is left has the rest of the book.
use mathlib.Core.Bool.{◌&&◌}
use mathlib.Core.Path.{◌≡◌, sym, ap₂, ◌∙◌}
use Rattle.model.proofs.ListLaws.{when_false}
use Rattle.day.proofs.SplitLaws.{end_here, end_later, end_last}
use lib.ListN.{length}
use borrow.Author.Rules.{rules}
use native.Mathlib.Omega.{arith}
use Rattle.day.proofs.book_end.Goals as goal
use Rattle.day.proofs.book_end.Goals.{else-starts-via-then-starts+else-ends, else-starts-via-else-starts}

pub returns-then-ends : goal.returns-then-ends
returns-then-ends c =
    let l = c.loop-at in
    end_here _ _ l.at _ l.invariant (search rules) (ap₂ ◌&&◌ c.if-starts.true c.if-ends.true-raw)

pub loop-at-preserved : goal.loop-at-preserved
loop-at-preserved c =
    let l = c.loop-at in
    elim c.else-starts.branch [
      | else-starts-via-then-starts+else-ends w ↦ end_later _ _ l.at _ l.invariant (search rules) (ap₂ ◌&&◌ w.if-starts.true w.if-ends.false-raw)
      | else-starts-via-else-starts w ↦ end_later _ _ l.at _ l.invariant (search rules) (sym (when_false _ _ w.if-starts.false))
    ]

pub returns : goal.returns
returns c =
    let l = c.loop-at in
    let all : l.at ≡ length c.args.books.now = omega arith in
    sym all ∙ end_last _ _ l.at _ l.invariant all
