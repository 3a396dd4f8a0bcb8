-- `views::mill_of` meets its contract: refusal 11, or the line of the definitions.
use mathlib.Core.Path.{ap, ◌∙◌}
use native.Mathlib.Omega.{arith}
use Rattle.model.specs.Values.{choice_of, problem_of}
use Rattle.model.specs.Views.{mill_line}
use Rattle.model.proofs.HeldLaws.{held-valid, held-count, held-few}
use Rattle.hexadecimal.specs.Written.{written}
use Rattle.views.proofs.MillLaws.{loads_most, line-is, mill_long}
use Rattle.hexadecimal.proofs.RoomLaws.{without_room, with_room}
use Rattle.views.proofs.mill_of.Goals as goal

pub loads_length-bytes-requires : goal.loads_length-bytes-requires
loads_length-bytes-requires c = held-few c.args.book c.requires.held

pub overflow_add-bytes : goal.overflow_add-bytes
overflow_add-bytes c =
    omega (arith, c.loads_length-bytes.ensures, loads_most c.args.picks c.args.book.count, held-few c.args.book c.requires.held)

pub returns-then-view-bytes : goal.returns-then-view-bytes
returns-then-view-bytes c =
    let a = c.args in
    let b = problem_of a.book in
    without_room (mill_line (choice_of b a.picks)) a.view.now _ c.refusal.ensures
    (omega (
      arith,
      c.if-view-bytes.true,
      c.loads_length-bytes.ensures,
      mill_long b (held-valid a.book c.requires.held) a.picks c.requires.picked a.book.count (held-count a.book c.requires.held),
    ))

pub write_line-requires-clause-count_le_most_loads : goal.write_line-requires-clause-count_le_most_loads
write_line-requires-clause-count_le_most_loads c = held-few c.args.book c.requires.held

pub returns : goal.returns
returns c =
    let a = c.args in
    let b = problem_of a.book in
    let n = c.loads_length-bytes in
    let worth = c.worth_of-worth in
    let long = mill_long b (held-valid a.book c.requires.held) a.picks c.requires.picked a.book.count (held-count a.book c.requires.held) in
    with_room (mill_line (choice_of b a.picks)) a.view.now _ _ _
    (c.write_line.ensures
    ∙ ap (written a.view.now 0)
    (line-is b (held-valid a.book c.requires.held) a.picks c.requires.picked worth.result a.book.count worth.ensures (held-count a.book c.requires.held)))
    (omega (arith, long, n.ensures)) c.success.ensures
    (omega (arith, long, n.ensures, c.if-view-bytes.false))
