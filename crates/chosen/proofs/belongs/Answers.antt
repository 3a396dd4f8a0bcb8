-- `chosen::belongs` meets its contract: the part of the array that was lent holds the sheet that is due.
use mathlib.Core.Path.{sym, ◌∙◌}
use mathlib.Core.List.{List}
use Prim.Native.Nat.{ℕ}
use lib.ListN.{replicate}
use lib.Seq.{length-take-le}
use native.Mathlib.Omega.{arith}
use Rattle.model.specs.Bounds.{most_sheet}
use Rattle.chosen.proofs.DueLaws.{sheet_room, due_room, due_is}
use Rattle.chosen.proofs.belongs.Goals as goal

-- the array before the sheet is written
abbrev zeros : List ℕ
zeros = replicate most_sheet 0

pub slice_bounds-due-end : goal.slice_bounds-due-end
slice_bounds-due-end c =
    sheet_room c.args.book c.requires.held _ c.sheet_length-n.ensures

pub slice_bounds-write_sheet-end : goal.slice_bounds-write_sheet-end
slice_bounds-write_sheet-end c =
    sym (length-take-le _ zeros (sheet_room c.args.book c.requires.held _ c.sheet_length-n.ensures))

pub write_sheet-requires-clause-book_in_bounds : goal.write_sheet-requires-clause-book_in_bounds
write_sheet-requires-clause-book_in_bounds c =
    let n = c.sheet_length-n in
    omega (arith, n.ensures, length-take-le n.result zeros (sheet_room c.args.book c.requires.held _ n.ensures))

-- of the array after the sheet is written, what the sheet's length and its writing tell
pub slice_bounds-due-end-2 : goal.slice_bounds-due-end-2
slice_bounds-due-end-2 c =
    due_room c.args.book c.requires.held c.args.picks c.requires.picked c.args.trials _ zeros _ (omega arith)
    c.sheet_length-n.ensures c.write_sheet.ensures.leaves

pub slice_bounds-same-end : goal.slice_bounds-same-end
slice_bounds-same-end c =
    sym (length-take-le _ _
    (due_room c.args.book c.requires.held c.args.picks c.requires.picked c.args.trials _ zeros _ (omega arith)
    c.sheet_length-n.ensures c.write_sheet.ensures.leaves))

pub returns : goal.returns
returns c =
    let due = due_is c.args.book c.requires.held c.args.picks c.requires.picked c.args.trials _ zeros _ (omega arith)
    c.sheet_length-n.ensures c.write_sheet.ensures.leaves in
    record { same = λ e. c.same.ensures.0 e ∙ due; known = λ e. c.same.ensures.1 (e ∙ sym due) }
