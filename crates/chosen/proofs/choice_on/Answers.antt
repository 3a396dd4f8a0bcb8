-- `chosen::choice_on` meets its contract: each way to be foreign, and the choice.
use mathlib.Core.Path.{sym, subst, ◌∙◌}
use Rattle.model.specs.Values.{problem_of}
use Rattle.chosen.specs.Chosen.{ChoiceOn}
use Rattle.chosen.proofs.SheetChoiceLaws.{none-foreign, length-foreign, compared_same, compared_other}
use Rattle.chosen.proofs.choice_on.Goals as goal

pub returns-then-sheet-sheet_length : goal.returns-then-sheet-sheet_length
returns-then-sheet-sheet_length c =
    let a = c.args in
    length-foreign a.sheet.now (problem_of a.book) (λ e. c.if-sheet-sheet_length.true (e ∙ sym c.sheet_length.ensures))

pub returns-in_err-picks : goal.returns-in_err-picks
returns-in_err-picks c =
    let a = c.args in
    subst (ChoiceOn a.sheet.now (problem_of a.book)) (sym c.from_residual.ensures)
    (none-foreign a.sheet.now (problem_of a.book) c.in_err-picks.ensures)

pub returns-then-belongs : goal.returns-then-belongs
returns-then-belongs c =
    let a = c.args in
    compared_same a.sheet.now (problem_of a.book) _ _ _ c.in_ok-picks.ensures c.number-trials.ensures c.belongs.ensures c.if-belongs.true

pub returns-else-belongs : goal.returns-else-belongs
returns-else-belongs c =
    let a = c.args in
    compared_other a.sheet.now (problem_of a.book) _ _ _ c.in_ok-picks.ensures c.number-trials.ensures c.belongs.ensures c.if-belongs.false
