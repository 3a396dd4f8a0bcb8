-- `scan::passes` meets its contract, test by test.
use mathlib.Core.Path.{sym, ap, ◌∙◌}
use Rattle.grid.proofs.SlotLaws.{laid}
use Rattle.admits.proofs.SlotLaws.{slots-held}
use Rattle.scan.specs.Scan.{test_of}
use Rattle.model.specs.Values.{problem_of}
use Rattle.scan.proofs.passes.Goals as goal

pub admits_cell-requires : goal.admits_cell-requires
admits_cell-requires c =
    slots-held c.args.book c.requires.held c.args.grid c.requires.grid_is

pub returns-in-Admission : goal.returns-in-Admission
unfolding laid slots-held
returns-in-Admission c =
    let a = c.args in
    c.admits_cell.ensures (slots-held a.book c.requires.held a.grid c.requires.grid_is)
    ∙ sym (ap (λ t. test_of t (problem_of a.book) a.row a.col a.code) c.in-Admission.is)
