-- `order::order_for` meets its contract: refusal 13 for either sheet, and else what the loads on them give.
use mathlib.Core.Path.{ap, ◌∙◌}
use lib.ListN.{length}
use Rattle.model.specs.declared.Refusal.TheVariants.{ForeignSheet}
use Rattle.model.specs.Order.{loads_order}
use Rattle.model.specs.Values.{problem_of}
use Rattle.model.proofs.HeldLaws.{held-valid, held-count, held-few}
use Rattle.starts.specs.Places.{running_in}
use Rattle.order.proofs.ResultLaws.{order_same, refused-order}
use Rattle.order.proofs.SheetsLaws.{running_foreign, planned-foreign, sheets_read}
use Rattle.order.proofs.order_for.Goals as goal

pub returns-in_default : goal.returns-in_default
returns-in_default c =
    let a = c.args in
    refused-order _ ForeignSheet a.order.now c.refused.result c.refused.ensures
    (running_foreign (problem_of a.book) (held-valid a.book c.requires) a.running.now a.planned.now a.names.now (length a.order.now)
    c.in_default.ensures)

pub returns-in_default-choice_on : goal.returns-in_default-choice_on
returns-in_default-choice_on c =
    let a = c.args in
    refused-order _ ForeignSheet a.order.now c.refused-in_default-choice_on.result c.refused-in_default-choice_on.ensures
    (planned-foreign (problem_of a.book) (held-valid a.book c.requires) a.running.now a.planned.now a.names.now (length a.order.now)
    _ c.in-Some.ensures c.in_default-choice_on.ensures)

pub order_of-requires : goal.order_of-requires
order_of-requires c =
    held-few c.args.book c.requires

pub returns : goal.returns
returns c =
    let a = c.args in
    let old = c.in-Some in
    let new = c.in-Some-choice_on in
    order_same
    (ap (λ n. loads_order n a.names.now (length a.order.now) (running_in n old.old.picks) (running_in n new.new.picks)) (held-count a.book c.requires)
    ∙ sheets_read (problem_of a.book) (held-valid a.book c.requires) a.running.now a.planned.now a.names.now (length a.order.now)
    _ old.ensures _ new.ensures)
    c.order_of.ensures
