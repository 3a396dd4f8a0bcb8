-- `order::order` meets its contract: a refusal of the book is passed on, and else the sheets are read.
use mathlib.Core.Path.{refl, sym, ap, ◌∙◌}
use lib.ListN.{length}
use Rattle.model.specs.declared.Answer.{Answer}
use Rattle.model.specs.Order.{sheets_order, order_result, WritesOrder}
use Rattle.model.proofs.OrderKeptLaws.{kept}
use Rattle.model.proofs.ReadingLaws.{reading_held, reading_done, refusal_passed_on}
use Rattle.model.proofs.RefusalLaws.{number-some}
use Rattle.order.proofs.ResultLaws.{order_same}
use Rattle.order.proofs.order.Goals as goal

pub order_for-requires : goal.order_for-requires
order_for-requires c = reading_held _ c.in-Ok.read c.in-Ok.ensures

pub returns-in-Ok-clause-result : goal.returns-in-Ok-clause-result
unfolding order_result
returns-in-Ok-clause-result c =
    let a = c.args in
    order_same (reading_done _ c.in-Ok.read c.in-Ok.ensures (sheets_order a.running.now a.planned.now a.names.now (length a.order.now))) c.order_for.ensures

pub returns-in-Ok-clause-kept : goal.returns-in-Ok-clause-kept
unfolding order_result
returns-in-Ok-clause-kept c =
    let a = c.args in
    let w = order_same (reading_done _ c.in-Ok.read c.in-Ok.ensures (sheets_order a.running.now a.planned.now a.names.now (length a.order.now))) c.order_for.ensures in
    kept a.book.now a.running.now a.planned.now a.names.now (length a.order.now) w

pub returns-in-Err-clause-result : goal.returns-in-Err-clause-result
unfolding order_result
returns-in-Err-clause-result c =
    let a = c.args in
    let buffer = a.order.now in
    refusal_passed_on _ c.in-Err.refused c.in-Err.ensures (λ x y. WritesOrder x buffer buffer (record { answer = y; starts = 0; stops = 0 }))
    (λ refusal line. record { writes = record { answers = refl; leaves = refl }; starts = refl; stops = refl })
    (sheets_order a.running.now a.planned.now a.names.now (length buffer)) _ c.from.ensures

pub returns-in-Err-clause-kept : goal.returns-in-Err-clause-kept
returns-in-Err-clause-kept c = λ zero. absurd (number-some c.in-Err.refused.refusal (sym (ap (λ (x : Answer). x.number) c.from.ensures) ∙ zero))
