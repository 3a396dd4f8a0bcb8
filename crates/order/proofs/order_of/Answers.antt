-- `order::order_of` meets its contract: refusals 15, 16 and 11 in turn, and else the order.
use mathlib.Core.Path.{sym, ◌∙◌}
use lib.ListN.{length}
use Rattle.model.specs.declared.Refusal.TheVariants.{BufferTooSmall, WrongNames, NamedLoadStands}
use Rattle.order.proofs.ResultLaws.{refused-order, names_refused, inside, blocked_is, blocked-refused, passed, order-refused, unrefused, order-written}
use Rattle.order.proofs.order_of.Goals as goal

pub returns-then-wrong_names : goal.returns-then-wrong_names
returns-then-wrong_names c =
    let a = c.args in
    refused-order _ WrongNames a.order.now c.refused.result c.refused.ensures
    (names_refused a.count a.running a.planned a.names.now (length a.order.now) c.requires
    (sym c.wrong_names.ensures ∙ c.if-wrong_names.true))

pub some_blocked-requires : goal.some_blocked-requires
some_blocked-requires c =
    let a = c.args in
    inside a.count a.running a.planned a.names.now (length a.order.now) c.requires (sym c.wrong_names.ensures ∙ c.if-wrong_names.false)

pub returns-then-some_blocked : goal.returns-then-some_blocked
returns-then-some_blocked c =
    let a = c.args in
    let right = sym c.wrong_names.ensures ∙ c.if-wrong_names.false in
    refused-order _ NamedLoadStands a.order.now c.refused-then-some_blocked.result c.refused-then-some_blocked.ensures
    (blocked-refused a.count a.running a.planned a.names.now (length a.order.now) c.requires right
    (blocked_is a.count a.running a.planned a.names.now (length a.order.now) c.requires right _ c.some_blocked.ensures ∙ c.if-some_blocked.true))

pub returns-then-order-starts : goal.returns-then-order-starts
returns-then-order-starts c =
    let a = c.args in
    let n = c.start_count-starts in
    let p = passed a.count a.running a.planned a.names.now (length a.order.now) c.requires _ _ c.wrong_names.ensures c.if-wrong_names.false c.some_blocked.ensures c.if-some_blocked.false in
    refused-order _ BufferTooSmall a.order.now c.refused-then-order-starts.result c.refused-then-order-starts.ensures
    (order-refused a.count a.running a.planned a.names.now (length a.order.now) c.requires p.right p.free n.result n.ensures c.if-order-starts.true)

pub write_order-requires : goal.write_order-requires
write_order-requires c =
    let a = c.args in
    let n = c.start_count-starts in
    let p = passed a.count a.running a.planned a.names.now (length a.order.now) c.requires _ _ c.wrong_names.ensures c.if-wrong_names.false c.some_blocked.ensures c.if-some_blocked.false in
    unrefused a.count a.running a.planned a.names.now (length a.order.now) c.requires p.right p.free n.result n.ensures c.if-order-starts.false

pub returns : goal.returns
returns c =
    let a = c.args in
    let starts = c.start_count-starts in
    let stops = c.start_count-stops in
    let p = passed a.count a.running a.planned a.names.now (length a.order.now) c.requires _ _ c.wrong_names.ensures c.if-wrong_names.false c.some_blocked.ensures c.if-some_blocked.false in
    order-written a.count a.running a.planned a.names.now (length a.order.now) c.requires p.right p.free starts.result starts.ensures c.if-order-starts.false
    stops.result stops.ensures c.success-answer.result c.success-answer.ensures a.order.now _ c.write_order.ensures
