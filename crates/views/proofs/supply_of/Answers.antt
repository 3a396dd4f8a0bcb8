-- `views::supply_of` meets its contract: refusal 11, or the slot lines.
use mathlib.Core.Path.{ap, ◌∙◌}
use native.Mathlib.Omega.{arith}
use Rattle.model.specs.Sheet.{sums_and_limits, slot_lines}
use Rattle.model.specs.Values.{choice_of, problem_of}
use Rattle.model.specs.Views.{supply_view}
use Rattle.model.proofs.HeldLaws.{held-few, held-slots, held_four}
use Rattle.model.proofs.SheetLaws.{length_slot_lines}
use Rattle.hexadecimal.specs.Written.{written}
use Rattle.sheet.proofs.WriteLaws.{reactive_room, slots-lines}
use Rattle.hexadecimal.proofs.RoomLaws.{without_room, with_room}
use Rattle.views.proofs.supply_of.Goals as goal

pub overflow_mul-bytes : goal.overflow_mul-bytes
overflow_mul-bytes c =
    omega (arith, held_four c.args.book c.requires.held)

pub returns-then-view-bytes : goal.returns-then-view-bytes
unfolding supply_view
returns-then-view-bytes c =
    let a = c.args in
    let b = problem_of a.book in
    without_room (slot_lines (sums_and_limits b (choice_of b a.picks))) a.view.now _ c.refusal.ensures
    (omega (arith, c.if-view-bytes.true, length_slot_lines b (choice_of b a.picks), held-slots a.book c.requires.held))

pub write_slots-requires-clause-slots_le_most_slots : goal.write_slots-requires-clause-slots_le_most_slots
write_slots-requires-clause-slots_le_most_slots c =
    let a = c.args in
    (omega (arith, held_four a.book c.requires.held), held-few a.book c.requires.held, omega (arith, c.if-view-bytes.false))

pub write_slots-requires-clause-by_index : goal.write_slots-requires-clause-by_index
write_slots-requires-clause-by_index c =
    let a = c.args in
    reactive_room a.book c.requires.held a.picks c.requires.picked _ c.sums_of-sums.ensures

pub returns : goal.returns
unfolding supply_view
returns c =
    let a = c.args in
    let b = problem_of a.book in
    let sums = c.sums_of-sums in
    let long = length_slot_lines b (choice_of b a.picks) in
    let slots = held-slots a.book c.requires.held in
    with_room (slot_lines (sums_and_limits b (choice_of b a.picks))) a.view.now _ _ _
    (c.write_slots.ensures ∙ ap (written a.view.now 0) (slots-lines a.book c.requires.held a.picks c.requires.picked sums.result sums.ensures))
    (omega (arith, long, slots)) c.success.ensures (omega (arith, long, slots, c.if-view-bytes.false))
