-- `sheet::write_sheet` meets its contract: the first line and the slot lines after it are the sheet.
use mathlib.Core.Path.{◌≡◌, ◌∙◌, sym, ap₂}
use Rattle.model.specs.Answers.{success_answer}
use native.Mathlib.Omega.{arith}
use Rattle.model.proofs.HeldLaws.{held-count, held-few, held-slots, held_four}
use Rattle.sheet.proofs.WriteLaws.{reactive_room, sheet-left, bytes-length}
use Rattle.sheet.proofs.write_sheet.Goals as goal

pub write_first-requires : goal.write_first-requires
write_first-requires c =
    (held-few c.args.book c.requires.held, omega (arith, c.requires.book_in_bounds, held-count c.args.book c.requires.held))

pub overflow_mul-first : goal.overflow_mul-first
overflow_mul-first c =
    omega (arith, held-few c.args.book c.requires.held)

pub overflow_add-first : goal.overflow_add-first
overflow_add-first c =
    omega (arith, held-few c.args.book c.requires.held)

-- the slot lines' part begins within the buffer
pub slice_bounds-write_slots-count : goal.slice_bounds-write_slots-count
slice_bounds-write_slots-count c =
    omega (arith, c.requires.book_in_bounds, held-count c.args.book c.requires.held)

pub slice_bounds-write_slots-start : goal.slice_bounds-write_slots-start
slice_bounds-write_slots-start c =
    omega (arith, c.requires.book_in_bounds, held-count c.args.book c.requires.held)

pub write_slots-requires-clause-slots_le_most_slots : goal.write_slots-requires-clause-slots_le_most_slots
write_slots-requires-clause-slots_le_most_slots c =
    let a = c.args in (
      omega (arith, held_four a.book c.requires.held),
      held-few a.book c.requires.held,
      omega (arith, c.requires.book_in_bounds, held-count a.book c.requires.held, held-slots a.book c.requires.held),
    )

pub write_slots-requires-clause-by_index : goal.write_slots-requires-clause-by_index
write_slots-requires-clause-by_index c =
    let a = c.args in
    reactive_room a.book c.requires.held a.picks c.requires.picked _ c.sums_of-sums.ensures

pub returns : goal.returns
returns c =
    let a = c.args in
    let worth = c.worth_of-worth in
    let sums = c.sums_of-sums in
    let n = c.sheet_length in
    let long : n.result ≡ _ = n.ensures ∙ sym (bytes-length a.book c.requires.held a.picks c.requires.picked a.trials) in
    record {
      answers = c.success.ensures ∙ ap₂ (λ x y. success_answer x y a.trials) long worth.ensures;
      leaves = sheet-left a.book c.requires.held a.picks c.requires.picked sums.result worth.result a.trials _ a.sheet.now _ _
          sums.ensures worth.ensures
          c.write_first.ensures c.write_slots.ensures (omega arith) c.requires.book_in_bounds;
    }
