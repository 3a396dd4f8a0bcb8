-- `grid::grid_of` meets its contract. The invariant: the numbers are those of the slots from t on.
use Prim.Native.Nat.{◌-◌, ◌<◌}
use mathlib.Core.Path.{refl, sym, subst}
use native.Mathlib.Omega.{arith}
use lib.ListN.{length, get_or}
use Rattle.model.specs.Grid.{slots_of}
use Rattle.model.specs.Trials.{cells}
use Rattle.model.specs.Values.{problem_of}
use Rattle.model.proofs.HeldLaws.{held_four, held-limit-small}
use Rattle.grid.specs.declared.Grid.{Grid}
use Rattle.grid.specs.Geometry.{SlotIs, no_slot}
use Rattle.grid.proofs.SlotLaws.{slots_length, header_fits, ratio-fits, slot_at_lem, slot_sound, sizes_small, depth_less}
use Rattle.grid.proofs.GeometryLaws.{back_one, MadeFrom, grid_none, grid_more, grid_all, Small, products_small, cells_over}
use Rattle.grid.proofs.grid_of.Goals as goal
use Rattle.grid.proofs.grid_of.Goals.{After-slot_of-slot}

-- the geometry before slot t - 1
abbrev before : (c : After-slot_of-slot) → Grid
before c =
    let l = c.loop-t in
    record {
      slots = c.args.book.slots;
      sizes = l.sizes;
      rows = l.rows;
      width = l.width;
      cells = l.cells;
      origin = l.origin;
    }

-- the numbers of slot t - 1, which are those of the book's, and small
module _ (c : After-slot_of-slot) where
  in-book : c.loop-t.t - 1 < length (slots_of (problem_of c.args.book))
  in-book = omega (arith, slots_length c.args.book c.requires)

  slot_is : SlotIs (get_or (slots_of (problem_of c.args.book)) (c.loop-t.t - 1) no_slot) c.slot_of-slot.result
  slot_is =
      let t = c.loop-t.t - 1 in
      subst (λ x. SlotIs x c.slot_of-slot.result) (sym (slot_at_lem c.args.book c.requires t (omega arith))) (c.slot_of-slot.ensures t)

  deep : c.slot_of-slot.result.depth < c.slot_of-slot.result.width
  deep =
      let sound = slot_sound c.args.book c.requires (c.loop-t.t - 1) in-book in
      omega (arith, slot_is.depth_is, slot_is.width_is, depth_less (get_or (slots_of (problem_of c.args.book)) (c.loop-t.t - 1) no_slot) sound.ratio_some)

  small : Small (before c) c.slot_of-slot.result
  small =
      let l = c.loop-t in
      let slot = get_or (slots_of (problem_of c.args.book)) (l.t - 1) no_slot in
      let sound = slot_sound c.args.book c.requires (l.t - 1) in-book in
      let sizes = sizes_small slot sound.limit_small sound.loads_few sound.ratio_some sound.ratio_few in
      products_small (slots_of (problem_of c.args.book)) l.t (before c) c.slot_of-slot.result l.invariant.1 (omega arith)
      (omega (arith, slot_is.top_is, sizes)) (omega (arith, slot_is.width_is, sizes)) deep

pub loop-t-init : goal.loop-t-init
loop-t-init c =
    (held_four c.args.book c.requires, grid_none (slots_of (problem_of c.args.book)) c.args.book.slots _ (sym (slots_length c.args.book c.requires)) refl)

pub slot_of-slot-requires-clause-le_loads : goal.slot_of-slot-requires-clause-le_loads
slot_of-slot-requires-clause-le_loads c =
    header_fits c.args.book c.requires

pub slot_of-slot-requires-clause-limit_bound : goal.slot_of-slot-requires-clause-limit_bound
slot_of-slot-requires-clause-limit_bound c =
    let t = c.loop-t.t - 1 in
    (omega (arith, held-limit-small c.args.book c.requires t (omega (arith, held_four c.args.book c.requires))), (ratio-fits c.args.book c.requires).0, (ratio-fits c.args.book c.requires).1)

pub overflow_mul-rows : goal.overflow_mul-rows
overflow_mul-rows c = omega (arith, (small (goal.at.overflow_mul-rows c).After-slot_of-slot).rows)

pub overflow_mul-width : goal.overflow_mul-width
overflow_mul-width c = omega (arith, (small (goal.at.overflow_mul-width c).After-slot_of-slot).width)

pub overflow_mul-cells : goal.overflow_mul-cells
overflow_mul-cells c = omega (arith, (small (goal.at.overflow_mul-cells c).After-slot_of-slot).pairs)

pub overflow_mul-cells-in-loop-t : goal.overflow_mul-cells-in-loop-t
overflow_mul-cells-in-loop-t c = omega (arith, (small (goal.at.overflow_mul-cells-in-loop-t c).After-slot_of-slot).cells)

pub overflow_mul-origin : goal.overflow_mul-origin
overflow_mul-origin c = omega (arith, (small (goal.at.overflow_mul-origin c).After-slot_of-slot).origin)

pub overflow_add-origin : goal.overflow_add-origin
overflow_add-origin c = omega (arith, (small (goal.at.overflow_add-origin c).After-slot_of-slot).origin)

pub loop-t-preserved : goal.loop-t-preserved
loop-t-preserved c =
    let l = c.loop-t in
    let q = (goal.at.loop-t-preserved c).After-slot_of-slot in
    let slots = slots_of (problem_of c.args.book) in (
      l.invariant.0,
      grid_more slots (l.t - 1) (omega (arith, slots_length c.args.book c.requires)) (in-book q) c.slot_of-slot.result (slot_is q) (deep q) (before q)
          (back_one (λ t. MadeFrom slots t (before q)) l.t c.loop-t-test.true l.invariant.1),
    )

pub returns-then-cells-gt-CELLS : goal.returns-then-cells-gt-CELLS
unfolding cells
returns-then-cells-gt-CELLS c =
    let l = c.loop-t in
    record { is = λ k. absurd (omega arith); over = λ k. cells_over (slots_of (problem_of c.args.book)) l.t _ l.invariant.1.cells_are k }

pub returns-after-loop-t : goal.returns-after-loop-t
unfolding cells
returns-after-loop-t c =
    let l = c.loop-t in
    let slots = slots_of (problem_of c.args.book) in
    record {
      is = grid_all slots l.t _ (omega arith) (sym (slots_length c.args.book c.requires)) (omega (arith, slots_length c.args.book c.requires)) l.invariant.1;
      over = λ k. cells_over slots l.t _ l.invariant.1.cells_are k;
    }
