-- `search::search` meets its contract: the first layer is made, and then the loads run.
use native.Mathlib.Omega.{arith}
use Prim.Native.Nat.{◌+◌}
use Rattle.search.proofs.ModelLaws.{width_in}
use Rattle.search.proofs.RunLaws.{empty-first, origin_in, origin_room, run_first, set_first, set_long, places_from, past_words_kept}
use Rattle.search.proofs.search.Goals as goal

pub overflow_add-first : goal.overflow_add-first
overflow_add-first c = let m = c.requires.modelled in omega (arith, origin_in m, width_in m, m.grid_is.cells_fit)

pub start-requires : goal.start-requires
start-requires c = origin_room c.requires.modelled c.args.work.now c.requires.cells_in_bounds

pub run_loads-requires-clause-empty_from : goal.run_loads-requires-clause-empty_from
run_loads-requires-clause-empty_from c =
    let e = c.start.ensures in
    let o = c.args.grid.origin in
    empty-first o (o + 1)

pub run_loads-requires-clause-run : goal.run_loads-requires-clause-run
run_loads-requires-clause-run c =
    let e = c.start.ensures in
    let o = c.args.grid.origin in
    λ m.
    run_first m _ _ _ _ e (origin_room m c.args.work.now c.requires.cells_in_bounds) (set_first o) (set_first (o + 1)) (empty-first o (o + 1)) (set_long o) (set_long (o + 1))

pub returns-clause-work_unchanged : goal.returns-clause-work_unchanged
returns-clause-work_unchanged c =
    let m = c.requires.modelled in
    let q = places_from _ (omega (arith, origin_in m, width_in m)) c.start.ensures c.run_loads.ensures.places in
    past_words_kept q

pub returns-clause-places : goal.returns-clause-places
returns-clause-places c =
    let m = c.requires.modelled in
    let q = places_from _ (omega (arith, origin_in m, width_in m)) c.start.ensures c.run_loads.ensures.places in
    q
