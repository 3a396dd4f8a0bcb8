-- `search::run_loads` meets its contract. The invariant: the layer, the reached cells and the trials are those of the first k loads.
use borrow.Author.Rules.{rules}
use borrow.Author.Tests.{lt-ltb}
use native.Mathlib.Omega.{arith}
use Prim.Native.Nat.{ℕ}
use lib.ListN.{length-replicate}
use Rattle.model.specs.Bounds.{most_rows}
use Rattle.search.proofs.ModelLaws.{rows_one, grid_fits, load_fits}
use Rattle.search.proofs.RunLaws.{empty_zeros, run_cur, run_rows, run_stretches, run_room, run_tries, run_trials, run_more, stopped, ended}
use Rattle.search.proofs.run_loads.Goals as goal

pub loop-k-init : goal.loop-k-init
loop-k-init c =
    (omega arith, length-replicate {A = ℕ} most_rows 0, length-replicate {A = ℕ} most_rows 0, rows_one c.requires.modelled, c.requires.empty_from, empty_zeros 1, c.requires.run)

pub tries-trials-requires : goal.tries-trials-requires
tries-trials-requires c =
    run_tries c.requires.modelled c.loop-k-test.true c.requires.cells_in_bounds (c.loop-k.invariant.6 c.requires.modelled)

pub returns-then-budget-trials-clause-places : goal.returns-then-budget-trials-clause-places
returns-then-budget-trials-clause-places c = (c.loop-k.invariant.6 c.requires.modelled).places

pub returns-then-budget-trials-clause-searched : goal.returns-then-budget-trials-clause-searched
returns-then-budget-trials-clause-searched c =
    let l = c.loop-k-test.true in
    λ m. stopped m _ _ l (run_trials m l c.requires.cells_in_bounds (c.loop-k.invariant.6 m) c.tries-trials.ensures.0) c.if-budget-trials.true

pub overflow_sub-cells : goal.overflow_sub-cells
overflow_sub-cells c =
    run_cur c.requires.modelled c.loop-k-test.true c.requires.cells_in_bounds (c.loop-k.invariant.6 c.requires.modelled)

pub load_pass-reached-requires : goal.load_pass-reached-requires
load_pass-reached-requires c =
    let m = c.requires.modelled in
    let l = c.loop-k-test.true in
    let room = c.requires.cells_in_bounds in
    let run = c.loop-k.invariant.6 m in
    record {
      grid_fits = grid_fits m;
      rows = run_rows m l room run;
      stretches_fit = run_stretches m l room run;
      load_fits = load_fits m _ l;
      load_room = run_room m l room run;
      fresh_len = search rules;
      empty_from = search rules;
      empty_from_2 = search rules;
      reaches = search rules;
    }

pub overflow_sub-cur : goal.overflow_sub-cur
overflow_sub-cur c =
    run_cur c.requires.modelled c.loop-k-test.true c.requires.cells_in_bounds (c.loop-k.invariant.6 c.requires.modelled)

pub loop-k-preserved : goal.loop-k-preserved
loop-k-preserved c =
    let l = c.loop-k-test.true in
    let v = c.loop-k.invariant in
    let t = c.tries-trials.ensures in (
      omega (arith, t.1),
      c.load_pass-reached.ensures.layer_made.low_length,
      c.load_pass-reached.ensures.layer_made.high_length,
      c.reach_of-rows.ensures.fits,
      c.load_pass-reached.ensures.empty_from_3,
      c.load_pass-reached.ensures.empty_from_3,
      λ m. run_more m l c.requires.cells_in_bounds (v.6 m) t.0 (λ h. c.load_pass-reached.ensures.value (lt-ltb _ _ h)) c.load_pass-reached.ensures.layer_made,
    )

pub returns-clause-places : goal.returns-clause-places
returns-clause-places c = (c.loop-k.invariant.6 c.requires.modelled).places

pub returns-clause-searched : goal.returns-clause-searched
returns-clause-searched c = λ m. ended m _ (omega arith) c.loop-k-test.false (c.loop-k.invariant.6 m)
