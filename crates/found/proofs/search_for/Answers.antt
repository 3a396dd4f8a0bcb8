-- `found::search_for` meets its contract: the search runs over the book's table, and the scan finds the plan of its test.
use native.Mathlib.Omega.{arith}
use Rattle.grid.proofs.SlotLaws.{laid}
use Rattle.search.proofs.ModelLaws.{grid_fits}
use Rattle.found.proofs.SearchLaws.{model, moves_are, layer_room, words_enough, words_kept, layer_coded, found-over, found-missing, found-plan}
use Rattle.found.proofs.search_for.Goals as goal

pub loads_of-moves-requires-clause-laid : goal.loads_of-moves-requires-clause-laid
loads_of-moves-requires-clause-laid c = laid c.args.book c.requires.held c.args.grid c.requires.grid_is

pub search-ran-requires : goal.search-ran-requires
search-ran-requires c =
    let a = c.args in
    let r = c.requires in
    record {
      cells_in_bounds = words_enough a.book r.held a.grid r.grid_is a.work.now r.book_in_bounds;
      modelled = model a.book r.held a.grid r.grid_is _ (moves_are a.book r.held a.grid r.grid_is _ c.loads_of-moves.ensures);
    }

pub returns-then-budget-trials : goal.returns-then-budget-trials
returns-then-budget-trials c =
    let a = c.args in
    let r = c.requires in
    let loads = moves_are a.book r.held a.grid r.grid_is _ c.loads_of-moves.ensures in
    let ran = c.search-ran.ensures in
    record {
      found = found-over a.book r.held a.grid r.grid_is _ loads a.test _ _ _ _ _ (ran.searched (model a.book r.held a.grid r.grid_is _ loads)) c.if-budget-trials.true;
      words = words_kept a.book r.held a.grid r.grid_is _ _ _ _ _ ran.places ran.work_unchanged;
    }

pub scan-best-requires : goal.scan-best-requires
scan-best-requires c =
    let a = c.args in
    let r = c.requires in
    let loads = moves_are a.book r.held a.grid r.grid_is _ c.loads_of-moves.ensures in
    let m = model a.book r.held a.grid r.grid_is c.loads_of-moves.result loads in
    let ran = c.search-ran.ensures in
    record {
      grid_fits = grid_fits m;
      cells_in_bounds = layer_room ran.places (words_enough a.book r.held a.grid r.grid_is a.work.now r.book_in_bounds);
      stretches_fit = record { low_fits = ran.places.low_fits; high_fits = ran.places.high_fits };
      held = r.held;
      grid_is = r.grid_is;
      layer_coded = layer_coded a.book r.held a.grid r.grid_is _ loads _ _ _ _ ((ran.searched m).within (omega (arith, c.if-budget-trials.false))).1;
    }

pub returns-then-best-eq0 : goal.returns-then-best-eq0
returns-then-best-eq0 c =
    let a = c.args in
    let r = c.requires in
    let loads = moves_are a.book r.held a.grid r.grid_is _ c.loads_of-moves.ensures in
    let ran = c.search-ran.ensures in
    record {
      found =
          found-missing a.book r.held a.grid r.grid_is _ loads a.test _ _ _ _ _ c.scan-best.ensures _ (ran.searched (model a.book r.held a.grid r.grid_is _ loads))
          (omega (arith, c.if-budget-trials.false)) c.if-best-eq0.true;
      words = words_kept a.book r.held a.grid r.grid_is _ _ _ _ _ ran.places ran.work_unchanged;
    }

pub returns : goal.returns
returns c =
    let a = c.args in
    let r = c.requires in
    let loads = moves_are a.book r.held a.grid r.grid_is _ c.loads_of-moves.ensures in
    let ran = c.search-ran.ensures in
    record {
      found =
          found-plan a.book r.held a.grid r.grid_is _ loads a.test _ _ _ _ _ c.scan-best.ensures _ (ran.searched (model a.book r.held a.grid r.grid_is _ loads))
          (omega (arith, c.if-budget-trials.false)) c.if-best-eq0.false;
      words = words_kept a.book r.held a.grid r.grid_is _ _ _ _ _ ran.places ran.work_unchanged;
    }
