-- `planner::plan_book` meets its contract: a refusal of 9 to 11, the search's, which is 12, or 17, or the plan's sheet.
use mathlib.Core.Path.{refl, sym, ◌∙◌}
use Rattle.std.proofs.lemmas.Result.{err_from_is_err_and}
use Rattle.model.proofs.AnswerLaws.{writes-same, refused-writes}
use Rattle.model.proofs.HeldLaws.{held-few}
use Rattle.grid.proofs.SlotLaws.{cells_capped}
use Rattle.fits.proofs.SizeLaws.{fits_words, fits_room, fits-few}
use Rattle.planner.proofs.CallLaws.{fitting-plan}
use Rattle.planner.proofs.FoundLaws.{search-refused, search-missing, found-picked, found-sheet}
use Rattle.planner.proofs.plan_book.Goals as goal

pub size_finding-requires-clause-capped : goal.size_finding-requires-clause-capped
size_finding-requires-clause-capped c = cells_capped _ _ c.grid_of-grid.ensures

pub search_for-requires-clause-grid_is : goal.search_for-requires-clause-grid_is
search_for-requires-clause-grid_is c =
    let g = c.grid_of-grid.ensures in
    g.is (fits-few _ _ _ (sym c.in_ok-size_finding.ensures) _ (cells_capped _ _ g))

pub search_for-requires-clause-book_in_bounds : goal.search_for-requires-clause-book_in_bounds
search_for-requires-clause-book_in_bounds c = fits_words _ _ _ (sym c.in_ok-size_finding.ensures)

pub returns-in_err-plan-clause-result : goal.returns-in_err-plan-clause-result
returns-in_err-plan-clause-result c =
    let a = c.args in
    let p = err_from_is_err_and c.from_residual-in_err-plan.result c.from_residual-in_err-plan.ensures.1 in
    let s = search-refused a.test _ _ c.in_err-plan.ensures.found in
    rw (p.1, p.2, s.0) (refused-writes _ _ 0 a.sheet.now _ refl (fitting-plan a.test _ _ _ (sym c.in_ok-size_finding.ensures) ∙ s.1))

pub returns-in_default-clause-result : goal.returns-in_default-clause-result
returns-in_default-clause-result c =
    let a = c.args in
    refused-writes _ _ 0 a.sheet.now _ refl
    (fitting-plan a.test _ _ _ (sym c.in_ok-size_finding.ensures) ∙ search-missing a.test _ _ c.in_ok-plan.ensures.found c.in_default.is)

pub picks_of-picks-requires : goal.picks_of-picks-requires
picks_of-picks-requires c = held-few c.args.book c.requires

pub write_sheet-requires-clause-picked : goal.write_sheet-requires-clause-picked
write_sheet-requires-clause-picked c =
    found-picked c.args.test c.args.book c.requires _ c.in_ok-plan.ensures.found _ c.in-Some.is _ c.picks_of-picks.ensures

pub write_sheet-requires-clause-book_in_bounds : goal.write_sheet-requires-clause-book_in_bounds
write_sheet-requires-clause-book_in_bounds c = fits_room _ _ _ (sym c.in_ok-size_finding.ensures)

pub returns-clause-result : goal.returns-clause-result
returns-clause-result c =
    let a = c.args in
    writes-same
    (found-sheet a.test a.book c.requires _ c.in_ok-plan.ensures.found _ c.in-Some.is _ c.picks_of-picks.ensures
    ∙ sym (fitting-plan a.test _ _ _ (sym c.in_ok-size_finding.ensures)))
    c.write_sheet.ensures
