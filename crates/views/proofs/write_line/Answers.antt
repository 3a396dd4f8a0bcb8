-- `views::write_line` meets its contract: four writes in a row make the line.
use Rattle.views.proofs.MillLaws.{line-written}
use Rattle.views.proofs.write_line.Goals as goal

pub returns : goal.returns
returns c =
    let a = c.args in
    let w = c.write_loads-end in
    line-written a.view.now _ _ _ a.picks a.worth a.count w.result
    c.write.ensures
    c.write-2.ensures
    c.write_loads-end.ensures.bytes c.write_loads-end.ensures.next c.requires.count_in_bounds
