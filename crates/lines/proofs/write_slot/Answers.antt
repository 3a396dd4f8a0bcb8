-- `lines::write_slot` meets its contract: five writes in a row make the line.
use Rattle.lines.proofs.LineLaws.{slot_written}
use native.Mathlib.Omega.{arith}
use Rattle.lines.proofs.write_slot.Goals as goal

pub returns : goal.returns
returns c =
    let a = c.args in
    slot_written a.part.now _ _ _ _ a.at _ _ _ _ a.active a.word a.limit
    c.write.ensures
    c.write-2.ensures
    c.write-3.ensures
    c.write-4.ensures
    (omega arith) (omega arith) (omega arith) (omega arith) c.requires
