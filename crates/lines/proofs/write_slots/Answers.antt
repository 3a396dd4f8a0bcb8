-- `lines::write_slots` meets its contract. The invariant: the lines of the slots passed are written.
use mathlib.Core.Path.{sym, ap, ◌∙◌}
use Rattle.hexadecimal.specs.Written.{written}
use Rattle.hexadecimal.proofs.WrittenLaws.{written_none}
use Rattle.lines.proofs.LineLaws.{slots-none, slots_go}
use native.Mathlib.Omega.{arith}
use Rattle.lines.proofs.write_slots.Goals as goal

pub loop-s-init : goal.loop-s-init
loop-s-init c =
    let a = c.args in
    sym (ap (written a.part.now 0) (slots-none a.count a.actives a.reactives a.limits) ∙ written_none a.part.now 0)

pub loop-s-preserved : goal.loop-s-preserved
loop-s-preserved c =
    let a = c.args in
    let l = c.loop-s in
    slots_go a.count a.part.now l.part _ a.actives a.reactives a.limits _ l.s a.slots _ l.invariant
    c.word_of-word.ensures c.write_slot.ensures (omega arith) (omega arith) c.requires.slots_le_most_slots.2
