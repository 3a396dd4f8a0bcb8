-- `day::write_books` meets its contract. The invariant: what the books left put out makes the whole.
use Prim.Native.Nat.{◌-◌, ◌≤◌}
use mathlib.Core.Path.{refl, sym, subst}
use lib.ListN.{length, drop, length-take, length-drop}
use Rattle.model.specs.Bounds.{most_sheet}
use Rattle.model.proofs.DayLaws.{output_few}
use Rattle.hexadecimal.proofs.WrittenLaws.{part_written}
use Rattle.day.proofs.SplitLaws.{end-within}
use Rattle.day.proofs.ProgressLaws.{room_left, progress_more, progress_all}
use native.Mathlib.Omega.{arith}
use Rattle.day.proofs.write_books.Goals as goal

pub slice_bounds-write_book-end : goal.slice_bounds-write_book-end
slice_bounds-write_book-end c =
    let within = end-within _ _ _ (omega arith) c.book_end-end.ensures in
    omega (arith, within)

pub write_book-at-requires : goal.write_book-at-requires
write_book-at-requires c =
    let room = room_left _ _ _ _ _ _ _ c.loop-from.invariant c.book_end-end.result (omega arith) c.book_end-end.ensures in
    let l = c.loop-from in
    omega (arith, room, length-take (length l.out - l.at) (drop l.at l.out), length-drop l.at l.out)

pub overflow_add-at : goal.overflow_add-at
overflow_add-at c =
    let room = room_left _ _ _ _ _ _ _ c.loop-from.invariant c.book_end-end.result (omega arith) c.book_end-end.ensures in
    let w = c.write_book-at in
    let few : w.result ≤ most_sheet = subst (λ n. n ≤ most_sheet) (sym c.write_book-at.ensures.length) (output_few _ _) in
    omega (arith, few, room)

pub loop-from-preserved : goal.loop-from-preserved
loop-from-preserved c =
    let room = room_left _ _ _ _ _ _ _ c.loop-from.invariant c.book_end-end.result (omega arith) c.book_end-end.ensures in
    let a = c.args in
    let l = c.loop-from in
    let e = c.book_end-end in
    let w = c.write_book-at in
    progress_more a.books.now a.work.now a.out.now l.work l.out l.at l.from l.invariant e.result w.result _ _ _ (omega arith) e.ensures
    refl c.write_book-at.ensures.length (part_written l.out _ _ l.at c.write_book-at.ensures.bytes (omega (arith, room))) c.write_book-at.ensures.words

pub returns : goal.returns
returns c =
    let a = c.args in
    let l = c.loop-from in
    let p = progress_all a.books.now a.work.now a.out.now l.work l.out l.at l.from l.invariant (omega arith) in
    record { bytes = p.0; length = p.1; words = l.invariant.words }
