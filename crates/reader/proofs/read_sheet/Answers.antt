-- `reader::read_sheet` meets its contract: a refusal of the book is passed on, and else the sheet is read.
use mathlib.Core.Path.{refl, ap, ◌∙◌}
use Rattle.model.specs.declared.SheetAnswer.{SheetAnswer}
use Rattle.model.specs.SheetReader.{sheet_data, reader_result, sheet_answer_of}
use Rattle.model.proofs.ReadingLaws.{reading_held, reading_done, refusal_passed_on}
use Rattle.reader.proofs.read_sheet.Goals as goal

pub read_for-requires : goal.read_for-requires
read_for-requires c = reading_held _ c.in-Ok.read c.in-Ok.ensures

pub returns-in-Ok : goal.returns-in-Ok
unfolding reader_result
returns-in-Ok c = c.read_for.ensures ∙ ap sheet_answer_of (reading_done _ c.in-Ok.read c.in-Ok.ensures (sheet_data c.args.sheet.now))

pub returns-in-Err : goal.returns-in-Err
unfolding reader_result
returns-in-Err c =
    refusal_passed_on _ c.in-Err.refused c.in-Err.ensures (λ x y. Path SheetAnswer (record { answer = y; code = 0 }) (sheet_answer_of x)) (λ refusal line. refl)
    (sheet_data c.args.sheet.now) _ c.from.ensures
