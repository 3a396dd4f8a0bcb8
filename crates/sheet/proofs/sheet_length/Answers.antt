-- `sheet::sheet_length` meets its contract: the counts are those of the book.
use native.Mathlib.Omega.{arith}
use Rattle.model.proofs.HeldLaws.{held-count, held-few, held-slots, held_four}
use Rattle.sheet.proofs.sheet_length.Goals as goal

pub overflow_mul-result : goal.overflow_mul-result
overflow_mul-result c = omega (arith, held-few c.args.book c.requires)

pub overflow_add-result : goal.overflow_add-result
overflow_add-result c = omega (arith, held-few c.args.book c.requires)

pub overflow_mul-result-2 : goal.overflow_mul-result-2
overflow_mul-result-2 c = omega (arith, held_four c.args.book c.requires)

pub overflow_add-result-2 : goal.overflow_add-result-2
overflow_add-result-2 c =
    omega (arith, held-few c.args.book c.requires, held_four c.args.book c.requires)

pub returns : goal.returns
returns c =
    omega (arith, held-count c.args.book c.requires, held-slots c.args.book c.requires)
