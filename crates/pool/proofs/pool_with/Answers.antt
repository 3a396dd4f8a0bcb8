-- `pool::pool_with` meets its contract: a refusal of the second book with its line counted on, or both are pooled.
use native.Mathlib.Omega.{arith}
use Prim.Native.Nat.{◌+◌}
use Rattle.model.specs.Values.{problem_of}
use Rattle.model.proofs.HeldLaws.{held-count, held-few}
use Rattle.model.proofs.ReadingLaws.{reading_held, reading_is, reading_refusal, refused-line}
use Rattle.pool.proofs.ResultLaws.{both_read, second-refused}
use Rattle.pool.proofs.pool_with.Goals as goal

pub pool_both-requires-clause-held_2 : goal.pool_both-requires-clause-held_2
pool_both-requires-clause-held_2 c = reading_held _ c.in-Ok.b c.in-Ok.ensures

pub pool_both-requires-clause-second_value : goal.pool_both-requires-clause-second_value
pool_both-requires-clause-second_value c =
    let a = c.args in
    both_read a.first.now a.second.now (problem_of a.a) (problem_of c.in-Ok.b) c.requires.first_value (reading_is _ c.in-Ok.b c.in-Ok.ensures)

pub overflow_add-a : goal.overflow_add-a
overflow_add-a c = omega (arith, held-few c.args.a c.requires.held)

pub later-requires : goal.later-requires
later-requires c = omega (arith, held-few c.args.a c.requires.held, refused-line _ c.in-Err.refused c.in-Err.ensures)

pub returns-in-Err : goal.returns-in-Err
returns-in-Err c =
    let a = c.args in
    second-refused a.first.now a.second.now a.pooled.now (problem_of a.a) c.requires.first_value (a.a.count + 1)
    (omega (arith, held-count a.a c.requires.held)) c.in-Err.refused _ (reading_refusal _ c.in-Err.refused c.in-Err.ensures) c.later.ensures _ c.from.ensures
