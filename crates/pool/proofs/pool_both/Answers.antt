-- `pool::pool_both` meets its contract: 21 to 23, or the pooled book where there is room for it.
use native.Mathlib.Omega.{arith}
use mathlib.Core.Path.{refl, sym, ap₂}
use Prim.Native.Nat.{◌≤◌}
use lib.ListN.{length}
use Rattle.model.specs.Bounds.{most_book}
use Rattle.model.specs.Frames.{after_line}
use Rattle.model.specs.Answers.{in_room}
use Rattle.model.specs.Pool.{Mills, pooled_with}
use Rattle.model.proofs.AnswerLaws.{writes-same}
use Rattle.model.proofs.PoolLaws.{pooled-few}
use Rattle.pool.specs.Mills.{mills_of}
use Rattle.pool.proofs.ResultLaws.{parts, both_refused, pooled_result}
use Rattle.pool.proofs.pool_both.Goals as goal

pub returns-in-Err : goal.returns-in-Err
returns-in-Err c =
    let a = c.args in
    both_refused a.first.now a.second.now a.pooled.now (mills_of a.a a.b) c.requires.second_value c.in-Err.r (sym c.in-Err.ensures) _ c.refusal.ensures

pub overflow_add-lines : goal.overflow_add-lines
overflow_add-lines c =
    let p = parts c.args.first.now c.args.second.now _ c.requires.second_value c.in_default.ensures _ _ c.line_length-lines.ensures refl in
    omega (arith, p.first_there)

pub overflow_add-others : goal.overflow_add-others
overflow_add-others c =
    let p = parts c.args.first.now c.args.second.now _ c.requires.second_value c.in_default.ensures _ _ refl c.line_length-others.ensures in
    omega (arith, p.second_there)

pub slice_bounds-write_pooled-count : goal.slice_bounds-write_pooled-count
slice_bounds-write_pooled-count c =
    let p = parts c.args.first.now c.args.second.now _ c.requires.second_value c.in_default.ensures _ _ c.line_length-lines.ensures c.line_length-others.ensures in
    omega (arith, p.first_there)

pub slice_bounds-write_pooled-start : goal.slice_bounds-write_pooled-start
slice_bounds-write_pooled-start c =
    let p = parts c.args.first.now c.args.second.now _ c.requires.second_value c.in_default.ensures _ _ c.line_length-lines.ensures c.line_length-others.ensures in
    omega (arith, p.first_there)

pub slice_bounds-write_pooled-count-2 : goal.slice_bounds-write_pooled-count-2
slice_bounds-write_pooled-count-2 c =
    let p = parts c.args.first.now c.args.second.now _ c.requires.second_value c.in_default.ensures _ _ c.line_length-lines.ensures c.line_length-others.ensures in
    omega (arith, p.second_there)

pub slice_bounds-write_pooled-start-2 : goal.slice_bounds-write_pooled-start-2
slice_bounds-write_pooled-start-2 c =
    let p = parts c.args.first.now c.args.second.now _ c.requires.second_value c.in_default.ensures _ _ c.line_length-lines.ensures c.line_length-others.ensures in
    omega (arith, p.second_there)

pub write_pooled-requires-clause-others_len_bound : goal.write_pooled-requires-clause-others_len_bound
write_pooled-requires-clause-others_len_bound c =
    let a = c.args in
    let m : Mills = mills_of a.a a.b in
    let p = parts a.first.now a.second.now m c.requires.second_value c.in_default.ensures _ _ c.line_length-lines.ensures c.line_length-others.ensures in
    let long : length (pooled_with m (after_line a.first.now) (after_line a.second.now)) ≤ most_book = pooled-few a.first.now a.second.now m p.can in
    rw (p.first_part, p.second_part) long

pub returns : goal.returns
returns c =
    let a = c.args in
    let m : Mills = mills_of a.a a.b in
    let p = parts a.first.now a.second.now m c.requires.second_value c.in_default.ensures _ _ c.line_length-lines.ensures c.line_length-others.ensures in
    pooled_result a.first.now a.second.now a.pooled.now m p.can _ _
    (writes-same (ap₂ (λ x y. in_room (pooled_with m x y) (length a.pooled.now)) p.first_part p.second_part) c.write_pooled.ensures)
