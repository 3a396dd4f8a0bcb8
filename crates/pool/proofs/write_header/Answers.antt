-- `pool::write_header` meets its contract: three writes and an LF make the line.
use mathlib.Core.Path.{refl, sym, ap}
use Prim.Native.Nat.{◌≤◌}
use lib.ListN.{length}
use lib.Seq.{length-take-le}
use Rattle.model.proofs.HeldLaws.{held-few, held_four, held-limit-small}
use Rattle.pool.proofs.HeldPairLaws.{header_written}
use borrow.Author.Rules.{rules}
use native.Mathlib.Omega.{arith}
use Rattle.pool.proofs.write_header.Goals as goal

pub overflow_add-count : goal.overflow_add-count
overflow_add-count c =
    omega (arith, held-few c.args.a c.requires.held, held-few c.args.b c.requires.held_2)

pub limit_sums-sums-requires-clause-by_index : goal.limit_sums-sums-requires-clause-by_index
limit_sums-sums-requires-clause-by_index c = held-limit-small c.args.a c.requires.held

pub limit_sums-sums-requires-clause-by_index_2 : goal.limit_sums-sums-requires-clause-by_index_2
limit_sums-sums-requires-clause-by_index_2 c = held-limit-small c.args.b c.requires.held_2

pub slice_bounds-sums-end : goal.slice_bounds-sums-end
slice_bounds-sums-end c =
    let inside : c.args.a.slots ≤ length c.limit_sums-sums.result = omega (arith, held_four c.args.a c.requires.held, ap length c.limit_sums-sums.ensures) in
    inside

pub slice_bounds-write_row-end-2 : goal.slice_bounds-write_row-end-2
slice_bounds-write_row-end-2 c =
    let inside : c.args.a.slots ≤ length c.limit_sums-sums.result = omega (arith, held_four c.args.a c.requires.held, ap length c.limit_sums-sums.ensures) in
    sym (length-take-le c.args.a.slots c.limit_sums-sums.result (inside))

pub returns : goal.returns
returns c =
    let a = c.args in
    header_written a.a a.b c.requires.held c.requires.held_2 a.buf.now _ _ _ c.limit_sums-sums.result _ _ _ _ _
    c.write_row.ensures c.write.ensures c.write_row-2.ensures refl refl
    (search rules) (search rules) c.limit_sums-sums.ensures refl c.requires.slots_in_bounds
