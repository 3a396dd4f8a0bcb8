-- `pool::write_pooled` meets its contract: refusal 11, or three writes in a row.
use native.Mathlib.Omega.{arith}
use mathlib.Core.Path.{refl, sym}
use Prim.Native.Nat.{◌+◌, ◌*◌, ◌≤◌}
use lib.ListN.{length}
use Rattle.model.specs.Bounds.{most_book}
use Rattle.model.specs.Pool.{pooled_with}
use Rattle.hexadecimal.proofs.RoomLaws.{without_room, with_room}
use Rattle.pool.specs.Mills.{mills_of}
use Rattle.pool.proofs.HeldPairLaws.{length-pooled, pooled-written}
use Rattle.pool.proofs.write_pooled.Goals as goal

pub overflow_mul-header : goal.overflow_mul-header
overflow_mul-header c =
    let fits : 19 + 4 * c.args.a.slots + length c.args.lines.now + length c.args.others.now ≤ most_book = omega (arith, c.requires.others_len_bound, length-pooled c.args.a c.args.b c.requires.held c.requires.held_2 c.args.lines.now c.args.others.now) in
    omega (arith, fits)

pub overflow_add-header : goal.overflow_add-header
overflow_add-header c =
    let fits : 19 + 4 * c.args.a.slots + length c.args.lines.now + length c.args.others.now ≤ most_book = omega (arith, c.requires.others_len_bound, length-pooled c.args.a c.args.b c.requires.held c.requires.held_2 c.args.lines.now c.args.others.now) in
    omega (arith, fits)

pub overflow_add-second : goal.overflow_add-second
overflow_add-second c =
    let fits : 19 + 4 * c.args.a.slots + length c.args.lines.now + length c.args.others.now ≤ most_book = omega (arith, c.requires.others_len_bound, length-pooled c.args.a c.args.b c.requires.held c.requires.held_2 c.args.lines.now c.args.others.now) in
    omega (arith, fits)

pub overflow_add-bytes : goal.overflow_add-bytes
overflow_add-bytes c =
    let fits : 19 + 4 * c.args.a.slots + length c.args.lines.now + length c.args.others.now ≤ most_book = omega (arith, c.requires.others_len_bound, length-pooled c.args.a c.args.b c.requires.held c.requires.held_2 c.args.lines.now c.args.others.now) in
    omega (arith, fits)

pub returns-then-pooled-bytes : goal.returns-then-pooled-bytes
returns-then-pooled-bytes c =
    let a = c.args in
    without_room (pooled_with (mills_of a.a a.b) a.lines.now a.others.now) a.pooled.now _ c.refusal.ensures
    (omega (arith, length-pooled a.a a.b c.requires.held c.requires.held_2 a.lines.now a.others.now, c.if-pooled-bytes.true))

pub returns : goal.returns
returns c =
    let a = c.args in
    let long = length-pooled a.a a.b c.requires.held c.requires.held_2 a.lines.now a.others.now in
    let left = c.if-pooled-bytes.false in
    with_room (pooled_with (mills_of a.a a.b) a.lines.now a.others.now) a.pooled.now _ _ _
    (pooled-written a.a a.b c.requires.held c.requires.held_2 a.pooled.now _ _ _ a.lines.now a.others.now _ _
    c.write_header.ensures c.copy.ensures c.copy-2.ensures refl refl (omega (arith, left)))
    (sym long) c.success.ensures (omega (arith, long, left))
