-- `limits::fits` meets its contract.
use Prim.Native.Nat.{◌≤◌}
use Rattle.model.proofs.Squares.{sq_mono}
use native.Mathlib.Omega.{arith}
use Rattle.limits.proofs.fits.Goals as goal

pub overflow_add-result : goal.overflow_add-result
overflow_add-result c =
    let small : c.abs_diff-size.result ≤ 2147483647 = omega (arith, c.abs_diff-size.ensures) in
    let active : c.args.p ≤ 2147483647 = omega arith in
    omega (arith, sq_mono small, sq_mono active)
