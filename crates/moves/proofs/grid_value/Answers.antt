-- `moves::grid_value` meets its contract.
use Prim.Native.Nat.{◌≤◌}
use mathlib.Core.Path.{◌≡◌, sym, ap, ◌∙◌}
use native.Mathlib.Omega.{arith}
use lib.IntN.{nat_abs}
use Rattle.model.specs.Grid.{floor_div}
use Rattle.model.specs.Values.{raised, lowered}
use Rattle.model.specs.Rounding.{floor_by_sum}
use Rattle.model.proofs.ValueLaws.{raised_parts, lowered_back, lowered-small}
use Rattle.model.proofs.RoundingLaws.{divided, rounding}
use Rattle.moves.proofs.grid_value.Goals as goal

pub returns-clause-value : goal.returns-clause-value
returns-clause-value c =
    let q = lowered c.args.power in
    let l = c.args.step in
    let small : nat_abs q ≤ 32768 = lowered-small c.args.power c.requires.0 in
    let same : floor_by_sum q l ≡ floor_div q l = rounding q l small c.requires.1 c.requires.2 in
    divided q l _ c.requires.1 small (omega (arith, raised_parts q small, lowered_back c.args.power)) ∙ ap raised (sym same)

pub returns-clause-step_value : goal.returns-clause-step_value
returns-clause-step_value c =
    let q = lowered c.args.power in
    let l = c.args.step in
    let small : nat_abs q ≤ 32768 = lowered-small c.args.power c.requires.0 in
    let same : floor_by_sum q l ≡ floor_div q l = rounding q l small c.requires.1 c.requires.2 in
    same
