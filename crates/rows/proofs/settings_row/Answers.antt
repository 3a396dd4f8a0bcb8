-- `rows::settings_row` meets its contract. The invariant: the row was offered what the settings from `first` to before m bring.
use Prim.Native.Nat.{◌-◌, ◌+◌}
use mathlib.Core.Path.{◌≡◌}
use native.Mathlib.Omega.{arith}
use Rattle.rows.proofs.MoveLaws.{moves_none, moves_room, moves_more, moves_all}
use Rattle.rows.proofs.settings_row.Goals as goal

pub loop-m-init : goal.loop-m-init
loop-m-init c = let e : c.args.first - c.args.first ≡ 0 = omega arith in rw e (moves_none _ _ _ _ _ _ _ _)

pub setting_row-requires-clause-move_room : goal.setting_row-requires-clause-move_room
setting_row-requires-clause-move_room c =
    moves_room _ _ _ _ _ _ _ _ _ c.requires.grid_fits c.requires.rows c.requires.row_lt_rows c.loop-m.invariant c.requires.load_room (omega arith)

pub loop-m-preserved : goal.loop-m-preserved
loop-m-preserved c =
    let m = c.loop-m.m in
    let e : m + 1 - c.args.first ≡ m - c.args.first + 1 = omega arith in
    rw e (moves_more _ _ _ _ _ _ _ _ _ c.requires.grid_fits c.requires.rows c.requires.row_lt_rows c.loop-m.invariant (omega arith) c.setting_row.ensures)

pub returns : goal.returns
returns c = moves_all _ _ _ _ _ _ _ _ _ _ (omega arith) (omega arith) c.loop-m.invariant
