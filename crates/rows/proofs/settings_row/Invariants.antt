-- `rows::settings_row` meets its contract. The invariant: the row was offered what the settings from `first` to before m bring.
use Prim.Native.Nat.{◌-◌, ◌+◌, ◌*◌}
use Rattle.rows.specs.Row.{RowKeys, raised_rows}
use Rattle.rows.proofs.settings_row.Given as goal

abbrev pub invariant-loop-m : goal.invariant-loop-m
invariant-loop-m l =
    RowKeys l.initial.work l.work (l.next + l.row * l.grid.width) l.grid.width (raised_rows l.initial.work l.layer.lows l.layer.highs l.grid l.cur l.next l.load l.row l.first (l.m - l.first))
