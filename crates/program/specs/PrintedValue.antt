-- What values of the declared type Printed hold (src/lib.rt).
use Rattle.std.specs.Prelude.{ℕ, ◌-◌, List, ◌++◌, length, replicate}
use Rattle.model.specs.Bounds.{most_sheet}
use Rattle.program.specs.declared.Printed.{Printed}

-- the value of what is printed: these bytes, then zeros
unfoldable pub printed_value : List ℕ → Printed
printed_value out = record { bytes = out ++ replicate (most_sheet - length out) 0; length = length out }
