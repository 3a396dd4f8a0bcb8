-- What the values that the functions of the book reader hand on hold.
use Rattle.std.specs.Prelude.{ℕ, List, [], map, get_or, Ok, Err}
use Rattle.std.specs.Prelude as std
use Rattle.model.specs.declared.Load.{Load}
use Rattle.model.specs.Lists.{upto}
use Rattle.model.specs.Refusals.{Result, refused, done, and_then}
use Rattle.model.specs.declared.Refused.{Refused}
use Rattle.model.specs.Book.{Settings, Problem, slot_count, load_count, ratio_in, problem, read_loads}
use Rattle.model.specs.Values.{load_value}
use Rattle.model.specs.Bounds.{most_loads}

-- the values of the loads, with loads of no settings past the last
abbrev pub loads_value : List Settings → List Load
loads_value loads = map (λ k. load_value (get_or loads k [])) (upto most_loads)

-- what the load lines give: the values of the loads, or the refusal and its line
abbrev pub loads_reading : Result (List Settings) → std.Result (List Load) Refused
loads_reading (refused r line) = Err (record { refusal = r; line = line })
loads_reading (done loads) = Ok (loads_value loads)

-- the book of a header line and the bytes after it
abbrev pub rest_read : List ℕ → List ℕ → Result Problem
rest_read line rest = and_then (read_loads (slot_count line) (ratio_in line) (load_count line) 2 rest) (λ loads. done (problem line loads))
