-- What the functions of pooling hand on: a refusal with its line counted on, and the two books.
use Rattle.std.specs.Prelude.{ℕ, ◌+◌}
use Rattle.model.specs.declared.Book.{Book}
use Rattle.model.specs.declared.Refused.{Refused}
use Rattle.model.specs.Values.{problem_of}
use Rattle.model.specs.Pool.{Mills}

-- the refusal with its line after so many others
abbrev pub later_refused : ℕ → Refused → Refused
later_refused n x = record { refusal = x.refusal; line = n + x.line }

-- the books that two values hold
abbrev pub mills_of : Book → Book → Mills
mills_of a b = record { a = problem_of a; b = problem_of b }
