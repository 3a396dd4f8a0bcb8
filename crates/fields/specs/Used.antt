-- The loads that a book uses.
use Rattle.std.specs.Prelude.{List, [], length, take, nat_le, cond}
use Rattle.fields.specs.declared.Book.{Book}
use Rattle.fields.specs.declared.Load.{Load}

-- the first N; none where the book has fewer
abbrev pub used_loads : Book → List Load
used_loads book = cond (nat_le book.header.loads (length book.loads)) (take book.header.loads book.loads) []
