-- How many choices a book has.
use Rattle.std.specs.Prelude.{ℕ, ◌+◌, ◌*◌, ◌%◌, ◌^◌, fold, take}
use Rattle.fields.specs.declared.Book.{Book}
use Rattle.fields.specs.Used.{used_loads}

-- the number of choices of the first loads: the product of what each has, standing and its options
abbrev pub choices_of : Book → ℕ → ℕ
choices_of book first = fold (λ all load. (all * ((load.o + 1) % 2 ^ 64)) % 2 ^ 64) 1 (take first (used_loads book))
