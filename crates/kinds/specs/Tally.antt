-- What a count leaves in the tally.
use Rattle.std.specs.Prelude.{ℕ, ◌+◌, ◌%◌, ◌^◌, List, slice_index, slice_set}

-- the counts with one more of a kind; a place past the end is none
abbrev pub counted : List ℕ → ℕ → List ℕ
counted counts kind = slice_set counts kind ((slice_index counts kind + 1) % 2 ^ 64)
