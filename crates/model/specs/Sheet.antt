-- The bytes of a sheet (document 01, "The sheet").
use Rattle.std.specs.Prelude.{ℕ, ◌+◌, ◌*◌, List, [], ◌∷◌, ◌++◌, map, length, get_or}
use Rattle.model.specs.Lists.{upto, concat}
use Rattle.model.specs.Frames.{digits, unsigned}
use Rattle.model.specs.Book.{Power, Problem}
use Rattle.model.specs.Choice.{Choice, worth_of, sum_in}
use Rattle.model.specs.Answers.{Output}

-- "each line ended by one LF"
abbrev pub lf : List ℕ
lf = 10 ∷ []

-- "c of each load (2 each)"
unfoldable pub numbers_of : Choice → List ℕ
numbers_of c = concat (map (λ v. digits 2 v.number) c)

-- "The first line: `04`, worth (8 digits), trials (8), then c of each load (2 each)"
unfoldable pub first_line : Choice → ℕ → List ℕ
first_line c t = digits 2 4 ++ digits 8 (worth_of c) ++ digits 8 t ++ numbers_of c ++ lf

-- what a slot's line states: a choice's sums in the slot, and the slot's limit S
pub record SumsAndLimit : Type 0 where
  pub sum : Power
  pub limit : ℕ

abbrev pub sums_and_limit : Problem → Choice → ℕ → SumsAndLimit
sums_and_limit b c s = record { sum = sum_in s c; limit = get_or b.limits s 0 }

-- of each slot, in order: document 02's "slot sums and limits" (M-103)
unfoldable pub sums_and_limits : Problem → Choice → List SumsAndLimit
sums_and_limits b c = map (sums_and_limit b c) (upto (length b.limits))

-- "Then for each slot: `05`, sum of P (8), sum of Q (8, two's complement of 32 bits), S (4)"
unfoldable pub slot_line : SumsAndLimit → List ℕ
slot_line x = digits 2 5 ++ digits 8 x.sum.p ++ digits 8 (unsigned 32 x.sum.q) ++ digits 4 x.limit ++ lf

unfoldable pub slot_lines : List SumsAndLimit → List ℕ
slot_lines xs = concat (map slot_line xs)

-- the sheet of a choice and a number of trials: "These c are the sheet's choice; worth and sums on the sheet are that choice's"
unfoldable pub sheet_bytes : Problem → Choice → ℕ → List ℕ
sheet_bytes b c t = first_line c t ++ slot_lines (sums_and_limits b c)

abbrev pub sheet_of : Problem → Choice → ℕ → Output
sheet_of b c t = record { bytes = sheet_bytes b c t; worth = worth_of c; trials = t }

-- how many bytes every sheet for this book has
abbrev pub sheet_length : Problem → ℕ
sheet_length b = 19 + 2 * length b.loads + 23 * length b.limits
