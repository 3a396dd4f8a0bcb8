-- How long the first book of a day is.
use Rattle.std.specs.Prelude.{ℕ, zero, suc, Bool, cond, List, [], ◌∷◌, eqb}
use Rattle.model.specs.Day.{empty_line}

-- how many bytes stand before the first empty line; all, where there is none. `starts` says whether a line starts here
unfoldable pub book_length : Bool → List ℕ → ℕ
book_length starts [] = zero
book_length starts (b ∷ bs) = cond (empty_line starts b) zero (suc (book_length (eqb b 10) bs))
