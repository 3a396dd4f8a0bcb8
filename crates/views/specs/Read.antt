-- What is read of a book and a sheet.
use Rattle.std.specs.Prelude.{ℕ, ◌≡◌, List, Ok, Err}
use Rattle.std.specs.Prelude as std
use Rattle.model.specs.declared.Refused.{Refused}
use Rattle.model.specs.Refusals.{refused, done}
use Rattle.model.specs.Values.{Held, Picked, choice_of, problem_of}
use Rattle.model.specs.Views.{accepted}
use Rattle.views.specs.declared.SheetRead.{SheetRead}

-- the book and the sheet are accepted, and the value holds the book and the choice on the sheet
pub record Accepts (book sheet : List ℕ) (v : SheetRead) : Type 0 where
  pub held : Held v.book
  pub picked : Picked (problem_of v.book) v.picks
  pub is : accepted book sheet ≡ done (record { b = problem_of v.book; choice = choice_of (problem_of v.book) v.picks })

-- or one of them is refused, on this line
abbrev pub Read : List ℕ → List ℕ → std.Result SheetRead Refused → Type 0
Read book sheet (Ok v) = Accepts book sheet v
Read book sheet (Err x) = accepted book sheet ≡ refused x.refusal x.line
