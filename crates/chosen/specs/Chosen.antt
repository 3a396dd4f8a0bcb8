-- What is found on a sheet: the numbers on its first line, whether its bytes are those that are due, and its choice.
use Rattle.std.specs.Prelude.{ℕ, ◌≡◌, Bool, true, List, Option, None, Some}
use Rattle.std.proofs.Math.Option.{none, some}
use Rattle.model.specs.declared.Refusal.TheVariants.{ForeignSheet}
use Rattle.model.specs.Refusals.{refused, done}
use Rattle.model.specs.Book.{Problem}
use Rattle.model.specs.SheetReader.{choice_from, trials_on, sheet_choice}
use Rattle.model.specs.Values.{Picked, choice_of}
use Rattle.chosen.specs.declared.OnSheet.{OnSheet}

-- each number is one of its load's, and the choice on the sheet is that of the numbers
pub record Numbered (sheet : List ℕ) (b : Problem) (picks : List ℕ) : Type 0 where
  pub picked : Picked b picks
  pub found : choice_from sheet 0 b.loads ≡ some (choice_of b picks)

-- the numbers on a sheet; or there is no choice on it
abbrev pub PicksOn : List ℕ → Problem → Option (List ℕ) → Type 0
PicksOn sheet b None = choice_from sheet 0 b.loads ≡ none
PicksOn sheet b (Some picks) = Numbered sheet b picks

-- whether the bytes are those that are due
pub record Belongs (sheet due : List ℕ) (is : Bool) : Type 0 where
  pub same : is ≡ true → sheet ≡ due
  pub known : sheet ≡ due → is ≡ true

-- a sheet belongs to the book, and the choice and the trials on it are these
pub record Stated (sheet : List ℕ) (b : Problem) (on : OnSheet) : Type 0 where
  pub picked : Picked b on.picks
  pub found : sheet_choice sheet b ≡ done (choice_of b on.picks)
  pub trials : on.trials ≡ trials_on sheet

-- a sheet, read to a choice: it belongs to the book, and states this; or it is foreign
abbrev pub ChoiceOn : List ℕ → Problem → Option OnSheet → Type 0
ChoiceOn sheet b None = sheet_choice sheet b ≡ refused ForeignSheet 0
ChoiceOn sheet b (Some on) = Stated sheet b on
