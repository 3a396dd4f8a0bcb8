-- The sheet reader (document 01, "Quick planner and sheet reader"; document 02, M-105).
use Rattle.std.specs.Prelude.{ℕ, suc, ◌+◌, ◌*◌, ◌^◌, ◌<◌, ◌≡◌, not, List, [], ◌∷◌, eqb}
use Rattle.std.proofs.Math.Option.{Option, none, some}
use Rattle.model.specs.declared.SheetAnswer.{SheetAnswer}
use Rattle.model.specs.declared.Refusal.TheVariants.{ForeignSheet}
use Rattle.model.specs.Lists.{same_lists}
use Rattle.model.specs.Frames.{field}
use Rattle.model.specs.Refusals.{Result, refused, done, Rule, ◌⇒◌, first, checked, and_then}
use Rattle.model.specs.Answers.{success_answer, refusal_answer}
use Rattle.model.specs.Book.{Setting, Settings, Problem, read_book}
use Rattle.model.specs.Choice.{Choice, IsChoice, code_of, worth_of, setting_numbered}
use Rattle.model.specs.Sheet.{sheet_bytes}

-- a sheet that belongs to a book: its "bytes are exactly those that some choice and some trials number from 0 to 2^32 - 1 give for this book"
pub record SheetOf (b : Problem) (sheet : List ℕ) : Type 0 where
  pub choice : Choice
  pub of_book : IsChoice b.loads choice
  pub trials : ℕ
  pub bound : trials < 2 ^ 32
  pub bytes : sheet ≡ sheet_bytes b choice trials

-- "It answers that choice's code, its worth and the trials"
pub record SheetData : Type 0 where
  pub code : ℕ
  pub worth : ℕ
  pub trials : ℕ

abbrev pub cons_both : Option Setting → Option Choice → Option Choice
cons_both none c = none
cons_both (some v) none = none
cons_both (some v) (some c) = some (v ∷ c)

-- the choice whose numbers stand on the first line, from load k + 1 on; none where a load does not offer its number, so that "a sheet with such a load standing"
-- is foreign (M-105)
abbrev pub choice_from : List ℕ → ℕ → List Settings → Option Choice
choice_from sheet k [] = some []
choice_from sheet k (vs ∷ loads) = cons_both (setting_numbered (field sheet (18 + 2 * k) 2) vs) (choice_from sheet (suc k) loads)

-- "trials (8)", after `04` and the worth
abbrev pub trials_on : List ℕ → ℕ
trials_on sheet = field sheet 10 8

-- 13: the sheet's bytes are not those of a choice and a number of trials
abbrev pub foreign_rules : Problem → List ℕ → Choice → ℕ → List Rule
foreign_rules b sheet c t = (not (same_lists eqb sheet (sheet_bytes b c t)) ⇒ ForeignSheet) ∷ []

-- 13, unless the sheet's bytes are those that the choice and the trials on its own first line give; that is so exactly where there is a `SheetOf`
-- (proofs/SheetLaws, `reader_accepts` and `reader_only`)
abbrev pub if_belongs : List ℕ → Problem → Option Choice → Result Choice
if_belongs sheet b none = refused ForeignSheet 0
if_belongs sheet b (some c) = checked 0 (first (foreign_rules b sheet c (trials_on sheet))) (done c)

-- the choice on a sheet that belongs to the book
unfoldable pub sheet_choice : List ℕ → Problem → Result Choice
sheet_choice sheet b = if_belongs sheet b (choice_from sheet 0 b.loads)

-- the sheet reader's result for one book
unfoldable pub sheet_data : List ℕ → Problem → Result SheetData
sheet_data sheet b =
    and_then (sheet_choice sheet b) (λ c. done (record { code = code_of c; worth = worth_of c; trials = trials_on sheet }))

-- the sheet reader's result
unfoldable pub reader_result : List ℕ → List ℕ → Result SheetData
reader_result book sheet = and_then (read_book book) (sheet_data sheet)

-- "with 0 bytes written; the code is 0 on refusal"
abbrev pub sheet_answer_of : Result SheetData → SheetAnswer
sheet_answer_of (refused r line) = record { answer = refusal_answer r line; code = 0 }
sheet_answer_of (done x) = record { answer = success_answer 0 x.worth x.trials; code = x.code }
