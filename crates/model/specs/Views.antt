-- What the mill and the supply company see of a sheet (document 02, M-103): "The sheet goes to the mill's own screen and to the supply company."
use Rattle.std.specs.Prelude.{ℕ, ◌+◌, ◌*◌, ◌≡◌, List, ◌++◌, map, length, take, drop}
use Rattle.model.specs.declared.Answer.{Answer}
use Rattle.model.specs.Lists.{upto_from, keep, concat}
use Rattle.model.specs.Frames.{digits}
use Rattle.model.specs.Refusals.{Result, done, and_then}
use Rattle.model.specs.Answers.{Output, Writes, in_room}
use Rattle.model.specs.Book.{Problem, read_book}
use Rattle.model.specs.Choice.{Choice, level_on, running_on, worth_of}
use Rattle.model.specs.Sheet.{lf, SumsAndLimit, sums_and_limits, slot_lines}
use Rattle.model.specs.SheetReader.{sheet_choice}

-- a book and a sheet that are accepted: what the book says, and the choice on the sheet
pub record Accepted : Type 0 where
  pub b : Problem
  pub choice : Choice

abbrev pub accepted_for : List ℕ → Problem → Result Accepted
accepted_for sheet b = and_then (sheet_choice sheet b) (λ c. done (record { b = b; choice = c }))

-- "a refused book or sheet gives the number and line of the refusal": 1 to 8, then 13
unfoldable pub accepted : List ℕ → List ℕ → Result Accepted
accepted book sheet = and_then (read_book book) (accepted_for sheet)

-- ---- the mill's view; of both views "11 comes last, for a view longer than the buffer"

-- the loads that run, "lowest first"
unfoldable pub running_loads : Choice → List ℕ
running_loads c = keep (running_on c) (upto_from 1 (length c))

-- "number and level (2 each)"
unfoldable pub number_and_level : ℕ → ℕ → List ℕ
number_and_level k level = digits 2 k ++ digits 2 level

-- "one line: `09`, worth (8), then number and level (2 each) of every running load, lowest first"; it has 11 + 4 × running loads bytes
-- (proofs/ViewLaws, `mill_length`)
unfoldable pub mill_line : Choice → List ℕ
mill_line c = digits 2 9 ++ digits 8 (worth_of c) ++ concat (map (λ k. number_and_level k (level_on c k)) (running_loads c)) ++ lf

-- the mill's view of a book and a sheet
unfoldable pub mill_result : List ℕ → List ℕ → ℕ → Result Output
mill_result book sheet room = and_then (accepted book sheet) (λ x. in_room (mill_line x.choice) room)

-- ---- the supply company's view

-- the "slot sums and limits" of an accepted sheet
abbrev pub sums_and_limits_on : Accepted → List SumsAndLimit
sums_and_limits_on x = sums_and_limits x.b x.choice

-- "only the `05` lines", 23 bytes a slot (proofs/SheetLaws, `length_slot_lines`): a function of the sums, the limits and the buffer's length alone
unfoldable pub supply_view : List SumsAndLimit → ℕ → Result Output
supply_view sums room = in_room (slot_lines sums) room

-- the supply company's view of a book and a sheet
unfoldable pub supply_result : List ℕ → List ℕ → ℕ → Result Output
supply_result book sheet room = and_then (accepted book sheet) (λ x. supply_view (sums_and_limits_on x) room)

-- the lines are those on the sheet: all that stands after its first line (proofs/ViewLaws, `lines_on_sheet`)
abbrev pub LinesOnSheet : Type 0
LinesOnSheet = (book sheet : List ℕ) (x : Accepted) → accepted book sheet ≡ done x
    → drop (19 + 2 * length x.choice) sheet ≡ slot_lines (sums_and_limits_on x)

-- "Its answer may depend on nothing else once the sheet is accepted", of one call: whatever else the book and the sheet say, the answer and what is
-- written are those of the sums, the limits and the buffer
abbrev pub NothingElse : List ℕ → List ℕ → List ℕ → List ℕ → Answer → Type 0
NothingElse book sheet before after answer =
    (x : Accepted) → accepted book sheet ≡ done x → Writes (supply_view (sums_and_limits_on x) (length before)) before after answer

-- ---- two calls

-- a call of the supply company's view for a book and a sheet that are accepted: the bytes that it was given, the buffer after it and its answer
pub record SupplyCall : Type 0 where
  pub book : List ℕ
  pub sheet : List ℕ
  pub known : Accepted
  pub accepts : accepted book sheet ≡ done known
  pub before : List ℕ
  pub after : List ℕ
  pub answer : Answer
  pub writes : Writes (supply_result book sheet (length before)) before after answer

-- the bytes that it wrote
abbrev pub view_of : SupplyCall → List ℕ
view_of x = take x.answer.bytes x.after

-- "Two accepted sheets with equal slot sums and limits, and buffers of equal length, must give the supply company the same answer and bytes, though loads,
-- worths and trials differ"; the books may differ too, and so may what the buffers hold (proofs/ViewLaws, `same_seen`)
abbrev pub SameSeen : Type 0
SameSeen = (x y : SupplyCall) → sums_and_limits_on x.known ≡ sums_and_limits_on y.known → length x.before ≡ length y.before
    → (x.answer ≡ y.answer) × (view_of x ≡ view_of y)

-- and two views that fit show different bytes where a sum or a limit differs (proofs/ViewLaws, `other_seen`)
abbrev pub OtherSeen : Type 0
OtherSeen = (x y : SupplyCall) → x.answer.number ≡ 0 → y.answer.number ≡ 0
    → (sums_and_limits_on x.known ≡ sums_and_limits_on y.known → ⊥) → view_of x ≡ view_of y → ⊥
