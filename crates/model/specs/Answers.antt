-- What a call answers, and what it leaves in the buffer that it writes (document 01, "The sheet" and "Refusals by number"). Document 02: "Document
-- 01's rules for the sheet buffer hold for the buffer of every new part."
use Rattle.std.specs.Prelude.{ℕ, ◌≡◌, List, [], ◌∷◌, ◌++◌, ltb, length, drop}
use Rattle.model.specs.declared.Answer.{Answer}
use Rattle.model.specs.declared.Refusal.{Refusal}
use Rattle.model.specs.declared.Refusal.TheVariants.{BufferTooSmall}
use Rattle.model.specs.Refusals.{Result, refused, done, Rule, ◌⇒◌, first, checked, number_of}

-- what a call gives that is not refused: the bytes that it writes, a worth and a number of trials
pub record Output : Type 0 where
  pub bytes : List ℕ
  pub worth : ℕ
  pub trials : ℕ

-- of a call whose own answer has neither; document 02: "New parts other than planners carry worth and trials 0", and M-107's "in the day's own answer"
abbrev pub bytes_only : List ℕ → Output
bytes_only bytes = record { bytes = bytes; worth = 0; trials = 0 }

-- "The answer has a number, a line, the bytes written, the worth and the trials. Success has number 0 and line 0."
abbrev pub success_answer : ℕ → ℕ → ℕ → Answer
success_answer bytes worth trials = record { number = 0; line = 0; bytes = bytes; worth = worth; trials = trials }

-- "A refusal has bytes, worth and trials 0"
abbrev pub refusal_answer : Refusal → ℕ → Answer
refusal_answer r line = record { number = number_of r; line = line; bytes = 0; worth = 0; trials = 0 }

abbrev pub answer_of : Result Output → Answer
answer_of (refused r line) = refusal_answer r line
answer_of (done x) = success_answer (length x.bytes) x.worth x.trials

-- "Bytes of the buffer past the sheet keep their values"; a refusal "changes no byte of the sheet buffer"
abbrev pub buffer_after : Result Output → List ℕ → List ℕ
buffer_after (refused r line) before = before
buffer_after (done x) before = x.bytes ++ drop (length x.bytes) before

-- what a call with this result answers and leaves: the answer, and the buffer after the call
pub record Writes (result : Result Output) (before after : List ℕ) (answer : Answer) : Type 0 where
  pub answers : answer ≡ answer_of result
  pub leaves : after ≡ buffer_after result before

-- 11: "buffer shorter than the sheet", where so many bytes are due and there is room for so many
abbrev pub room_rule : ℕ → ℕ → Rule
room_rule due room = ltb room due ⇒ BufferTooSmall

-- these bytes, with neither worth nor trials, for a buffer with room for so many: 11 where they are longer
unfoldable pub in_room : List ℕ → ℕ → Result Output
in_room bytes room = checked 0 (first (room_rule (length bytes) room ∷ [])) (done (bytes_only bytes))
