-- What a call answers and leaves: of equal results the same, of a refusal the buffer as it was, in the buffer the bytes that it writes, and where there is room for
-- them; and what is printed of it.
-- Assumes nothing.
use mathlib.Core.Path.{◌≡◌, refl, sym, ap, ap₂, ◌∙◌}
use mathlib.Core.Bool.{cond}
use mathlib.Core.List.{List, [], ◌∷◌, ◌++◌}
use Prim.Native.Nat.{ℕ, ◌<◌, ◌≤◌}
use native.Mathlib.Omega.{arith}
use lib.Dec.{ltb, eqb}
use borrow.Author.Tests.{ne_eqb, lt-ltb, le-ltb}
use lib.ListN.{length, take, drop, length-append}
use lib.Seq.{take_at}
use Rattle.model.specs.declared.Answer.{Answer}
use Rattle.model.specs.declared.Refusal.{Refusal}
use Rattle.model.specs.declared.Refusal.TheVariants.{BufferTooSmall}
use Rattle.std.specs.Prelude.{Ok, Err}
use Rattle.model.specs.Refusals.{Finding, Result, refused, done, first, checked, number_of}
use Rattle.model.specs.Answers.{Output, bytes_only, refusal_answer, answer_of, buffer_after, Writes, room_rule, in_room}
use Rattle.model.specs.Frames.{digits}
use Rattle.model.specs.Sheet.{lf}
use Rattle.model.specs.Program.{refusal_line, printed, printed_from}
use Rattle.model.proofs.FrameLaws.{length_digits}
use Rattle.model.proofs.RefusalLaws.{number-some, first_here, first_last}

-- of equal results the same is written
pub writes-same : {x y : Result Output} {before after : List ℕ} {a : Answer} → x ≡ y → Writes x before after a → Writes y before after a
writes-same {before = before} e w = record { answers = w.answers ∙ ap answer_of e; leaves = w.leaves ∙ ap (λ z. buffer_after z before) e }

-- a refusal leaves the buffer as it was
pub refused-writes : (x : Result Output) (r : Refusal) (line : ℕ) (before : List ℕ) (a : Answer) → a ≡ refusal_answer r line → x ≡ refused r line
    → Writes x before before a
refused-writes x r line before a e q =
    record { answers = e ∙ ap answer_of (sym q); leaves = ap (λ y. buffer_after y before) (sym q) }

-- the bytes that a result writes; a refusal writes none
abbrev pub written_of : Result Output → List ℕ
written_of (refused r line) = []
written_of (done x) = x.bytes

-- as many as the answer says are found in the buffer
pub bytes_left : (x : Result Output) {before after : List ℕ} {a : Answer} → Writes x before after a → take a.bytes after ≡ written_of x
bytes_left (refused r line) {after = after} w = ap (λ (b : Answer). take b.bytes after) w.answers
bytes_left (done x) {before = before} w =
    ap₂ (λ (b : Answer) l. take b.bytes l) w.answers w.leaves
    ∙ take_at x.bytes (drop (length x.bytes) before) (length x.bytes) refl

-- and no more than there are in it
pub bytes-few : (x : Result Output) {before after : List ℕ} {a : Answer} → Writes x before after a → a.bytes ≤ length after
bytes-few (refused r line) w = omega (arith, ap (λ (b : Answer). b.bytes) w.answers)
bytes-few (done x) {before = before} w =
    omega (arith, ap (λ (b : Answer). b.bytes) w.answers, ap length w.leaves, length-append x.bytes (drop (length x.bytes) before))

-- ---- bytes and their room

module _ (bytes : List ℕ) (room : ℕ) where
  pub room_refused : room < length bytes → in_room bytes room ≡ refused BufferTooSmall 0
  unfolding in_room
  room_refused h = ap (λ f. checked 0 f (done (bytes_only bytes))) (first_here BufferTooSmall [] (ltb room (length bytes)) (lt-ltb room (length bytes) h))

  pub room_fits : length bytes ≤ room → in_room bytes room ≡ done (bytes_only bytes)
  unfolding in_room
  room_fits h = ap (λ f. checked 0 f (done (bytes_only bytes))) (first_last BufferTooSmall (ltb room (length bytes)) (le-ltb room (length bytes) h))

  -- where the number is 0, they are what was written
  pub room_left : {before after : List ℕ} {a : Answer} → Writes (in_room bytes room) before after a → a.number ≡ 0 → take a.bytes after ≡ bytes
  unfolding in_room
  room_left {before} {after} {a} w zero = go (first (room_rule (length bytes) room ∷ [])) w
    where
      go : (f : Finding) → Writes (checked 0 f (done (bytes_only bytes))) before after a → take a.bytes after ≡ bytes
      go (Ok tt) w = bytes_left (done (bytes_only bytes)) w
      go (Err r) w = absurd (number-some r (sym (ap (λ (x : Answer). x.number) w.answers) ∙ zero))

-- ---- what is printed

-- what is printed of the answer and the buffer is what is printed of the result
pub printed_from_lem : (x : Result Output) {before after : List ℕ} {a : Answer} → Writes x before after a → printed_from a after ≡ printed x
printed_from_lem (refused r line) {after = after} w =
    ap (λ (b : Answer). printed_from b after) w.answers ∙ ap (λ t. cond t (take 0 after) (refusal_line (number_of r) line)) (ne_eqb (number_of r) 0 (number-some r))
printed_from_lem (done x) {after = after} {a = a} w =
    ap (λ (b : Answer). cond (eqb b.number 0) (take a.bytes after) (refusal_line b.number b.line)) w.answers ∙ bytes_left (done x) w

-- the line of a refusal has 9 bytes
pub length-refusal : (number line : ℕ) → length (refusal_line number line) ≡ 9
unfolding refusal_line
length-refusal number line =
    let ab = digits 2 255 ++ digits 2 number in
    let n₁ : length ab ≡ 4 = omega (arith, length-append (digits 2 255) (digits 2 number), length_digits 2 255, length_digits 2 number) in
    let n₂ : length (ab ++ digits 4 line) ≡ 8 = omega (arith, n₁, length-append ab (digits 4 line), length_digits 4 line) in
    omega (arith, n₂, length-append (ab ++ digits 4 line) lf)
