-- What is printed, from the planner's answer and the buffer that it was lent.
-- Assumes nothing.
use mathlib.Core.Path.{◌≡◌, refl, sym, ap, ap₂, ◌∙◌}
use mathlib.Core.List.{List, ◌++◌}
use Prim.Native.Nat.{ℕ, ◌≤◌}
use native.Mathlib.Omega.{arith}
use lib.ListN.{length, take, drop, set, length-append, take-append-drop}
use lib.Seq.{length-take-le, drop_at}
use Rattle.model.specs.declared.Answer.{Answer}
use Rattle.model.specs.Frames.{digits}
use Rattle.model.specs.Refusals.{Result, refused, done}
use Rattle.model.specs.Answers.{Output, buffer_after, Writes}
use Rattle.model.specs.Sheet.{lf}
use Rattle.model.specs.Program.{refusal_line, printed, printed_from}
use Rattle.model.proofs.FrameLaws.{length_digits}
use Rattle.model.proofs.AnswerLaws.{printed_from_lem}
use Rattle.hexadecimal.specs.Written.{written}
use Rattle.hexadecimal.proofs.WrittenLaws.{length-written, write_on, write_byte, written_start}

-- three fields and an LF
pub refusal-written : (l l₁ l₂ l₃ : List ℕ) (number line : ℕ) → l₁ ≡ written l 0 (digits 2 255) → l₂ ≡ written l₁ 2 (digits 2 number)
    → l₃ ≡ written l₂ 4 (digits 4 line) → 9 ≤ length l → set l₃ 8 10 ≡ written l 0 (refusal_line number line)
unfolding refusal_line
refusal-written l l₁ l₂ l₃ number line e₁ e₂ e₃ h =
    let a = digits 2 255 in
    let b = digits 2 number in
    let d = digits 4 line in
    let na : length a ≡ 2 = length_digits 2 255 in
    let nb : length b ≡ 2 = length_digits 2 number in
    let nd : length d ≡ 4 = length_digits 4 line in
    let w₂ : l₂ ≡ written l 0 (a ++ b) = e₂ ∙ write_on l l₁ 0 2 a b e₁ (omega arith) (omega arith) in
    let n₂ : length (a ++ b) ≡ 4 = length-append a b ∙ (omega arith) in
    let w₃ : l₃ ≡ written l 0 ((a ++ b) ++ d) = e₃ ∙ write_on l l₂ 0 4 (a ++ b) d w₂ (omega arith) (omega arith) in
    let n₃ : length ((a ++ b) ++ d) ≡ 8 = length-append (a ++ b) d ∙ (omega arith) in
    let n : length l₃ ≡ length l = ap length w₃ ∙ length-written l 0 ((a ++ b) ++ d) (omega arith) in
    write_byte l₃ 8 10 (omega arith)
    ∙ write_on l l₃ 0 8 ((a ++ b) ++ d) lf w₃ (omega arith) (omega arith)

-- a buffer with its own first bytes written is as it was
pub own_written : (l : List ℕ) (n : ℕ) → n ≤ length l → l ≡ written l 0 (take n l)
own_written l n h = sym (written_start l (take n l) ∙ ap (λ m. take n l ++ drop m l) (length-take-le n l h) ∙ take-append-drop n l)

-- over the buffer that a call left, what is printed of it is written as over the buffer that it was lent
pub printed-over : (x : Result Output) (before after : List ℕ) (a : Answer) → Writes x before after a
    → written after 0 (printed_from a after) ≡ written before 0 (printed x)
printed-over x before after a w = ap₂ (λ l bytes. written l 0 bytes) w.leaves (printed_from_lem x w) ∙ over x
  where
    over : (x : Result Output) → written (buffer_after x before) 0 (printed x) ≡ written before 0 (printed x)
    over (refused r line) = refl
    over (done s) =
        let rest = drop (length s.bytes) before in
        written_start (s.bytes ++ rest) s.bytes
        ∙ ap (λ l. s.bytes ++ l) (drop_at s.bytes rest (length s.bytes) refl)
        ∙ sym (written_start before s.bytes)
