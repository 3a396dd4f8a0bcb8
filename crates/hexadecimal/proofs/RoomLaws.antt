-- What a call answers and leaves that has bytes to write and a buffer for them: refusal 11, or the bytes from the start of the buffer on.
-- Assumes nothing.
use Prim.Native.Nat.{ℕ, ◌≤◌, ◌<◌}
use mathlib.Core.Path.{◌≡◌, sym, ap, ◌∙◌}
use mathlib.Core.List.{List}
use lib.ListN.{length}
use Rattle.model.specs.declared.Answer.{Answer}
use Rattle.model.specs.declared.Refusal.TheVariants.{BufferTooSmall}
use Rattle.model.specs.Answers.{success_answer, refusal_answer, Writes, in_room}
use Rattle.model.proofs.AnswerLaws.{writes-same, refused-writes, room_refused, room_fits}
use Rattle.hexadecimal.specs.Written.{written}
use Rattle.hexadecimal.proofs.WrittenLaws.{written_start}

module _ (bytes l : List ℕ) where
  pub without_room : (a : Answer) → a ≡ refusal_answer BufferTooSmall 0 → length l < length bytes → Writes (in_room bytes (length l)) l l a
  without_room a e h = refused-writes (in_room bytes (length l)) BufferTooSmall 0 l a e (room_refused bytes (length l) h)

  pub with_room : (l' : List ℕ) (n : ℕ) (a : Answer) → l' ≡ written l 0 bytes → n ≡ length bytes → a ≡ success_answer n 0 0 → length bytes ≤ length l
      → Writes (in_room bytes (length l)) l l' a
  with_room l' n a e q s h =
      writes-same (sym (room_fits bytes (length l) h))
      (record { answers = s ∙ ap (λ m. success_answer m 0 0) q; leaves = e ∙ written_start l bytes })
