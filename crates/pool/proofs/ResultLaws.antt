-- What pooling gives: a refusal of the first book, of the second with its line counted on, of both, or the pooled bytes where there is room for them.
-- Assumes nothing.
use Prim.Native.Nat.{ℕ, suc, ◌+◌, ◌-◌, ◌<◌}
use mathlib.Core.Path.{◌≡◌, sym, ap, ◌∙◌}
use mathlib.Core.List.{List}
use native.Mathlib.Numerals.{add-one}
use native.Mathlib.Omega.{arith}
use lib.ListN.{length, take, drop}
use Rattle.model.specs.declared.Answer.{Answer}
use Rattle.model.specs.declared.Refused.{Refused}
use Rattle.std.specs.Prelude.{Ok, Err}
use Rattle.model.specs.declared.Refusal.{Refusal}
use Rattle.model.specs.Refusals.{Result, refused, done, first, checked, and_then}
use Rattle.model.specs.Answers.{Output, Writes, refusal_answer, in_room}
use Rattle.model.specs.Book.{Problem, read_book}
use Rattle.model.specs.Frames.{line_length, after_line}
use Rattle.model.specs.Demand.{N}
use Rattle.model.specs.Pool.{later, Mills, with_second, matching, read_both, pair_rules, poolable, pooled_bytes, pool_result}
use Rattle.model.proofs.AnswerLaws.{writes-same, refused-writes}
use Rattle.model.proofs.ValidLaws.{book_read}
use Rattle.model.proofs.PoolLaws.{PoolRead, pool_read}
use Rattle.hexadecimal.proofs.FieldLaws.{rest_is}
use Rattle.pool.specs.Mills.{later_refused}

-- the part after a header line
pub part_is : (s : List ℕ) (n : ℕ) → n ≡ line_length s → line_length s < length s → take (length s - (n + 1)) (drop (n + 1) s) ≡ after_line s
part_is s n e h = rest_is s (n + 1) (omega (arith, e)) ∙ ap (λ k. drop k s) (add-one n ∙ ap suc e)

module _ (one two : List ℕ) where
  pub both_read : (a b : Problem) → read_book one ≡ done a → read_book two ≡ done b → read_both one two ≡ done (record { a = a; b = b })
  unfolding read_both
  both_read a b e f =
      ap (λ x. and_then x (with_second two)) e
      ∙ ap (λ x. and_then (later (suc (N a)) x) (λ q. done (record { a = a; b = q }))) f

  pub both_poolable : (m : Mills) → read_both one two ≡ done m → first (pair_rules m) ≡ Ok tt → poolable one two ≡ done m
  unfolding poolable
  both_poolable m e f = ap (λ x. and_then x matching) e ∙ ap (λ g. checked 0 g (done m)) f

  -- both have a header line
  pub lines_there : (m : Mills) → poolable one two ≡ done m → (line_length one < length one) × (line_length two < length two)
  lines_there m e =
      let read : PoolRead one two m = pool_read one two m e in
      ((book_read one m.a read.reads_one).ends, (book_read two m.b read.reads_two).ends)

  -- what is known of two books that can be pooled, where lines and others are the lengths of their header lines
  pub record Parts (m : Mills) (lines others : ℕ) : Type 0 where
    pub can : poolable one two ≡ done m
    pub first_there : lines < length one
    pub second_there : others < length two
    pub first_part : take (length one - (lines + 1)) (drop (lines + 1) one) ≡ after_line one
    pub second_part : take (length two - (others + 1)) (drop (others + 1) two) ≡ after_line two

  pub parts : (m : Mills) → read_both one two ≡ done m → Ok tt ≡ first (pair_rules m) → (lines others : ℕ) → lines ≡ line_length one → others ≡ line_length two
      → Parts m lines others
  parts m e p lines others l o =
      let can : poolable one two ≡ done m = both_poolable m e (sym p) in
      let there : (line_length one < length one) × (line_length two < length two) = lines_there m can in
      record {
        can = can;
        first_there = omega (arith, l, there.0);
        second_there = omega (arith, o, there.1);
        first_part = part_is one lines l there.0;
        second_part = part_is two others o there.1;
      }

  module _ (buffer : List ℕ) where
    -- a refusal of the first book
    pub first-refused : (x : Refused) → read_book one ≡ refused x.refusal x.line → (answer : Answer) → answer ≡ refusal_answer x.refusal x.line
        → Writes (pool_result one two (length buffer)) buffer buffer answer
    unfolding pool_result poolable read_both
    first-refused x e answer g = refused-writes (pool_result one two (length buffer)) x.refusal x.line buffer answer g (ap made e)
      where
        made : Result Problem → Result Output
        made x = and_then (and_then (and_then x (with_second two)) matching)
            (λ m. in_room (pooled_bytes one two m) (length buffer))

    -- of the second, whose lines count on
    pub second-refused : (a : Problem) → read_book one ≡ done a → (n : ℕ) → n ≡ suc (N a) → (x y : Refused) → read_book two ≡ refused x.refusal x.line
        → y ≡ later_refused n x → (answer : Answer) → answer ≡ refusal_answer y.refusal y.line → Writes (pool_result one two (length buffer)) buffer buffer answer
    unfolding pool_result poolable read_both
    second-refused a e n q x y r l answer g =
        refused-writes (pool_result one two (length buffer)) x.refusal (suc (N a) + x.line) buffer answer
        (g ∙ ap (λ (z : Refused). refusal_answer z.refusal z.line) l ∙ ap (λ k. refusal_answer x.refusal (k + x.line)) q)
        (ap (λ y. made (and_then y (with_second two))) e
        ∙ ap (λ y. made (and_then (later (suc (N a)) y) (λ r. done (record { a = a; b = r })))) r)
      where
        made : Result Mills → Result Output
        made y = and_then (and_then y matching) (λ m. in_room (pooled_bytes one two m) (length buffer))

    -- of both
    pub both_refused : (m : Mills) → read_both one two ≡ done m → (r : Refusal) → first (pair_rules m) ≡ Err r → (answer : Answer) → answer ≡ refusal_answer r 0
        → Writes (pool_result one two (length buffer)) buffer buffer answer
    unfolding pool_result poolable
    both_refused m e r f answer g =
        refused-writes (pool_result one two (length buffer)) r 0 buffer answer g
        (ap (λ y. and_then (and_then y matching) (λ z. in_room (pooled_bytes one two z) (length buffer))) e
        ∙ ap (λ h. and_then (checked 0 h (done m)) (λ z. in_room (pooled_bytes one two z) (length buffer))) f)

    -- else what there is room for
    pub pooled_result : (m : Mills) → poolable one two ≡ done m → (after : List ℕ) (answer : Answer)
        → Writes (in_room (pooled_bytes one two m) (length buffer)) buffer after answer → Writes (pool_result one two (length buffer)) buffer after answer
    unfolding pool_result
    pooled_result m e after answer w = writes-same (sym (ap (λ x. and_then x (λ y. in_room (pooled_bytes one two y) (length buffer))) e)) w
