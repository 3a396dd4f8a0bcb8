-- A sheet for a pooled book is worth at least both mills together (M-110): two choices that keep the limits of their books are, one after the other, a choice of
-- the pooled book that keeps its limits, for any number of slots and loads and each r.
-- Assumes nothing.
use mathlib.Core.Path.{◌≡◌, refl, sym, ap, ◌∙◌, subst}
use mathlib.Core.List.{List, ◌++◌}
use Prim.Native.Nat.{ℕ, ◌+◌, ◌<◌, ◌≤◌}
use native.Mathlib.Omega.{arith}
use lib.Dec as Dec
use lib.IntN.{nat_abs, ◌+ℤ◌}
use lib.ListN.{length, take}
use Rattle.model.specs.declared.Answer.{Answer}
use Rattle.model.specs.Frames.{field}
use Rattle.model.specs.Refusals.{Result, refused, done, and_then}
use Rattle.model.specs.Book.{Power, Problem, read_book}
use Rattle.model.specs.Choice.{Choice, IsChoice, worth_of, plus, sum_in, square, apparent_squared}
use Rattle.model.specs.Grid.{slots_of, keeps_limits}
use Rattle.model.specs.Answers.{Writes, answer_of, buffer_after, in_room}
use Rattle.model.specs.Calls.{planner_result}
use Rattle.model.specs.Demand.{T, S, KeepsLimits, Demand3}
use Rattle.model.specs.Pool.{Mills, limit_sums, poolable, pooled, pooled_bytes, pool_result, BothKeep, Pooled}
use Rattle.model.proofs.UptoLaws.{get_d_upto}
use Rattle.model.proofs.RefusalLaws.{number-some, done-same}
use Rattle.model.proofs.AnswerLaws.{room_left}
use Rattle.model.proofs.ChoiceLaws.{choice-join, worth-join, sum-join}
use Rattle.model.proofs.Squares.{sq_mono, minkowski}
use Rattle.model.proofs.AdmissionLaws.{square_abs}
use Rattle.model.proofs.RaisedLaws.{abs_plus}
use Rattle.model.proofs.SheetGivenLaws.{none-keeps}
use Rattle.model.proofs.DemandLaws.{keeps-is, demand3}
use Rattle.model.proofs.PoolLaws.{PoolRead, pool_read, same-slots, pooled-slots, reads_back}

-- two powers within s and t have a sum within s + t
within_both : (x y : Power) (s t : ℕ) → apparent_squared x ≤ square s → apparent_squared y ≤ square t → apparent_squared (plus x y) ≤ square (s + t)
within_both x y s t h k =
    omega (
      arith,
      square_abs (x.q +ℤ y.q),
      sq_mono (abs_plus x.q y.q),
      minkowski x.p (nat_abs x.q) y.p (nat_abs y.q) s t (omega (arith, h, square_abs x.q)) (omega (arith, k, square_abs y.q)),
    )

module _ (one two : List ℕ) (m : Mills) (e : poolable one two ≡ done m) (c d : Choice) (keep : BothKeep m c d) where
  read : PoolRead one two m
  read = pool_read one two m e

  together-is : IsChoice (pooled m).loads (c ++ d)
  together-is = choice-join m.a.loads m.b.loads c d keep.of_first keep.of_second

  limit_is : (slot : ℕ) → slot < T m.a → S (pooled m) slot ≡ S m.a slot + S m.b slot
  unfolding limit_sums
  limit_is slot l = get_d_upto (λ i. S m.a i + S m.b i) (T m.a) slot 0 l

  together-keeps : KeepsLimits (pooled m) (c ++ d)
  together-keeps slot l =
      let first : slot < T m.a = omega (arith, l, pooled-slots m) in
      let second : slot < T m.b = omega (arith, l, same-slots one two m read) in
      subst (λ (x : Power). apparent_squared x ≤ square (S (pooled m) slot)) (sym (sum-join slot c d))
      (subst (λ n. apparent_squared (plus (sum_in slot c) (sum_in slot d)) ≤ square n) (sym (limit_is slot first))
      (within_both (sum_in slot c) (sum_in slot d) (S m.a slot) (S m.b slot) (keep.keeps_first slot first) (keep.keeps_second slot second)))

  -- ---- a call of the planner for the pooled book

  module _ (words : ℕ) (before after : List ℕ) (answer : Answer) (w : Writes (planner_result (pooled_bytes one two m) words (length before)) before after answer) where
    abbrev bytes : List ℕ
    bytes = pooled_bytes one two m

    the_number : {n : ℕ} → answer.number ≡ n → (answer_of (planner_result bytes words (length before))).number ≡ n
    the_number h = sym (ap (λ (a : Answer). a.number) w.answers) ∙ h

    -- THE SHEET IS WORTH AT LEAST BOTH TOGETHER
    worth_both : answer.number ≡ 0 → worth_of c + worth_of d ≤ field after 2 8
    worth_both h =
        let x : Demand3 bytes (buffer_after (planner_result bytes words (length before)) before) = demand3 bytes words before (the_number h) in
        let same : pooled m ≡ x.b = done-same (pooled m) x.b (sym (reads_back one two m e) ∙ x.reads) in
        let most : worth_of (c ++ d) ≤ worth_of x.choice
        = x.worth (c ++ d) (subst (λ (b : Problem). IsChoice b.loads (c ++ d)) same together-is) (subst (λ (b : Problem). KeepsLimits b (c ++ d)) same together-keeps) in
        subst (λ sheet. worth_of c + worth_of d ≤ field sheet 2 8) (sym w.leaves) (omega (arith, most, worth-join c d, x.on_sheet.worth))

    some-plan : answer.number ≡ 17 → ⊥
    some-plan h =
        let x : (b : Problem) × (read_book bytes ≡ done b) × ((c : Choice) → IsChoice b.loads c → Dec.T (keeps_limits (slots_of b) c) → ⊥) = none-keeps bytes words (length before) (the_number h) in
        let same : pooled m ≡ x.0 = done-same (pooled m) x.0 (sym (reads_back one two m e) ∙ x.1) in
        x.2 (c ++ d) (subst (λ (b : Problem). IsChoice b.loads (c ++ d)) same together-is)
        ((keeps-is x.0 (c ++ d)).1 (subst (λ (b : Problem). KeepsLimits b (c ++ d)) same together-keeps))

-- ---- of the call

given : (one two : List ℕ) (m : Mills) → poolable one two ≡ done m → Pooled one two (pooled_bytes one two m)
given one two m e =
    let read : PoolRead one two m = pool_read one two m e in
    record {
      mills = m;
      reads_first = read.reads_one;
      reads_second = read.reads_two;
      reads = reads_back one two m e;
      together = λ c d keep. (together-is one two m e c d keep, together-keeps one two m e c d keep);
      joint = λ c d keep words before after answer w. (worth_both one two m e c d keep words before after answer w, some-plan one two m e c d keep words before after answer w);
    }

-- WHENEVER THE ANSWER HAS NUMBER 0, of the bytes that the call wrote
pub pooled_given : (one two before after : List ℕ) (a : Answer) → Writes (pool_result one two (length before)) before after a → a.number ≡ 0
    → Pooled one two (take a.bytes after)
unfolding pool_result
pooled_given one two before after a w h = go (poolable one two) refl w
  where
    go : (x : Result Mills) → poolable one two ≡ x → Writes (and_then x (λ m. in_room (pooled_bytes one two m) (length before))) before after a
        → Pooled one two (take a.bytes after)
    go (refused r line) e w = absurd (number-some r (sym (ap (λ (x : Answer). x.number) w.answers) ∙ h))
    go (done m) e w = subst (Pooled one two) (sym (room_left (pooled_bytes one two m) (length before) w h)) (given one two m e)
