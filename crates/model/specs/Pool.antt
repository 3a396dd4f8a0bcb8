-- Two mills on one transformer (document 02, M-110): "Sites with a second mill want a joint plan. Pooling writes one book".
use Rattle.std.specs.Prelude.{ℕ, suc, ◌+◌, ◌≤◌, max, ◌≡◌, not, ◌&&◌, List, [], ◌∷◌, ◌++◌, map, ltb, eqb, length}
use Rattle.model.specs.declared.Answer.{Answer}
use Rattle.model.specs.declared.Refusal.TheVariants.{SlotsOrFinenessDiffer, TooManyLoads, LimitSumTooLarge}
use Rattle.model.specs.Lists.{upto, any, concat}
use Rattle.model.specs.Bounds.{most_loads, most_limit, most_book}
use Rattle.model.specs.Frames.{digits, field, after_line}
use Rattle.model.specs.Refusals.{Result, refused, done, Rule, ◌⇒◌, first, checked, and_then}
use Rattle.model.specs.Answers.{Output, bytes_only, Writes, in_room}
use Rattle.model.specs.Book.{Problem, read_book}
use Rattle.model.specs.Choice.{Choice, IsChoice, worth_of}
use Rattle.model.specs.Sheet.{lf}
use Rattle.model.specs.Calls.{planner_result}
use Rattle.model.specs.Demand.{T, S, N, KeepsLimits}

-- ---- the two books

-- "whose lines count on": a result whose lines come after so many others
abbrev pub later : {A : Type 0} → ℕ → Result A → Result A
later n (refused r line) = refused r (n + line)
later n (done x) = done x

-- the books of the two mills, as they are read
pub record Mills : Type 0 where
  pub a : Problem
  pub b : Problem

-- the second after the first, "whose lines count on from the first's last", which is N1 + 1
abbrev pub with_second : List ℕ → Problem → Result Mills
with_second two a = and_then (later (suc (N a)) (read_book two)) (λ b. done (record { a = a; b = b }))

-- "Faults are tried through the first book, then the second"
unfoldable pub read_both : List ℕ → List ℕ → Result Mills
read_both one two = and_then (read_book one) (with_second two)

-- "each slot's limit the sum of the two"; past 21 both have as many slots
unfoldable pub limit_sums : Mills → List ℕ
limit_sums m = map (λ slot. S m.a slot + S m.b slot) (upto (T m.a))

-- "21 when T or d differ, 22 when the loads exceed 24, 23 when a limit sum exceeds 65,535; they come in that order after 8"; "numbers from 14 on carry line 0"
unfoldable pub pair_rules : Mills → List Rule
pair_rules m =
    (not (eqb (T m.a) (T m.b) && eqb m.a.fineness m.b.fineness) ⇒ SlotsOrFinenessDiffer)
    ∷ (ltb most_loads (N m.a + N m.b) ⇒ TooManyLoads)
    ∷ (any (ltb most_limit) (limit_sums m) ⇒ LimitSumTooLarge)
    ∷ []

-- two books that were read, after these
abbrev pub matching : Mills → Result Mills
matching m = checked 0 (first (pair_rules m)) (done m)

-- two books that can be pooled: none of 1 to 8 applies to the one or the other, and none of 21 to 23 to both
unfoldable pub poolable : List ℕ → List ℕ → Result Mills
poolable one two = and_then (read_both one two) matching

-- ---- the pooled book

-- what it says: the loads of the first, "then those of the second, each slot's limit the sum of the two, the larger budget, the larger r"; d is that of both
abbrev pub pooled : Mills → Problem
pooled m =
    record {
      fineness = m.a.fineness;
      ratio = max m.a.ratio m.b.ratio;
      budget = max m.a.budget m.b.budget;
      limits = limit_sums m;
      loads = m.a.loads ++ m.b.loads;
    }

-- "header kind `08`", also where r is 1: T, N, d and r (2 digits each), the budget (8), then the limits (4 each)
unfoldable pub header_line : Problem → List ℕ
header_line p =
    digits 2 8 ++ digits 2 (T p) ++ digits 2 (N p) ++ digits 2 p.fineness ++ digits 2 p.ratio ++ digits 8 p.budget ++ concat (map (digits 4) p.limits) ++ lf

-- its bytes: "the load lines of the first as they stand, then those of the second"
unfoldable pub pooled_with : Mills → List ℕ → List ℕ → List ℕ
pooled_with m lines others = header_line (pooled m) ++ lines ++ others

-- past 8 the load lines are all that stands after a book's header
abbrev pub pooled_bytes : List ℕ → List ℕ → Mills → List ℕ
pooled_bytes one two m = pooled_with m (after_line one) (after_line two)

-- the result of the call, for a buffer with room for so many bytes: "and 11 after them if the pooled book doesn't fit the buffer"
unfoldable pub pool_result : List ℕ → List ℕ → ℕ → Result Output
pool_result one two room = and_then (poolable one two) (λ m. in_room (pooled_bytes one two m) room)

-- ---- what the pooled book is

-- READING IT GIVES THE POOLED PROBLEM, for every two books that can be pooled (proofs/PoolLaws, `reads_back`)
abbrev pub ReadsBack : Type 0
ReadsBack = (one two : List ℕ) (m : Mills) → poolable one two ≡ done m → read_book (pooled_bytes one two m) ≡ done (pooled m)

-- with a buffer for the longest book 11 is never given (proofs/PoolLaws, `always_room`)
abbrev pub AlwaysRoom : Type 0
AlwaysRoom = (one two : List ℕ) (m : Mills) (room : ℕ) → poolable one two ≡ done m → most_book ≤ room
    → pool_result one two room ≡ done (bytes_only (pooled_bytes one two m))

-- "one choice keeps every limit in the first book, another in the second"
pub record BothKeep (m : Mills) (c d : Choice) : Type 0 where
  pub of_first : IsChoice m.a.loads c
  pub keeps_first : KeepsLimits m.a c
  pub of_second : IsChoice m.b.loads d
  pub keeps_second : KeepsLimits m.b d

-- WHAT HOLDS of two books' bytes and the bytes that pooling wrote (proofs/JointLaws, `pooled_given`)
pub record Pooled (one two bytes : List ℕ) : Type 0 where
  -- both books as they are read, and the pooled one
  pub mills : Mills
  pub reads_first : read_book one ≡ done mills.a
  pub reads_second : read_book two ≡ done mills.b
  pub reads : read_book bytes ≡ done (pooled mills)
  -- two such choices are, one after the other, a choice of the pooled book that keeps its limits; so this goes on where it is pooled with a third
  pub together : (c d : Choice) → BothKeep mills c d → IsChoice (pooled mills).loads (c ++ d) × KeepsLimits (pooled mills) (c ++ d)
  -- "and the plain planner answers the pooled book with a sheet, then that sheet is worth at least both together": of every call of the planner with these
  -- bytes, by the worth on the sheet that it wrote; and it does not give 17
  pub joint : (c d : Choice) → BothKeep mills c d → (words : ℕ) (before after : List ℕ) (answer : Answer)
      → Writes (planner_result bytes words (length before)) before after answer
      → (answer.number ≡ 0 → worth_of c + worth_of d ≤ field after 2 8) × (answer.number ≡ 17 → ⊥)
