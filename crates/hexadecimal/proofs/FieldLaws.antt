-- Laws of reading, for `all_digits`, `number` and `line_length`, and for a part that is lent.
-- Assumes nothing.
use Prim.Native.Nat.{ℕ, ◌+◌, ◌*◌, ◌-◌, ◌<◌, ◌≤◌}
use mathlib.Core.List.{List}
use mathlib.Core.Bool.{Bool}
use mathlib.Core.Path.{◌≡◌}
use native.Mathlib.Numerals.{add-one}
use native.Mathlib.Omega.{arith}
use borrow.Author.Tests.{lt-ltb, le-ltb}
use lib.Dec.{eqb}
use lib.ListN.{length, get_or, take, drop, length-drop}
use lib.Seq.{take_all, take-suc, get_or-drop}
use Rattle.std.specs.List.{list_all, position_or_len}
use Rattle.std.proofs.Common.{Option, Some, None, position, unwrap_or, ◌&&◌, refl, ap, ◌∙◌, cond, ltb, inl, inr}
use Rattle.std.proofs.lemmas.List.Sums.{prefix_len-le-length}
use Rattle.model.proofs.IntegerLaws.{split}
use Rattle.std.proofs.lemmas.List.Recursion.{same_from_clauses, is_position_or_len}
use Rattle.model.specs.Lists.{all}
use Rattle.model.specs.Frames.{digit_value, field, line_length}
use Rattle.model.proofs.FrameLaws.{value_last}

-- the library's `all`, at a test of a byte
pub all_is : (p : ℕ → Bool) (s : List ℕ) → list_all p s ≡ all p s
all_is p = same_from_clauses (list_all p) (all p) (λ x r. p x && r) refl (λ _ _. refl) (λ _ _. refl)

-- the length of a line: what the library's `position` answers of the first LF, or the whole length
pub line_found : (s : List ℕ) (o : Option ℕ) (r : ℕ) → o ≡ position (λ b. eqb b 10) s → r ≡ unwrap_or o (length s) → r ≡ line_length s
unfolding line_length
line_found s o r e q =
    let p = λ (b : ℕ). eqb b 10 in
    let is : line_length s ≡ position_or_len p s = is_position_or_len line_length p refl (λ x xs. ap (cond (eqb x 10) 0) (omega arith)) s in
    q ∙ rw (e, is) (go (position_or_len p s) (length s) (prefix_len-le-length _ s))
  where
    go : (n m : ℕ) → n ≤ m → unwrap_or (cond (ltb n m) (Some n) None) m ≡ n
    go n m h = elim (split n m) [ inl l ↦ rw (lt-ltb n m l) refl | inr l ↦ rw (le-ltb n m l) (omega arith) ]

-- a number: one digit more
pub field-more : (s : List ℕ) (at i : ℕ) → at + i < length s → field s at (i + 1) ≡ field s at i * 16 + digit_value (get_or s (at + i) 0)
unfolding field
field-more s at i h =
    let l : i < length (drop at s) = simp length-drop (omega arith) in
    rw (add-one, take-suc (drop at s) i 0, value_last, get_or-drop)

-- the part from a place on, as it is lent
pub rest_is : (s : List ℕ) (at : ℕ) → at ≤ length s → take (length s - at) (drop at s) ≡ drop at s
rest_is s at h = take_all (length s - at) (drop at s) (rw length-drop (omega arith))
