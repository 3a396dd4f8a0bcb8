-- The lines of a sheet: their lengths, one more number or slot line, and that they are the lines of the definitions.
-- Assumes nothing.
use Prim.Native.Nat.{ℕ, zero, suc, ◌+◌, ◌*◌, ◌-◌, ◌^◌, ◌≤◌, ◌<◌}
use mathlib.Core.Path.{◌≡◌, refl, sym, ap, ap₂, ◌∙◌}
use mathlib.Core.Logic.{◌⊎◌, inl, inr}
use mathlib.Core.List.{List, [], ◌∷◌, ◌++◌, map}
use native.Mathlib.Nat.{zero-add, add-zero}
use native.Mathlib.Omega.{arith}
use lib.IntN.{sub_ℕ}
use lib.ListN.{length, get_or, set, length-append}
use Rattle.model.specs.Lists.{upto, upto_from, concat}
use Rattle.model.specs.Frames.{digits, unsigned}
use Rattle.model.specs.Book.{Setting, Problem}
use Rattle.model.specs.Choice.{Choice, worth_of, sum_in, no_setting}
use Rattle.model.specs.Sheet.{numbers_of, first_line, SumsAndLimit, sums_and_limit, sums_and_limits, slot_line, slot_lines}
use Rattle.model.proofs.ListLaws.{length-concat}
use Rattle.model.proofs.UptoLaws.{suc_across, length-upto, get_d_upto, pieces_last}
use Rattle.model.proofs.FrameLaws.{length_digits}
use Rattle.model.proofs.IntegerLaws.{split, sub_pos, sub_neg}
use Rattle.hexadecimal.specs.Written.{written}
use Rattle.hexadecimal.proofs.WrittenLaws.{write_on, write_line}
use Rattle.lines.specs.Lines.{numbers_in, first_bytes, slot_bytes, word_in, slots_bytes}

-- ---- pieces over the numbers below a bound

length_ups : (n : ℕ) → length (upto n) ≡ n
length_ups n = go 0 n
  where
    go : (i n : ℕ) → length (upto_from i n) ≡ n
    go i zero = refl
    go i (suc n) = ap suc (go (suc i) n)

module _ (f : ℕ → List ℕ) where
  length_pieces : (w n : ℕ) → ((k : ℕ) → length (f k) ≡ w) → length (concat (map f (upto n))) ≡ w * n
  length_pieces w n h = length-concat f w h (upto n) ∙ ap (λ m. w * m) (length_ups n)

  -- the pieces of a list's elements, place by place
  pieces_are : {A : Type 0} (g : A → List ℕ) (d : A) (xs : List A) (i : ℕ) → ((k : ℕ) → k < length xs → g (get_or xs k d) ≡ f (i + k))
      → concat (map g xs) ≡ concat (map f (upto_from i (length xs)))
  pieces_are g d [] i h = refl
  pieces_are g d (x ∷ xs) i h =
      ap₂ {C = List ℕ} (λ a r. a ++ r) (h 0 (omega arith) ∙ ap f (add-zero i))
      (pieces_are g d xs (suc i) (λ k l. h (suc k) (omega arith) ∙ ap f (suc_across i k)))

-- ---- the lengths, and one more at the end

pub length-numbers : (picks : List ℕ) (n : ℕ) → length (numbers_in picks n) ≡ 2 * n
unfolding numbers_in
length-numbers picks n = length_pieces (λ k. digits 2 (get_or picks k 0)) 2 n (λ k. length_digits 2 (get_or picks k 0))

pub numbers-none : (picks : List ℕ) → numbers_in picks 0 ≡ []
unfolding numbers_in
numbers-none picks = refl

pub numbers_more : (picks : List ℕ) (n : ℕ) → numbers_in picks (n + 1) ≡ numbers_in picks n ++ digits 2 (get_or picks n 0)
unfolding numbers_in
numbers_more picks n = pieces_last (λ k. digits 2 (get_or picks k 0)) n

pub length_slot_bytes : (active word limit : ℕ) → length (slot_bytes active word limit) ≡ 23
unfolding slot_bytes
length_slot_bytes active word limit = simp (length-append, length_digits) (omega arith)

module _ (count : ℕ) (actives reactives limits : List ℕ) where
  -- the line of slot s
  abbrev slot_at : ℕ → List ℕ
  slot_at s = slot_bytes (get_or actives s 0) (word_in count reactives s) (get_or limits s 0)

  length-slots-bytes : (n : ℕ) → length (slots_bytes count actives reactives limits n) ≡ 23 * n
  unfolding slots_bytes
  length-slots-bytes n = length_pieces slot_at 23 n (λ s. length_slot_bytes (get_or actives s 0) (word_in count reactives s) (get_or limits s 0))

  pub slots-none : slots_bytes count actives reactives limits 0 ≡ []
  unfolding slots_bytes
  slots-none = refl

  slots-more : (n : ℕ) → slots_bytes count actives reactives limits (n + 1) ≡ slots_bytes count actives reactives limits n ++ slot_at n
  unfolding slots_bytes
  slots-more n = pieces_last slot_at n

-- ---- writes after each other

pub slot_written : (l l₁ l₂ l₃ l₄ : List ℕ) (at p₂ p₃ p₄ p₅ active word limit : ℕ) → l₁ ≡ written l at (digits 2 5) → l₂ ≡ written l₁ p₂ (digits 8 active)
    → l₃ ≡ written l₂ p₃ (digits 8 word) → l₄ ≡ written l₃ p₄ (digits 4 limit) → p₂ ≡ at + 2 → p₃ ≡ at + 10 → p₄ ≡ at + 18 → p₅ ≡ at + 22
    → at + 23 ≤ length l → set l₄ p₅ 10 ≡ written l at (slot_bytes active word limit)
unfolding slot_bytes
slot_written l l₁ l₂ l₃ l₄ at p₂ p₃ p₄ p₅ active word limit e₁ e₂ e₃ e₄ q₂ q₃ q₄ q₅ h =
    write_line l l₁ l₂ l₃ l₄ at p₂ p₃ p₄ p₅ (digits 2 5) (digits 8 active) (digits 8 word) (digits 4 limit) e₁ e₂ e₃ e₄
    (rw length_digits q₂) (rw length_digits (omega arith)) (rw length_digits (omega arith)) (rw length_digits (omega arith)) (omega arith)

pub first-written : (l l₁ l₂ l₃ l₄ picks : List ℕ) (p₂ p₃ p₄ p₅ n worth trials : ℕ) → l₁ ≡ written l 0 (digits 2 4) → l₂ ≡ written l₁ p₂ (digits 8 worth)
    → l₃ ≡ written l₂ p₃ (digits 8 trials) → l₄ ≡ written l₃ p₄ (numbers_in picks n) → p₂ ≡ 2 → p₃ ≡ 10 → p₄ ≡ 18 → p₅ ≡ 18 + 2 * n
    → 19 + 2 * n ≤ length l → set l₄ p₅ 10 ≡ written l 0 (first_bytes picks n worth trials)
unfolding first_bytes
first-written l l₁ l₂ l₃ l₄ picks p₂ p₃ p₄ p₅ n worth trials e₁ e₂ e₃ e₄ q₂ q₃ q₄ q₅ h =
    write_line l l₁ l₂ l₃ l₄ 0 p₂ p₃ p₄ p₅ (digits 2 4) (digits 8 worth) (digits 8 trials) (numbers_in picks n) e₁ e₂ e₃ e₄
    (rw length_digits (omega arith)) (rw length_digits (omega arith)) (rw length_digits (omega arith)) (rw length-numbers (omega arith)) (omega arith)

-- one more number, and one more slot line
pub numbers_go : (l l' l'' picks : List ℕ) (at p k n : ℕ) → l' ≡ written l at (numbers_in picks k) → l'' ≡ written l' p (digits 2 (get_or picks k 0))
    → p ≡ at + 2 * k → k < n → at + 2 * n ≤ length l → l'' ≡ written l at (numbers_in picks (k + 1))
numbers_go l l' l'' picks at p k n e f q few h =
    f
    ∙ write_on l l' at p (numbers_in picks k) (digits 2 (get_or picks k 0)) e (rw length-numbers q) (rw length_digits (omega arith))
    ∙ ap (written l at) (sym (numbers_more picks k))

pub slots_go : (count : ℕ) (l l' l'' actives reactives limits : List ℕ) (p s n word : ℕ) → l' ≡ written l 0 (slots_bytes count actives reactives limits s)
    → word ≡ word_in count reactives s → l'' ≡ written l' p (slot_bytes (get_or actives s 0) word (get_or limits s 0)) → p ≡ 23 * s → s < n → 23 * n ≤ length l
    → l'' ≡ written l 0 (slots_bytes count actives reactives limits (s + 1))
slots_go count l l' l'' actives reactives limits p s n word e w f q few h =
    let line = slot_at count actives reactives limits s in
    f
    ∙ ap (λ x. written l' p (slot_bytes (get_or actives s 0) x (get_or limits s 0))) w
    ∙ write_on l l' 0 p (slots_bytes count actives reactives limits s) line e
    (rw length-slots-bytes (omega arith)) (rw length_slot_bytes (omega arith))
    ∙ ap (written l 0) (sym (slots-more count actives reactives limits s))

-- ---- Q as a word

pub word_is : (reactive base w : ℕ) → (base ≤ reactive → w ≡ reactive - base) → (reactive < base → w ≡ 2 ^ 32 - (base - reactive))
    → w ≡ unsigned 32 (sub_ℕ reactive base)
unfolding unsigned
word_is reactive base w over under = go (split reactive base)
  where
    go : (reactive < base) ⊎ (base ≤ reactive) → w ≡ unsigned 32 (sub_ℕ reactive base)
    go (inl x) = sym (ap (unsigned 32) (sub_neg reactive base x) ∙ (omega (arith, under x)))
    go (inr x) = sym (ap (unsigned 32) (sub_pos reactive base x) ∙ sym (over x))

-- ---- the lines of the definitions

-- a choice of n loads whose numbers stand in an array
module _ (c : Choice) (picks : List ℕ) (n : ℕ) (count : length c ≡ n) (h : (k : ℕ) → k < n → (get_or c k no_setting).number ≡ get_or picks k 0) where
  pub numbers_are : numbers_of c ≡ numbers_in picks n
  unfolding numbers_of numbers_in
  numbers_are =
      pieces_are (λ k. digits 2 (get_or picks k 0)) (λ (v : Setting). digits 2 v.number) no_setting c 0
      (λ k l. ap (digits 2) (h k (omega arith)) ∙ ap (λ j. digits 2 (get_or picks j 0)) (sym (zero-add k)))
      ∙ ap (λ m. concat (map (λ k. digits 2 (get_or picks k 0)) (upto m))) count

  pub first-is : (t : ℕ) → first_bytes picks n (worth_of c) t ≡ first_line c t
  unfolding first_bytes first_line
  first-is t = rw numbers_are

-- a slot line, and those of a book's slots
slot_is : (x : SumsAndLimit) (active word limit : ℕ) → active ≡ x.sum.p → word ≡ unsigned 32 x.sum.q → limit ≡ x.limit
    → slot_line x ≡ slot_bytes active word limit
unfolding slot_line slot_bytes
slot_is x active word limit p q l = rw (p, q, l)

module _ (b : Problem) (c : Choice) (count : ℕ) (actives reactives limits : List ℕ) where
  abbrev slots : ℕ
  slots = length b.limits

  abbrev line_at : ℕ → List ℕ
  line_at = slot_at count actives reactives limits

  pub slots_are : ((s : ℕ) → s < slots → get_or actives s 0 ≡ (sum_in s c).p)
      → ((s : ℕ) → s < slots → sub_ℕ (get_or reactives s 0) (32768 * count) ≡ (sum_in s c).q)
      → ((s : ℕ) → s < slots → get_or limits s 0 ≡ get_or b.limits s 0) → slots_bytes count actives reactives limits slots ≡ slot_lines (sums_and_limits b c)
  unfolding slots_bytes slot_lines sums_and_limits
  slots_are ps qs ls =
      sym
      (pieces_are line_at slot_line (sums_and_limit b c 0) (map (sums_and_limit b c) (upto slots)) 0 at
      ∙ ap (λ n. concat (map line_at (upto n))) (length-upto (sums_and_limit b c) slots))
    where
      at : (s : ℕ) → s < length (map (sums_and_limit b c) (upto slots)) → slot_line (get_or (map (sums_and_limit b c) (upto slots)) s (sums_and_limit b c 0)) ≡ line_at (0 + s)
      at s h =
          let l : s < slots = omega (arith, length-upto (sums_and_limit b c) slots) in
          ap slot_line (get_d_upto (sums_and_limit b c) slots s (sums_and_limit b c 0) l)
          ∙ slot_is (sums_and_limit b c s) (get_or actives s 0) (word_in count reactives s) (get_or limits s 0) (ps s l) (ap (unsigned 32) (qs s l)) (ls s l)
          ∙ ap line_at (sym (zero-add s))
