-- Writes into a buffer: their length, and how they join to a line, a row of numbers, or the bytes that are copied.
-- Assumes nothing.
use Prim.Native.Nat.{ℕ, suc, ◌+◌, ◌*◌, ◌-◌, ◌/◌, ◌%◌, ◌^◌, ◌≤◌, ◌<◌}
use mathlib.Core.List.{List, [], ◌∷◌, ◌++◌, map, map-append, append_assoc, append-nil}
use mathlib.Core.Path.{◌≡◌, sym, ap, ap₂, ◌∙◌}
use native.Mathlib.Nat.{add-zero, add_assoc, zero-add, sub_self, div-one, div-div-eq-div-mul, pow-zero, pow-suc, mul-le-mul_left}
use native.Mathlib.Numerals.{add-one}
use native.Mathlib.Omega.{arith}
use lib.ListN.{length, get_or, take, drop, set, length-append, length-take, length-drop, take-append-drop}
use lib.Seq.{take_at, drop_at, set_at, take-suc, drop-drop, length-take-le, take-add, take-length, drop-length}
use Rattle.model.specs.Lists.{concat}
use Rattle.model.specs.Frames.{digit, digits}
use Rattle.model.specs.Sheet.{lf}
use Rattle.model.proofs.ListLaws.{length-concat, concat_last}
use Rattle.model.proofs.FrameLaws.{length_digits}
use Rattle.hexadecimal.specs.Written.{written}

pub length-written : (l : List ℕ) (at : ℕ) (xs : List ℕ) → at + length xs ≤ length l → length (written l at xs) ≡ length l
unfolding written
length-written l at xs h = simp (length-append, length-take, length-drop) (omega arith)

pub written_none : (l : List ℕ) (at : ℕ) → written l at [] ≡ l
unfolding written
written_none l at = rw (append-nil, add-zero) (take-append-drop at l)

-- a byte more in front
pub written_front : (l : List ℕ) (at v : ℕ) (xs : List ℕ) → at < length l → set (written l (at + 1) xs) at v ≡ written l at (v ∷ xs)
unfolding written
written_front l at v xs h =
    let n : at + 1 + length xs ≡ at + suc (length xs) = omega arith in
    rw (n, add-one, take-suc l at 0)
    (simp append_assoc
    (set_at (take at l) (get_or l at 0) (xs ++ drop (at + suc (length xs)) l) v at (length-take-le at l (omega arith))))

-- one write after the other
pub written_then : (l : List ℕ) (at : ℕ) (xs ys : List ℕ) → at + length xs + length ys ≤ length l
    → written (written l at xs) (at + length xs) ys ≡ written l at (xs ++ ys)
unfolding written
written_then l at xs ys h =
    let e : length (take at l ++ xs) ≡ at + length xs
    = length-append (take at l) xs ∙ ap (λ n. n + length xs) (length-take-le at l (omega arith)) in
    let d : drop (at + length xs + length ys) (take at l ++ xs ++ drop (at + length xs) l) ≡ drop (at + (length xs + length ys)) l
    = sym (drop-drop (length ys) (at + length xs) (take at l ++ xs ++ drop (at + length xs) l))
    ∙ ap (drop (length ys)) (drop_at (take at l ++ xs) (drop (at + length xs) l) (at + length xs) e)
    ∙ drop-drop (length ys) (at + length xs) l
    ∙ ap (λ n. drop n l) (add_assoc at (length xs) (length ys)) in
    rw (take_at (take at l ++ xs) (drop (at + length xs) l) (at + length xs) e, d, length-append)
    (ap (λ r. r ++ drop (at + (length xs + length ys)) l) (append_assoc (take at l) xs ys))

-- a write at the place where another ended
pub write_on : (l l' : List ℕ) (at at' : ℕ) (xs ys : List ℕ) → l' ≡ written l at xs → at' ≡ at + length xs → at' + length ys ≤ length l
    → written l' at' ys ≡ written l at (xs ++ ys)
write_on l l' at at' xs ys e p h = ap₂ (λ m k. written m k ys) e p ∙ written_then l at xs ys (omega arith)

pub write_byte : (l : List ℕ) (at v : ℕ) → at < length l → set l at v ≡ written l at (v ∷ [])
write_byte l at v h = ap (λ m. set m at v) (sym (written_none l (at + 1))) ∙ written_front l at v [] h

-- a line: four fields and an LF, or three
pub write_line : (l l₁ l₂ l₃ l₄ : List ℕ) (at p₂ p₃ p₄ p₅ : ℕ) (a b c d : List ℕ)
    → l₁ ≡ written l at a → l₂ ≡ written l₁ p₂ b → l₃ ≡ written l₂ p₃ c → l₄ ≡ written l₃ p₄ d
    → p₂ ≡ at + length a → p₃ ≡ p₂ + length b → p₄ ≡ p₃ + length c → p₅ ≡ p₄ + length d → p₅ + 1 ≤ length l
    → set l₄ p₅ 10 ≡ written l at (a ++ b ++ c ++ d ++ lf)
write_line l l₁ l₂ l₃ l₄ at p₂ p₃ p₄ p₅ a b c d e₁ e₂ e₃ e₄ q₂ q₃ q₄ q₅ h =
    let w₂ : l₂ ≡ written l at (a ++ b) = e₂ ∙ write_on l l₁ at p₂ a b e₁ q₂ (omega arith) in
    let n₂ : length (a ++ b) ≡ length a + length b = length-append a b in
    let w₃ : l₃ ≡ written l at ((a ++ b) ++ c) = e₃ ∙ write_on l l₂ at p₃ (a ++ b) c w₂ (omega arith) (omega arith) in
    let n₃ : length ((a ++ b) ++ c) ≡ length a + length b + length c = length-append (a ++ b) c ∙ (omega arith) in
    let w₄ : l₄ ≡ written l at (((a ++ b) ++ c) ++ d) = e₄ ∙ write_on l l₃ at p₄ ((a ++ b) ++ c) d w₃ (omega arith) (omega arith) in
    let n₄ : length (((a ++ b) ++ c) ++ d) ≡ length a + length b + length c + length d = length-append ((a ++ b) ++ c) d ∙ (omega arith) in
    let n : length l₄ ≡ length l = ap length w₄ ∙ length-written l at (((a ++ b) ++ c) ++ d) (omega arith) in
    write_byte l₄ p₅ 10 (omega arith)
    ∙ write_on l l₄ at p₅ (((a ++ b) ++ c) ++ d) lf w₄ (omega arith) (omega arith)
    ∙ ap (written l at) (simp append_assoc)

pub write_line_three : (l l₁ l₂ l₃ : List ℕ) (p₂ p₃ end : ℕ) (a b c : List ℕ) → l₁ ≡ written l 0 a → l₂ ≡ written l₁ p₂ b → l₃ ≡ written l₂ p₃ c
    → p₂ ≡ length a → p₃ ≡ p₂ + length b → end ≡ p₃ + length c → end + 1 ≤ length l → set l₃ end 10 ≡ written l 0 (a ++ b ++ c ++ lf)
write_line_three l l₁ l₂ l₃ p₂ p₃ end a b c e₁ e₂ e₃ q₂ q₃ q₄ h =
    write_line l l₁ l₂ l₃ l₃ 0 p₂ p₃ end end a b c [] e₁ e₂ e₃ (sym (written_none l₃ end)) (omega arith) q₃ q₄ (omega arith) h
    ∙ ap (λ r. written l 0 (r ++ lf)) (append-nil (a ++ b ++ c))

-- a write into the part from a place on
written_part : (l : List ℕ) (a at : ℕ) (xs : List ℕ) → a ≤ length l → take a l ++ written (drop a l) at xs ≡ written l (a + at) xs
unfolding written
written_part l a at xs h =
    let n : a + at + length xs ≡ a + (at + length xs) = add_assoc a at (length xs) in
    rw (n, drop-drop (at + length xs) a l, take-add) (simp append_assoc)

-- a write from the start
pub written_start : (l xs : List ℕ) → written l 0 xs ≡ xs ++ drop (length xs) l
unfolding written
written_start l xs = rw zero-add

-- a buffer with a part put back, from place p to the end, that was written from its start on
pub part_written : (l l₂ xs : List ℕ) (p : ℕ) → l₂ ≡ written (take (length l - p) (drop p l)) 0 xs → p ≤ length l
    → take p l ++ (l₂ ++ drop (length l - p) (drop p l)) ≡ written l p xs
part_written l l₂ xs p f h =
    let n : length l - p ≡ length (drop p l) = sym (length-drop p l) in
    rw (f, n, take-length, drop-length, append-nil) (written_part l p 0 xs h ∙ ap (λ i. written l i xs) (add-zero p))

-- two writes in a row: `first` from the start, then `rest` into the part after it
pub then_written : (l l₁ l₂ first rest : List ℕ) (p : ℕ) → l₁ ≡ written l 0 first → l₂ ≡ written (take (length l₁ - p) (drop p l₁)) 0 rest
    → p ≡ length first → p + length rest ≤ length l → take p l₁ ++ (l₂ ++ drop (length l₁ - p) (drop p l₁)) ≡ written l 0 (first ++ rest)
then_written l l₁ l₂ first rest p e f q h =
    let k : length l₁ ≡ length l = ap length e ∙ length-written l 0 first (omega arith) in
    part_written l₁ l₂ rest p f (omega arith) ∙ write_on l l₁ 0 p first rest e (omega arith) (omega arith)

-- numbers of n digits in a row, one more
pub row_inside : (n i m : ℕ) → i < m → n * i + n ≤ n * m
row_inside n i m h =
    let more : i + 1 ≤ m = omega arith in
    omega (arith, mul-le-mul_left n more)

row_last : (n : ℕ) (xs : List ℕ) (i : ℕ) → i < length xs → concat (map (digits n) (take (i + 1) xs)) ≡ concat (map (digits n) (take i xs)) ++ digits n (get_or xs i 0)
row_last n xs i h =
    ap (λ ys. concat (map (digits n) ys)) (ap (λ j. take j xs) (add-one i) ∙ take-suc xs i 0 h)
    ∙ ap concat (map-append (digits n) (take i xs) (get_or xs i 0 ∷ []))
    ∙ concat_last (map (digits n) (take i xs)) (digits n (get_or xs i 0))

pub row_more : (n : ℕ) (xs l l' l'' : List ℕ) (at p i : ℕ) → l' ≡ written l at (concat (map (digits n) (take i xs))) → l'' ≡ written l' p (digits n (get_or xs i 0))
    → p ≡ at + n * i → i < length xs → at + n * length xs ≤ length l → l'' ≡ written l at (concat (map (digits n) (take (i + 1) xs)))
row_more n xs l l' l'' at p i e f q few h =
    let passed : length (concat (map (digits n) (take i xs))) ≡ n * i
    = length-concat (digits n) n (length_digits n) (take i xs) ∙ ap (λ j. n * j) (length-take-le i xs (omega arith)) in
    f
    ∙ write_on l l' at p (concat (map (digits n) (take i xs))) (digits n (get_or xs i 0)) e (omega (arith, passed, q))
    (omega (arith, row_inside n i (length xs) few, length_digits n (get_or xs i 0)))
    ∙ ap (written l at) (sym (row_last n xs i few))

-- bytes copied one by one, from the first on: one more
pub copied_more : (bytes l l' : List ℕ) (at i : ℕ) → l' ≡ written l at (take i bytes) → i < length bytes → at + length bytes ≤ length l → length l' ≡ length l
    → set l' (at + i) (get_or bytes i 0) ≡ written l at (take (i + 1) bytes)
copied_more bytes l l' at i e h k n =
    let m : at + i ≡ at + length (take i bytes) = ap (λ j. at + j) (sym (length-take-le i bytes (omega arith))) in
    write_byte l' (at + i) (get_or bytes i 0) (omega (arith, n))
    ∙ write_on l l' at (at + i) (take i bytes) (get_or bytes i 0 ∷ []) e m (omega arith)
    ∙ ap (written l at) (sym (take-suc bytes i 0 h) ∙ ap (λ j. take j bytes) (sym (add-one i)))

-- ---- the digits of x, written from the last on: with `left` of n digits still to write, `rest` is x without the others

module _ (l : List ℕ) (at n x : ℕ) where
  pub digits-none : (x ≡ x / 16 ^ (n - n)) × (l ≡ written l (at + n) (digits (n - n) x))
  unfolding digits
  digits-none = rw sub_self (sym (rw pow-zero (div-one x)), sym (written_none l (at + n)))

  pub digits_more : (l' : List ℕ) (left rest d : ℕ) → 0 < left → left ≤ n → at + n ≤ length l
      → rest ≡ x / 16 ^ (n - left) → d ≡ digit (rest % 16) → l' ≡ written l (at + left) (digits (n - left) x)
      → (rest / 16 ≡ x / 16 ^ (n - (left - 1))) × (set l' (at + (left - 1)) d ≡ written l (at + (left - 1)) (digits (n - (left - 1)) x))
  unfolding digits
  digits_more l' left rest d some few fits er ed el =
      let s : n - (left - 1) ≡ suc (n - left) = omega arith in
      let p : at + left ≡ at + (left - 1) + 1 = omega arith in
      rw (s, el, ed, er) (rw pow-suc (div-div-eq-div-mul x (16 ^ (n - left)) 16), rw p (written_front l (at + (left - 1)) _ _ (omega arith)))
