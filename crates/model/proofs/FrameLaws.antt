-- Frames: digits that are written are digits and are read back, one number or several in a row, a number of n digits is below 16^n, one of 16 bits has
-- |Q| ≤ 2^15, a word of 32 bits is that of one number, and where a line ends.
-- Assumes nothing.
use mathlib.Core.Path.{◌≡◌, refl, sym, ap, ap₂, ◌∙◌, subst}
use mathlib.Core.Bool.{Bool, true, false, cond, ◌&&◌, false≢true}
use mathlib.Core.Logic.{◌⊎◌, inl, inr}
use mathlib.Core.List.{List, [], ◌∷◌, ◌++◌, map, append_assoc}
use Prim.Native.Nat.{ℕ, zero, suc, ◌+◌, ◌*◌, ◌-◌, ◌/◌, ◌%◌, ◌^◌, ◌<◌, ◌≤◌}
use native.Mathlib.Nat.{pow-zero, pow-succ', mod-lt, mod-eq_of_lt, le_trans, mul-le-mul_right, pow-le-pow_right, add-zero, le_of_suc-le-suc}
use native.Mathlib.Omega.{arith}
use lib.Arith.{mod-mul}
use lib.Dec.{eqb}
use lib.IntN.{ℤ, pos, negsuc, nat_abs}
use lib.ListN.{length, get_or, take, drop, length-append, length-take}
use lib.Seq.{take_at, drop_at, drop-drop, take-append-le, drop-append-le}
use borrow.Author.Tests.{lt-ltb, le-ltb, le-leb, lt-leb, ne_eqb}
use Rattle.model.specs.Lists.{within, Every, all, concat}
use Rattle.model.specs.Frames.{is_digit, digit, digit_value, digits, value_from, field, signed, unsigned, line_length, line_of, after_line}
use Rattle.model.proofs.ListLaws.{both_true, within-is}
use Rattle.model.proofs.UptoLaws.{suc_across}
use Rattle.model.proofs.IntegerLaws.{split, abs_sub}

-- ---- one digit

pub value_below : (b : ℕ) → digit_value b < 16
unfolding digit_value
value_below b = go (within 48 57 b) (within 65 70 b) refl refl
  where
    go : (t u : Bool) → within 48 57 b ≡ t → within 65 70 b ≡ u → cond t (b - 48) (cond u (b - 55) 0) < 16
    go true u e f = omega (arith, (within-is 48 57 b e).1)
    go false true e f = omega (arith, (within-is 65 70 b f).1)
    go false false e f = omega arith

pub digit_back : (d : ℕ) → d < 16 → digit_value (digit d) ≡ d
unfolding digit_value digit
digit_back d h = go (split d 10)
  where
    go : (d < 10) ⊎ (10 ≤ d) → digit_value (digit d) ≡ d
    go (inl k) = simp (lt-ltb d 10 k, le-leb 48 (48 + d) (omega arith), le-leb (48 + d) 57 (omega arith)) (omega arith)
    go (inr k) =
        simp (le-ltb d 10 k, le-leb 48 (55 + d) (omega arith), lt-leb (55 + d) 57 (omega arith), le-leb 65 (55 + d) (omega arith), le-leb (55 + d) 70 (omega arith))
        (omega arith)

digit_is : (d : ℕ) → d < 16 → is_digit (digit d) ≡ true
unfolding is_digit digit
digit_is d h = go (split d 10)
  where
    go : (d < 10) ⊎ (10 ≤ d) → is_digit (digit d) ≡ true
    go (inl k) = simp (lt-ltb d 10 k, le-leb 48 (48 + d) (omega arith), le-leb (48 + d) 57 (omega arith))
    go (inr k) =
        simp (le-ltb d 10 k, le-leb 48 (55 + d) (omega arith), lt-leb (55 + d) 57 (omega arith), le-leb 65 (55 + d) (omega arith), le-leb (55 + d) 70 (omega arith))

-- ---- numbers

pub digits_are : (n x : ℕ) → all is_digit (digits n x) ≡ true
unfolding digits
digits_are zero x = refl
digits_are (suc n) x = ap₂ ◌&&◌ (digit_is (x / 16 ^ n % 16) (mod-lt (x / 16 ^ n) (omega arith))) (digits_are n x)

-- one digit more
pub value_last : (x : ℕ) (xs : List ℕ) (b : ℕ) → value_from x (xs ++ (b ∷ [])) ≡ value_from x xs * 16 + digit_value b
unfolding value_from
value_last x [] b = refl
value_last x (a ∷ xs) b = value_last (x * 16 + digit_value a) xs b

-- n digits make a number below 16^n
value_lt : (x : ℕ) (xs : List ℕ) → value_from x xs < (x + 1) * 16 ^ length xs
unfolding value_from
value_lt x [] = omega (arith, pow-zero 16)
value_lt x (b ∷ xs) =
    rw (pow-succ' 16 (length xs)) (le_trans (value_lt (x * 16 + digit_value b) xs) (wider (16 ^ length xs) (digit_value b) (value_below b)))
  where
    wider : (p d : ℕ) → d < 16 → (x * 16 + d + 1) * p ≤ (x + 1) * (16 * p)
    wider p d h = omega (arith, mul-le-mul_right p (narrow d h))
      where
        narrow : (d : ℕ) → d < 16 → x * 16 + d + 1 ≤ (x + 1) * 16
        narrow d h = omega arith

pub field_below : (line : List ℕ) (at n : ℕ) → field line at n < 16 ^ n
unfolding field
field_below line at n =
    let few : length (take n (drop at line)) ≤ n = omega (arith, length-take n (drop at line)) in
    let grows : 16 ^ length (take n (drop at line)) ≤ 16 ^ n = pow-le-pow_right (omega arith) few in
    omega (arith, value_lt 0 (take n (drop at line)))

-- a field of at most m digits
pub field-small : (line : List ℕ) (at n m : ℕ) → n ≤ m → field line at n < 16 ^ m
field-small line at n m h = le_trans (field_below line at n) (pow-le-pow_right (omega arith) h)

pub length_digits : (n x : ℕ) → length (digits n x) ≡ n
unfolding digits
length_digits zero x = refl
length_digits (suc n) x = ap suc (length_digits n x)

pow_pos : (n : ℕ) → 0 < 16 ^ n
pow_pos zero = omega (arith, pow-zero 16)
pow_pos (suc n) = omega (arith, pow-succ' 16 n, pow_pos n)

pub value_digits : (n x y : ℕ) → value_from x (digits n y) ≡ x * 16 ^ n + y % 16 ^ n
unfolding digits value_from
value_digits zero x y = omega arith
value_digits (suc n) x y =
    value_digits n (x * 16 + digit_value (digit (y / 16 ^ n % 16))) y
    ∙ ap (λ d. (x * 16 + d) * 16 ^ n + y % 16 ^ n) (digit_back (y / 16 ^ n % 16) (mod-lt (y / 16 ^ n) (omega arith)))
    ∙ grouped (16 ^ n) (y / 16 ^ n % 16) (y % 16 ^ n) (y % (16 * 16 ^ n)) (mod-mul y {m = 16} {c = 16 ^ n} (omega arith) (pow_pos n))
    ∙ ap (λ m. x * m + y % m) (sym (pow-succ' 16 n))
  where
    grouped : (p e l h : ℕ) → h ≡ e * p + l → (x * 16 + e) * p + l ≡ x * (16 * p) + h
    grouped p e l h q = omega arith

pub value_back : (n y : ℕ) → y < 16 ^ n → value_from 0 (digits n y) ≡ y
value_back n y h = value_digits n 0 y ∙ (omega (arith, mod-eq_of_lt h))

-- a field that was written is read
pub field_back : (bytes rest : List ℕ) (at n y : ℕ) → drop at bytes ≡ digits n y ++ rest → y < 16 ^ n → field bytes at n ≡ y
unfolding field
field_back bytes rest at n y e h =
    ap (λ r. value_from 0 (take n r)) e
    ∙ ap (value_from 0) (take_at (digits n y) rest n (length_digits n y))
    ∙ value_back n y h

-- and what follows it stands after it
pub digits_next : (bytes rest : List ℕ) (at n y : ℕ) → drop at bytes ≡ digits n y ++ rest → drop (at + n) bytes ≡ rest
digits_next bytes rest at n y e = sym (drop-drop n at bytes) ∙ ap (drop n) e ∙ drop_at (digits n y) rest n (length_digits n y)

-- numbers of n digits in a row, from a place on, of which i are passed: each is read
module _ {A : Type 0} (f : A → ℕ) (n at : ℕ) (bytes rest : List ℕ) (u : A) where
  one_more : (i : ℕ) → at + n * suc i ≡ at + n * i + n
  one_more i = omega arith

  pub fields_back : (i : ℕ) (xs : List A) → Every (λ x. f x < 16 ^ n) xs → drop (at + n * i) bytes ≡ concat (map (λ x. digits n (f x)) xs) ++ rest
      → (k : ℕ) → k < length xs → field bytes (at + n * (i + k)) n ≡ f (get_or xs k u)
  fields_back i [] h e k l = absurd (omega arith)
  fields_back i (x ∷ xs) h e zero l =
      ap (λ j. field bytes (at + n * j) n) (add-zero i)
      ∙ field_back bytes (concat (map (λ y. digits n (f y)) xs) ++ rest) (at + n * i) n (f x)
      (e ∙ append_assoc (digits n (f x)) (concat (map (λ y. digits n (f y)) xs)) rest) h.0
  fields_back i (x ∷ xs) h e (suc k) l =
      ap (λ j. field bytes (at + n * j) n) (suc_across i k)
      ∙ fields_back (suc i) xs h.1
      (ap (λ j. drop j bytes) (one_more i)
      ∙ digits_next bytes (concat (map (λ y. digits n (f y)) xs) ++ rest) (at + n * i) n (f x)
      (e ∙ append_assoc (digits n (f x)) (concat (map (λ y. digits n (f y)) xs)) rest))
      k (le_of_suc-le-suc l)

-- of two numbers of n digits, each followed by other bytes, the same bytes are the same number and the same rest
pub digits_front : (n x y : ℕ) (xs ys : List ℕ) → x < 16 ^ n → y < 16 ^ n → digits n x ++ xs ≡ digits n y ++ ys → (x ≡ y) × (xs ≡ ys)
digits_front n x y xs ys h k e = (
  sym (value_back n x h)
      ∙ ap (value_from 0) (sym (take_at (digits n x) xs n (length_digits n x)) ∙ ap (take n) e ∙ take_at (digits n y) ys n (length_digits n y))
      ∙ value_back n y k,
  sym (drop_at (digits n x) xs n (length_digits n x)) ∙ ap (drop n) e ∙ drop_at (digits n y) ys n (length_digits n y),
)

-- the word of a number of 32 bits, and that no other number has it
pub word_below : (x : ℤ) → nat_abs x < 2 ^ 31 → unsigned 32 x < 16 ^ 8
unfolding unsigned
word_below (pos n) h = omega arith
word_below (negsuc n) h = omega arith

pub word_back : (x y : ℤ) → nat_abs x < 2 ^ 31 → nat_abs y < 2 ^ 31 → unsigned 32 x ≡ unsigned 32 y → x ≡ y
unfolding unsigned
word_back (pos n) (pos m) h k e = ap {B = ℤ} pos e
word_back (pos n) (negsuc m) h k e = absurd (omega arith)
word_back (negsuc n) (pos m) h k e = absurd (omega arith)
word_back (negsuc n) (negsuc m) h k e = let same : n ≡ m = omega arith in ap {B = ℤ} negsuc same

-- 16 bits as two's complement
pub signed-small : (x : ℕ) → x < 16 ^ 4 → nat_abs (signed 16 x) ≤ 32768
unfolding signed
signed-small x h = go (split x (2 ^ 15))
  where
    go : (x < 2 ^ 15) ⊎ (2 ^ 15 ≤ x) → nat_abs (signed 16 x) ≤ 32768
    go (inl k) = simp (lt-ltb x (2 ^ 15) k) (omega arith)
    go (inr k) = simp (le-ltb x (2 ^ 15) k) (omega (arith, abs_sub x (2 ^ 16)))

-- ---- lines

pub line_le : (s : List ℕ) → line_length s ≤ length s
unfolding line_length
line_le [] = omega arith
line_le (b ∷ bs) = go (eqb b 10) (line_le bs)
  where
    go : (t : Bool) → line_length bs ≤ length bs → cond t 0 (suc (line_length bs)) ≤ suc (length bs)
    go true h = omega arith
    go false h = omega arith

-- a line of digits ends at the LF after it
pub line-digits : (xs rest : List ℕ) → all is_digit xs ≡ true → line_length (xs ++ (10 ∷ rest)) ≡ length xs
unfolding line_length is_digit
line-digits [] rest h = refl
line-digits (x ∷ xs) rest h =
    let d : (is_digit x ≡ true) × (all is_digit xs ≡ true) = both_true (is_digit x) (all is_digit xs) h in
    let other : x ≡ 10 → ⊥ = λ e. false≢true (subst (λ b. is_digit b ≡ true) e d.0) in
    ap (λ t. cond t 0 (suc (line_length (xs ++ (10 ∷ rest))))) (ne_eqb x 10 other) ∙ ap suc (line-digits xs rest d.1)

-- bytes that hold a line have the same first line with other bytes after them
line-length-before : (xs ys : List ℕ) → line_length xs < length xs → line_length (xs ++ ys) ≡ line_length xs
unfolding line_length
line-length-before [] ys h = absurd (omega arith)
line-length-before (b ∷ bs) ys h = go (eqb b 10) h (line-length-before bs ys)
  where
    go : (t : Bool) → cond t 0 (suc (line_length bs)) < suc (length bs) → (line_length bs < length bs → line_length (bs ++ ys) ≡ line_length bs)
        → cond t 0 (suc (line_length (bs ++ ys))) ≡ cond t 0 (suc (line_length bs))
    go true h rest = refl
    go false h rest = ap suc (rest (le_of_suc-le-suc h))

module _ (xs ys : List ℕ) (h : line_length xs < length xs) where
  pub line_before : line_of (xs ++ ys) ≡ line_of xs
  line_before = ap (λ n. take n (xs ++ ys)) (line-length-before xs ys h) ∙ take-append-le (line_length xs) xs ys (omega arith)

  pub after-before : after_line (xs ++ ys) ≡ after_line xs ++ ys
  after-before = ap (λ n. drop (suc n) (xs ++ ys)) (line-length-before xs ys h) ∙ drop-append-le (suc (line_length xs)) xs ys h

  pub has_before : line_length (xs ++ ys) < length (xs ++ ys)
  has_before = omega (arith, line-length-before xs ys h, length-append xs ys)
