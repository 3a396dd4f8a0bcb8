-- Frames (document 01, "The book"): "lines of hexadecimal digits 0-9 A-F, one frame a line, each ended by one LF (byte 0A). Two digits make
-- 8 bits; the highest digit comes first."
use Rattle.std.specs.Prelude.{ℕ, zero, suc, ◌+◌, ◌*◌, ◌-◌, ◌/◌, ◌%◌, ◌^◌, Bool, cond, ◌||◌, List, [], ◌∷◌, ltb, eqb, ℤ, pos, negsuc, length, take, drop}
use Rattle.std.proofs.Math.IntN.{sub_ℕ}
use Rattle.model.specs.Lists.{within}

-- the byte is one of 0-9 (48 to 57) or A-F (65 to 70)
unfoldable pub is_digit : ℕ → Bool
is_digit b = within 48 57 b || within 65 70 b

-- what a digit stands for; a byte that is no digit counts as 0
unfoldable pub digit_value : ℕ → ℕ
digit_value b = cond (within 48 57 b) (b - 48) (cond (within 65 70 b) (b - 55) 0)

-- the digit of a number below 16
unfoldable pub digit : ℕ → ℕ
digit x = cond (ltb x 10) (48 + x) (55 + x)

-- the number that digits stand for, after the number x read so far
unfoldable pub value_from : ℕ → List ℕ → ℕ
value_from x [] = x
value_from x (b ∷ bs) = value_from (x * 16 + digit_value b) bs

-- the number in the n digits from place `at` of a line on
unfoldable pub field : List ℕ → ℕ → ℕ → ℕ
field line at n = value_from 0 (take n (drop at line))

-- the lowest n digits of x, "the highest digit comes first"
unfoldable pub digits : ℕ → ℕ → List ℕ
digits zero x = []
digits (suc n) x = digit (x / 16 ^ n % 16) ∷ digits n x

-- "two's complement" of w bits: x, or x - 2^w where the highest bit is set
unfoldable pub signed : ℕ → ℕ → ℤ
signed w x = cond (ltb x (2 ^ (w - 1))) (pos x) (sub_ℕ x (2 ^ w))

-- and back
unfoldable pub unsigned : ℕ → ℤ → ℕ
unsigned w (pos n) = n
unsigned w (negsuc n) = 2 ^ w - suc n

-- how many bytes stand before the first LF; all, where there is none
unfoldable pub line_length : List ℕ → ℕ
line_length [] = zero
line_length (b ∷ bs) = cond (eqb b 10) zero (suc (line_length bs))

-- an LF follows
abbrev pub has_line : List ℕ → Bool
has_line bytes = ltb (line_length bytes) (length bytes)

-- the first line without its LF, and what follows that LF
abbrev pub line_of : List ℕ → List ℕ
line_of bytes = take (line_length bytes) bytes

abbrev pub after_line : List ℕ → List ℕ
after_line bytes = drop (suc (line_length bytes)) bytes

-- the line after k others, without its LF
abbrev pub line_at : ℕ → List ℕ → List ℕ
line_at zero bytes = line_of bytes
line_at (suc k) bytes = line_at k (after_line bytes)
