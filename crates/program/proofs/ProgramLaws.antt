-- The program's book, words and buffer: the result for them is the program's, and what is printed of it is the program's value.
-- Assumes nothing.
use mathlib.Core.Path.{◌≡◌, sym, ap, ap₂, ◌∙◌}
use mathlib.Core.List.{List, ◌++◌}
use mathlib.Core.Logic.{◌⊎◌, inl, inr}
use Prim.Native.Nat.{ℕ, zero, suc, ◌-◌, ◌<◌, ◌≤◌}
use native.Mathlib.Nat.{sub-zero, suc-sub-suc}
use native.Mathlib.Omega.{arith}
use lib.ListN.{length, take, drop, replicate, length-append}
use lib.Seq.{length-take-le, take_all}
use Rattle.model.specs.Bounds.{most_sheet, program_bytes, program_words}
use Rattle.model.specs.Calls.{planner_result}
use Rattle.model.specs.Program.{printed, program_output}
use Rattle.model.proofs.IntegerLaws.{split}
use Rattle.hexadecimal.specs.Written.{written}
use Rattle.hexadecimal.proofs.WrittenLaws.{written_start}
use Rattle.program.specs.declared.Printed.{Printed}
use Rattle.program.specs.PrintedValue.{printed_value}

-- the book is the first 4,096 bytes
pub book-bytes : (input : List ℕ) (n : ℕ) → (length input ≤ program_bytes → n ≡ length input) → (program_bytes ≤ length input → n ≡ program_bytes) → take n input ≡ take program_bytes input
book-bytes input n f g = go (split (length input) program_bytes)
  where
    go : (length input < program_bytes) ⊎ (program_bytes ≤ length input) → take n input ≡ take program_bytes input
    go (inr h) = ap (λ m. take m input) (g h)
    go (inl h) = ap (λ m. take m input) (f (omega arith)) ∙ take_all (length input) input (omega arith) ∙ sym (take_all program_bytes input (omega arith))

pub book-count : (input : List ℕ) (n : ℕ) → (length input ≤ program_bytes → n ≡ length input) → (program_bytes ≤ length input → n ≡ program_bytes) → n ≡ length (take n input)
book-count input n f g = sym (length-take-le n input (go (split (length input) program_bytes)))
  where
    go : (length input < program_bytes) ⊎ (program_bytes ≤ length input) → n ≤ length input
    go (inl h) = omega (arith, f (omega arith))
    go (inr h) = omega (arith, g h)

-- the result for these bytes, words and room is the program's
pub program_is : (input words room : List ℕ) (n : ℕ) → (length input ≤ program_bytes → n ≡ length input) → (program_bytes ≤ length input → n ≡ program_bytes)
    → program_words ≡ length words → room ≡ replicate most_sheet 0 → printed (planner_result (take n input) (length words) (length room)) ≡ program_output input
unfolding program_output
program_is input words room n f g w r =
    ap (λ bytes. printed (planner_result bytes (length words) (length room))) (book-bytes input n f g)
    ∙ ap₂ (λ x y. printed (planner_result (take program_bytes input) x y)) (sym w) (ap length r)

-- ---- the value

abbrev zeros : ℕ → List ℕ
zeros m = replicate m 0

zeros_left : (n m : ℕ) → drop n (zeros m) ≡ zeros (m - n)
zeros_left zero m = ap zeros (sym (sub-zero m))
zeros_left (suc n) zero = let e : 0 ≡ 0 - suc n = omega arith in ap zeros e
zeros_left (suc n) (suc m) = zeros_left n m ∙ ap zeros (sym (suc-sub-suc m n))

-- bytes that were written over zeros
pub value_is : (room out bytes : List ℕ) (n : ℕ) → room ≡ zeros most_sheet → bytes ≡ written room 0 out → n ≡ length out
    → Path Printed (record { bytes = bytes; length = n }) (printed_value out)
unfolding printed_value
value_is room out bytes n r e q =
    let p : bytes ≡ out ++ zeros (most_sheet - length out) = e ∙ ap (λ l. written l 0 out) r ∙ written_start (zeros most_sheet) out ∙ ap (λ l. out ++ l) (zeros_left (length out) most_sheet) in
    (λ i. record { bytes = p i; length = q i })

-- the bytes that are printed lie within the value
pub printed-fits : (v : Printed) (out : List ℕ) → v ≡ printed_value out → v.length ≤ length v.bytes
unfolding printed_value
printed-fits v out e =
    omega (arith, ap (λ (x : Printed). x.length) e, ap (λ (x : Printed). length x.bytes) e, length-append out (zeros (most_sheet - length out)))
