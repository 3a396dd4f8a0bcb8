-- The sheet that is due: as many bytes of a longer array as it has.
-- Assumes nothing.
use Prim.Native.Nat.{ℕ, ◌≤◌}
use mathlib.Core.Path.{◌≡◌, sym, ap, ◌∙◌}
use mathlib.Core.List.{List, [], ◌++◌, append-nil}
use native.Mathlib.Omega.{arith}
use lib.ListN.{length, take, drop, length-append, length-take, drop_of_length-le}
use lib.Seq.{take_at}
use Rattle.model.specs.declared.Book.{Book}
use Rattle.model.specs.Bounds.{most_sheet}
use Rattle.model.specs.Refusals.{done}
use Rattle.model.specs.Answers.{buffer_after}
use Rattle.model.specs.Sheet.{sheet_bytes, sheet_length, sheet_of}
use Rattle.model.specs.Values.{Held, Picked, choice_of, problem_of}
use Rattle.model.proofs.ValidLaws.{sheet-few}
use Rattle.model.proofs.HeldLaws.{held-valid}
use Rattle.sheet.proofs.WriteLaws.{bytes-length}

-- the sheet fits an array of 159 bytes
pub sheet_room : (book : Book) (h : Held book) (n : ℕ) → n ≡ sheet_length (problem_of book) → n ≤ most_sheet
sheet_room book h n e = omega (arith, sheet-few (problem_of book) (held-valid book h))

-- a buffer of which as many bytes were lent as the sheet has
module _ (book : Book) (h : Held book) (picks : List ℕ) (picked : Picked (problem_of book) picks) (trials n : ℕ) (l last : List ℕ)
    (room : most_sheet ≤ length l) (all : n ≡ sheet_length (problem_of book))
    (e : last ≡ buffer_after (done (sheet_of (problem_of book) (choice_of (problem_of book) picks) trials)) (take n l)) where
  abbrev due : List ℕ
  due = sheet_bytes (problem_of book) (choice_of (problem_of book) picks) trials

  due_length : length due ≡ n
  due_length = bytes-length book h picks picked trials ∙ sym all

  last_is : last ≡ due
  last_is =
      let none : drop (length due) (take n l) ≡ []
      = drop_of_length-le (take n l) {i = length due} (omega (arith, length-take n l, due_length)) in
      e ∙ ap (λ r. due ++ r) none ∙ append-nil due

  pub due_room : n ≤ length (last ++ drop n l)
  due_room = omega (arith, length-append last (drop n l), ap length last_is, due_length)

  pub due_is : take n (last ++ drop n l) ≡ due
  due_is = take_at last (drop n l) n (ap length last_is ∙ due_length) ∙ last_is
