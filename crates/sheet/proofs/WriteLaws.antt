-- The sheet that the code writes is the one of the definitions.
-- Assumes nothing.
use Prim.Native.Nat.{ℕ, ◌+◌, ◌-◌, ◌*◌, ◌^◌, ◌≤◌, ◌<◌}
use mathlib.Core.Path.{◌≡◌, sym, ap, ap₂, ◌∙◌}
use mathlib.Core.List.{List, ◌++◌}
use native.Mathlib.Omega.{arith}
use lib.IntN.{sub_ℕ}
use lib.ListN.{length, get_or, take, drop}
use Rattle.model.specs.declared.Book.{Book}
use Rattle.model.specs.Refusals.{done}
use Rattle.model.specs.Book.{Setting, Problem}
use Rattle.model.specs.Choice.{Choice, IsChoice, worth_of, sum_in, no_setting}
use Rattle.model.specs.Answers.{buffer_after}
use Rattle.model.specs.Sheet.{first_line, sums_and_limits, slot_lines, sheet_bytes, sheet_length, sheet_of}
use Rattle.model.specs.Valid.{ValidBook}
use Rattle.model.specs.Values.{Held, Picked, pick_of, choice_of, problem_of}
use Rattle.model.proofs.UptoLaws.{get_d_upto}
use Rattle.model.proofs.PlanLaws.{chosen_length}
use Rattle.model.proofs.SheetLaws.{length-first, length_slot_lines, sheet-length}
use Rattle.model.proofs.RaisedLaws.{raised_less}
use Rattle.model.proofs.SumLaws.{sum-small, choice-small}
use Rattle.model.proofs.HeldLaws.{held-valid, held-count, held-slots, held_four, held-limit}
use Rattle.hexadecimal.specs.Written.{written}
use Rattle.hexadecimal.proofs.WrittenLaws.{written_start, then_written}
use Rattle.sums.specs.declared.Sums.{Sums}
use Rattle.sums.specs.Sums.{sums_value}
use Rattle.sums.proofs.SumsLaws.{sums-active, sums-reactive, choice-sums}
use Rattle.sums.proofs.PickLaws.{picked-choice, pick_number}
use Rattle.lines.specs.Lines.{first_bytes, slots_bytes}
use Rattle.lines.proofs.LineLaws.{first-is, slots_are}

-- ---- the sheet of a choice whose numbers are in an array

module _ (b : Problem) (picks : List ℕ) (valid : ValidBook b) (picked : Picked b picks) where
  pub number_at : (k : ℕ) → k < length b.loads → (get_or (choice_of b picks) k no_setting).number ≡ get_or picks k 0
  unfolding choice_of
  number_at k l =
      ap (λ (v : Setting). v.number) (get_d_upto (pick_of b picks) (length b.loads) k no_setting l) ∙ pick_number b picks valid picked k l

  pub choice-length : length (choice_of b picks) ≡ length b.loads
  choice-length = chosen_length b.loads (choice_of b picks) (picked-choice b picks valid picked)

module _ (book : Book) (h : Held book) (picks : List ℕ) (picked : Picked (problem_of book) picks) where
  abbrev b : Problem
  b = problem_of book

  abbrev c : Choice
  c = choice_of (problem_of book) picks

  chosen : IsChoice b.loads c
  chosen = picked-choice b picks (held-valid book h) picked

  count_is : length c ≡ book.count
  count_is = choice-length b picks (held-valid book h) picked ∙ sym (held-count book h)

  pub reactive_room : (sums : Sums) → sums ≡ sums_value c → (s : ℕ) → s < 4 → get_or sums.reactives s 0 ≤ 2 ^ 31
  reactive_room sums e s l =
      omega (arith, ap (λ (x : Sums). get_or x.reactives s 0) e, (choice-sums b (held-valid book h) c chosen).reactive s l)

  -- the code's numbers give the slot lines of the definitions
  pub slots-lines : (sums : Sums) → sums ≡ sums_value c
      → slots_bytes book.count sums.actives sums.reactives book.limits book.slots ≡ slot_lines (sums_and_limits b c)
  slots-lines sums e =
      ap (slots_bytes book.count sums.actives sums.reactives book.limits) (held-slots book h)
      ∙ slots_are b c book.count sums.actives sums.reactives book.limits
      (λ s l. active_is s (four s l)) (λ s l. reactive_is s (four s l)) (λ s l. held-limit book h s (four s l))
    where
      four : (s : ℕ) → s < length b.limits → s < 4
      four s l = omega (arith, held-slots book h, held_four book h)

      active_is : (s : ℕ) → s < 4 → get_or sums.actives s 0 ≡ (sum_in s c).p
      active_is s l = ap (λ (x : Sums). get_or x.actives s 0) e ∙ sums-active c s l

      reactive_is : (s : ℕ) → s < 4 → sub_ℕ (get_or sums.reactives s 0) (32768 * book.count) ≡ (sum_in s c).q
      reactive_is s l =
          ap₂ (λ x n. sub_ℕ x (32768 * n)) (ap (λ (x : Sums). get_or x.reactives s 0) e ∙ sums-reactive c s l) (sym count_is)
          ∙ raised_less (length c) (sum_in s c).q (sum-small c (choice-small b (held-valid book h) c chosen) s).reactive

  pub bytes-length : (trials : ℕ) → length (sheet_bytes b c trials) ≡ sheet_length b
  bytes-length trials = sheet-length b c trials (choice-length b picks (held-valid book h) picked)

  -- the first line and then the slot lines leave the sheet in the buffer
  pub sheet-left : (sums : Sums) (worth trials p : ℕ) (l l₁ l₂ : List ℕ) → sums ≡ sums_value c → worth ≡ worth_of c
      → l₁ ≡ written l 0 (first_bytes picks book.count worth trials)
      → l₂ ≡ written (take (length l₁ - p) (drop p l₁)) 0 (slots_bytes book.count sums.actives sums.reactives book.limits book.slots)
      → p ≡ 19 + 2 * book.count → sheet_length b ≤ length l
      → take p l₁ ++ (l₂ ++ drop (length l₁ - p) (drop p l₁)) ≡ buffer_after (done (sheet_of b c trials)) l
  unfolding sheet_bytes
  sheet-left sums worth trials p l l₁ l₂ e f first rest q room =
      let first-line : first_bytes picks book.count worth trials ≡ first_line c trials
      = ap (λ v. first_bytes picks book.count v trials) f
      ∙ first-is c picks book.count count_is (λ k i. number_at b picks (held-valid book h) picked k (omega (arith, held-count book h))) trials in
      then_written l l₁ l₂ (first_line c trials) (slot_lines (sums_and_limits b c)) p (first ∙ ap (written l 0) first-line)
      (rest ∙ ap (written (take (length l₁ - p) (drop p l₁)) 0) (slots-lines sums e))
      (omega (arith, length-first c trials, count_is)) (omega (arith, length_slot_lines b c, held-count book h))
      ∙ written_start l (sheet_bytes b c trials)
