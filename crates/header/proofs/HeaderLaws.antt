-- Header lines: a rule over several ranges, where the ratio stands, and what a line that is not refused tells.
-- Assumes nothing.
use mathlib.Core.Path.{◌≡◌, refl}
use mathlib.Core.Bool.{Bool, true, false, cond}
use mathlib.Core.List.{List}
use Prim.Native.Nat.{ℕ, ◌<◌, ◌≤◌}
use native.Mathlib.Omega.{arith}
use borrow.Author.Tests.{eqb-true, not-false}
use Rattle.std.specs.Prelude.{Ok}
use Rattle.model.specs.Frames.{field}
use Rattle.model.specs.Refusals.{first}
use Rattle.model.specs.Book.{slot_count, states_ratio, ratio_digits, ratio_in, header_rules}
use Rattle.model.proofs.RefusalLaws.{first_passed}
use Rattle.model.proofs.ValidLaws.{HeaderRanges, header_ranges}
use Rattle.header.specs.Header.{HeaderLine}

-- ---- the ratio, by how many digits it has

pub ratio_unstated : (line : List ℕ) → ratio_digits line < 1 → ratio_in line ≡ 1
unfolding ratio_digits ratio_in
ratio_unstated line = go (states_ratio line)
  where
    go : (b : Bool) → cond b 2 0 < 1 → cond b (field line 8 2) 1 ≡ 1
    go true h = absurd (omega arith)
    go false h = refl

pub ratio-stated : (line : List ℕ) → 1 ≤ ratio_digits line → ratio_in line ≡ field line 8 (ratio_digits line)
unfolding ratio_digits ratio_in
ratio-stated line = go (states_ratio line)
  where
    go : (b : Bool) → 1 ≤ cond b 2 0 → cond b (field line 8 2) 1 ≡ field line 8 (cond b 2 0)
    go true h = refl
    go false h = absurd (omega arith)

-- ---- lines that are not refused

pub passed_ranges : (line : List ℕ) → first (header_rules line) ≡ Ok tt → HeaderRanges line
passed_ranges line e = header_ranges line (first_passed (header_rules line) e)

pub header_line_lem : (line : List ℕ) → first (header_rules line) ≡ Ok tt → HeaderLine (slot_count line) line
unfolding header_rules
header_line_lem line e =
    record {
      few = (passed_ranges line e).slots.1;
      stated = refl;
      long = eqb-true _ _ (not-false _ (first_passed (header_rules line) e).1.1.1.0);
    }
