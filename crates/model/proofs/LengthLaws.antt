-- How long the lines of a book that was read can be, and the book.
-- Assumes nothing.
use mathlib.Core.Path.{◌≡◌, ap}
use mathlib.Core.Bool.{Bool, true, false, cond}
use mathlib.Core.List.{List}
use Prim.Native.Nat.{ℕ, zero, suc, ◌+◌, ◌*◌, ◌<◌, ◌≤◌}
use native.Mathlib.Nat.{mul-le-mul, mul-le-mul_right}
use native.Mathlib.Omega.{arith}
use lib.Dec.{eqb}
use lib.ListN.{length, length-drop}
use lib.Seq.{length-take-le}
use borrow.Author.Tests.{eqb-true, not-false}
use Rattle.model.specs.Lists.{within}
use Rattle.model.specs.Bounds.{most_slots, most_options, most_line}
use Rattle.model.specs.Frames.{field, line_length, line_of, after_line}
use Rattle.model.specs.Refusals.{done}
use Rattle.model.specs.Book.{Settings, slot_count, load_count, states_ratio, ratio_digits, ratio_in, option_count, standing_pairs, option_start, header_rules, load_rules, read_loads}
use Rattle.model.specs.Valid.{LongestBook}
use Rattle.model.proofs.ListLaws.{within-is}
use Rattle.model.proofs.FrameLaws.{line_le}
use Rattle.model.proofs.RefusalLaws.{NoneApplies}
use Rattle.model.proofs.ValidLaws.{LoadsRead, loads_read, loads-none, BookRead, book_read, HeaderRanges, header_ranges}

-- no header line has more than two digits for its ratio
pub ratio_few : (line : List ℕ) → ratio_digits line ≤ 2
unfolding ratio_digits
ratio_few line = go (states_ratio line)
  where
    go : (t : Bool) → cond t 2 0 ≤ 2
    go true = omega arith
    go false = omega arith

-- no load line carries more pairs for standing than there are slots
pub pairs_most : (t : ℕ) (line : List ℕ) → standing_pairs t line ≤ t
unfolding standing_pairs
pairs_most t line = go (eqb (field line 0 2) 6)
  where
    go : (b : Bool) → cond b t 0 ≤ t
    go true = omega arith
    go false = omega arith

header_few : (line : List ℕ) → NoneApplies (header_rules line) → length line ≤ 18 + 4 * most_slots
unfolding header_rules
header_few line a =
    let due : ℕ = 16 + ratio_digits line + 4 * slot_count line in
    let long : length line ≡ due = eqb-true (length line) due (not-false (eqb (length line) due) a.1.1.1.0) in
    omega (arith, long, ratio_few line, (header_ranges line a).slots.1)

load_few : (t r : ℕ) (line : List ℕ) → t ≤ most_slots → NoneApplies (load_rules t r line) → length line < most_line
unfolding load_rules option_start
load_few t r line h a =
    let o : option_count line ≤ most_options = (within-is 1 most_options (option_count line) (not-false (within 1 most_options (option_count line)) a.1.1.0)).1 in
    let due : ℕ = option_start t (standing_pairs t line) (option_count line) in
    let long : length line ≡ due = eqb-true (length line) due (not-false (eqb (length line) due) a.1.1.1.0) in
    let each : 4 + 8 * t ≤ 4 + 8 * most_slots = omega arith in
    omega (arith, long, pairs_most t line, mul-le-mul o each)

loads_few : (t r n number : ℕ) (bytes : List ℕ) (loads : List Settings) → t ≤ most_slots → read_loads t r n number bytes ≡ done loads
    → length bytes ≤ n * most_line
loads_few t r zero number bytes loads h e = omega (arith, ap length (loads-none t r number bytes loads e).0)
loads_few t r (suc n) number bytes loads h e =
    let a : LoadsRead t r n number bytes loads = loads_read t r n number bytes loads e in
    omega (
      arith,
      a.ends,
      load_few t r (line_of bytes) h a.rules,
      length-take-le (line_length bytes) bytes (line_le bytes),
      length-drop (suc (line_length bytes)) bytes,
      loads_few t r n (suc number) (after_line bytes) a.others h a.rest,
    )

-- NO BOOK THAT IS READ is longer than the longest
pub longest_book : LongestBook
longest_book book b e =
    let line : List ℕ = line_of book in
    let read : BookRead book b = book_read book b e in
    let ranges : HeaderRanges line = header_ranges line read.rules in
    let rest : length (after_line book) ≤ load_count line * most_line
    = loads_few (slot_count line) (ratio_in line) (load_count line) 2 (after_line book) b.loads ranges.slots.1 read.loads in
    omega (
      arith,
      read.ends,
      length-take-le (line_length book) book (line_le book),
      length-drop (suc (line_length book)) book,
      header_few line read.rules,
      rest,
      mul-le-mul_right most_line ranges.loads.1,
    )
