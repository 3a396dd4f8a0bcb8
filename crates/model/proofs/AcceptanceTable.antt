-- The proved table: document 01's starred cases ("Trials at the bench"), the ends of M-102's range, two overloads near M-106's bound, charges (M-100,
-- M-111), orders of starting (M-101), views (M-103), standing loads that draw (M-104), loads that must run (M-105), a day's books (M-107), poorer power factors
-- (M-108), the strict planner (M-109), two mills' books pooled (M-110), and edges where a near mistake shows, as one table of facts about the definitions, with
-- one statement covering it. Star n is the n-th star of document 01. Assumes nothing.
use mathlib.Core.Path.{◌≡◌, refl, ap₂, ◌∙◌}
use mathlib.Core.Bool.{Bool, true, false, ◌&&◌}
use mathlib.Core.List.{List, [], ◌∷◌, ◌++◌, map}
use mathlib.Core.Option.{Option, none, some}
use Prim.Native.Nat.{ℕ, zero, suc, ◌+◌, ◌*◌, ◌-◌}
use Prim.Native.String.{String, [] as ε, ◌∷◌ as ◌⸬◌}
use Prim.Native.Char.{code}
use lib.Count.{ones_in, ones}
use lib.Dec.{leb, ltb, eqb}
use lib.IntN.{ℤ, pos, neg_ℤ}
use lib.ListN.{length, replicate}
use Rattle.model.specs.declared.Answer.{Answer}
use Rattle.model.specs.declared.SheetAnswer.{SheetAnswer}
use Rattle.model.specs.declared.ChargeAnswer.{ChargeAnswer}
use Rattle.model.specs.Lists.{upto, all, any, concat, same_lists}
use Rattle.model.specs.Bounds.{most_book}
use Rattle.model.specs.Frames.{is_digit, digit_value, digit, value_from, field, digits, signed, unsigned, line_length}
use Rattle.model.specs.Refusals.{Result, refused, done, number_of, first}
use Rattle.model.specs.Answers.{Output, answer_of, in_room}
use Rattle.model.specs.Book.{Problem, states_ratio, ratio_digits, ratio_in, standing_pairs, must_run, option_start, standing_power, header_rules, some_exceeds, load_rules, read_loads, read_book}
use Rattle.model.specs.Choice.{Choice, setting_of, square}
use Rattle.model.specs.Grid.{step_for, slots_of, floor_div, best_admitted, plan}
use Rattle.model.specs.Trials.{cells, sameℤ, reached_count, trials_upto, trials}
use Rattle.model.specs.Sheet.{lf, numbers_of, first_line, sums_and_limits, slot_line, slot_lines, sheet_bytes}
use Rattle.model.specs.Calls.{size_rules, fitting_book, plan_sheet, planner_result, free_words}
use Rattle.model.specs.Quick.{size_of, take_if_fits, quick_choice, quick_rules, quick_sheet, quick_result}
use Rattle.model.specs.Program.{refusal_line, printed, program_output}
use Rattle.model.specs.Demand.{apparent_squared_in, closer_bound}
use Rattle.model.specs.Rounding.{floor_by_sum}
use Rattle.model.specs.SheetReader.{sheet_choice, sheet_data, reader_result, sheet_answer_of}
use Rattle.model.specs.Charge.{rounded, charge_of, choice_charge, sheet_charge, charge_result, charge_answer_of}
use Rattle.model.specs.Order.{Running, starting, running_mask, and_not, start_count, wrong_names, some_blocked, left, ready, start_next, started_after, start_order, OrderData, loads_order, sheets_order, order_result}
use Rattle.model.specs.Day.{books_from, day_output, day_rules, day_of, day_result, day_free_words}
use Rattle.model.specs.Strict.{best_keeping, strict_plan, strict_book, strict_result, strict_free}
use Rattle.model.specs.Pool.{read_both, limit_sums, pair_rules, poolable, header_line, pooled_with, pool_result}
use Rattle.model.specs.Views.{accepted, running_loads, number_and_level, mill_line, mill_result, supply_view, supply_result}
use Rattle.model.proofs.ListLaws.{all_join}

abbrev pub bytes_of : String → List ℕ
bytes_of ε = []
bytes_of (c ⸬ s) = code c ∷ bytes_of s

-- one text before another
abbrev joined : String → String → String
joined ε t = t
joined (c ⸬ s) t = c ⸬ joined s t

-- a row of the table
pub data Row : Type 0 where
  -- the program prints this for a book
  prints : String → String → Row
  -- the quick planner, printed in the same way
  quick_prints : String → String → Row
  -- the book is read
  reads : String → Row
  -- N, d and S have the step L
  steps : ℕ → ℕ → ℕ → ℕ → Row
  -- a power and a step L have a grid value, by document 01's sentence and by M-102's arithmetic
  rounds : ℤ → ℕ → ℤ → Row
  -- a book has so many cells
  counts : String → ℕ → Row
  -- the trials of a book, load by load: what each load adds to those before it
  tries : String → List ℕ → Row
  -- in each slot of a book's plan, P² + Q² is x, (1 + m/d)²S² is y, and x ≤ y, for m, x and y in this order
  carries : String → ℕ → ℕ → ℕ → Row
  -- the program prints this for a book, and in each slot of that sheet 4d²(P² + Q²) is above (2d + 2)²S², and not above M-106's (2d + 3)²S²
  overloads : String → String → Row
  -- the number, the line, the code, the worth and the trials that the sheet reader answers for a book and a sheet
  answers : List ℕ → List ℕ → List ℕ → Row
  -- n / 40, rounded
  rounds_charge : ℕ → ℕ → Row
  -- the number, the line and the charge that a book, a sheet and prices are answered with
  charges : List ℕ → List ℕ → List ℕ → List ℕ → Row
  -- for three loads, of which these run in the running sheet and those in the new one, with these names and room for so many bytes: the number, the starts,
  -- the stops and the order; or the number and the line
  orders : List ℕ → List ℕ → List ℕ → ℕ → List ℕ → Row
  -- the same of a book, the running sheet and the new one
  orders_from : List ℕ → List ℕ → List ℕ → List ℕ → ℕ → List ℕ → Row
  -- the mill's view of a book and a sheet, the supply company's, the quick or the strict planner's sheet for the book, or two books pooled, in a buffer of so
  -- many bytes: the answer's five numbers, and what is written, printed as the program prints a sheet
  shows : (List ℕ → List ℕ → ℕ → Result Output) → List ℕ → List ℕ → ℕ → List ℕ → String → Row
  -- the day of these bytes, with a work area of so many words and a buffer of so many bytes: the answer's five numbers, and its output, or of a refusal
  -- the line that the program would print
  days : List ℕ → ℕ → ℕ → List ℕ → List ℕ → Row
  -- the day of these bytes, with a work area of so many words, may change so many of them, the first
  frees : List ℕ → ℕ → ℕ → Row
  -- the strict planner, for a book, a work area of so many words and a buffer of so many bytes, may change so many of the words
  strict_frees : String → ℕ → ℕ → ℕ → Row

abbrev prints_for : String → String → Bool
prints_for book out = same_lists eqb (program_output (bytes_of book)) (bytes_of out)

-- the book is read, and the test holds of it
abbrev read_with : (Problem → Bool) → String → Bool
read_with test book = passes (read_book (bytes_of book))
  where
    passes : Result Problem → Bool
    passes (refused r number) = false
    passes (done b) = test b

-- there is a plan, and the test holds of d, S and its P² + Q², in each slot
abbrev in_slots : (ℕ → ℕ → ℕ → Bool) → Problem → Bool
in_slots test b = of_plan (plan b)
  where
    of_plan : Option Choice → Bool
    of_plan none = false
    of_plan (some c) = all (λ s. test b.fineness s.limit (apparent_squared_in s.place c)) (slots_of b)

-- what `overloads` says of a slot, of d, S and z = P² + Q²
abbrev near_bound : ℕ → ℕ → ℕ → Bool
near_bound d s z = ltb (square (2 * d + 2) * square s) (4 * square d * z) && leb (4 * square d * z) (closer_bound d s)

-- the answer's numbers
abbrev answer_numbers : Answer → List ℕ
answer_numbers a = a.number ∷ a.line ∷ a.bytes ∷ a.worth ∷ a.trials ∷ []

-- the answer's number, line, code, worth and trials
abbrev sheet_numbers : SheetAnswer → List ℕ
sheet_numbers a = a.answer.number ∷ a.answer.line ∷ a.code ∷ a.answer.worth ∷ a.answer.trials ∷ []

-- the answer's number, line and charge
abbrev charge_numbers : ChargeAnswer → List ℕ
charge_numbers a = a.answer.number ∷ a.answer.line ∷ a.charge ∷ []

-- the loads in a list
abbrev among : List ℕ → Running
among loads k = any (eqb k) loads

-- three loads of two levels that draw nothing, and a sheet with these c
abbrev levels_book : List ℕ
levels_book = bytes_of "01010301000000640064\n" ++ concat (replicate 3 (bytes_of "0202000000000000000000000000\n"))

abbrev levels_sheet : String → List ℕ
levels_sheet cs = bytes_of "040000000000000000" ++ bytes_of cs ++ bytes_of "\n0500000000000000000064\n"

-- what is shown of an order
abbrev order_numbers : Result OrderData → List ℕ
order_numbers (refused r line) = number_of r ∷ line ∷ []
order_numbers (done x) = 0 ∷ x.starts ∷ x.stops ∷ x.order

-- the trials that load k + 1 adds
abbrev tries_of : Problem → ℕ → ℕ
tries_of b k = trials_upto (slots_of b) b.loads (suc k) - trials_upto (slots_of b) b.loads k

unfoldable pub holds : Row → Bool
holds (prints book out) = prints_for book out
holds (quick_prints book out) = same_lists eqb (printed (quick_result (bytes_of book) 4096)) (bytes_of out)
holds (reads book) = read_with (λ b. true) book
holds (steps n d s l) = eqb (step_for n d s) l
holds (rounds x l g) = sameℤ (floor_div x l) g && sameℤ (floor_by_sum x l) g
holds (counts book n) = read_with (λ b. eqb (cells b) n) book
holds (tries book each) = read_with (λ b. same_lists eqb (map (tries_of b) (upto (length b.loads))) each) book
holds (carries book m x y) = read_with (in_slots (λ d s z. eqb z x && eqb (square (d + m) * square s) (square d * y) && leb x y)) book
holds (overloads book out) = prints_for book out && read_with (in_slots near_bound) book
holds (answers book sheet numbers) = same_lists eqb (sheet_numbers (sheet_answer_of (reader_result book sheet))) numbers
holds (rounds_charge n r) = eqb (rounded n) r
holds (charges book sheet prices numbers) = same_lists eqb (charge_numbers (charge_answer_of (charge_result book sheet prices))) numbers
holds (orders old new names room numbers) = same_lists eqb (order_numbers (loads_order 3 names room (among old) (among new))) numbers
holds (orders_from book old new names room numbers) = same_lists eqb (order_numbers (order_result book old new names room)) numbers
holds (shows view book sheet room numbers out) =
    same_lists eqb (answer_numbers (answer_of (view book sheet room))) numbers && same_lists eqb (printed (view book sheet room)) (bytes_of out)
holds (days input words room numbers out) =
    same_lists eqb (answer_numbers (answer_of (day_result input words room))) numbers && same_lists eqb (printed (day_result input words room)) out
holds (frees input words free) = eqb (day_free_words input words) free
holds (strict_frees book words room free) = eqb (strict_free (bytes_of book) words room) free

-- two slots, and one load with P = 20 and P = 4; and the sheet on which it runs
abbrev halves_book : List ℕ
halves_book = bytes_of "010201010000006400640064\n020100010014000000040000\n"

abbrev halves_sheet : List ℕ
halves_sheet = bytes_of "04000000010000000401\n0500000014000000000064\n0500000004000000000064\n"

-- four slots, and 24 loads of the greatest P; and the sheet on which all of them run
abbrev full_book : List ℕ
full_book =
    bytes_of "0104180100000064FFFFFFFFFFFFFFFF\n" ++ concat (replicate 24 (bytes_of "02010000FFFF0000FFFF0000FFFF0000FFFF0000\n"))

abbrev full_sheet : List ℕ
full_sheet =
    bytes_of "040000000000000000" ++ concat (replicate 24 (bytes_of "01")) ++ lf ++ concat (replicate 4 (bytes_of "050017FFE800000000FFFF\n"))

-- document 01's book and sheet; and a book of one load with the sheet on which it runs, with the same sums and limit
abbrev example : String
example = "0101030400000064000A\n0201000500050005\n020100050004FFFC\n0201000400040000\n"

abbrev example_sheet : List ℕ
example_sheet = bytes_of "040000000A0000000E010100\n050000000900000001000A\n"

abbrev twin_book : List ℕ
twin_book = bytes_of "0101010100000064000A\n0201000100090001\n"

abbrev twin_sheet : List ℕ
twin_sheet = bytes_of "04000000010000000001\n050000000900000001000A\n"

-- and the sheet on which it stands
abbrev standing_sheet : List ℕ
standing_sheet = bytes_of "04000000000000000000\n050000000000000000000A\n"

-- the handbook's book of M-108
abbrev bank_book : String
bank_book = "080103050300000064000A\n0201000900040008\n020100000003FFF7\n0201000400030001\n"

abbrev bank_sheet : List ℕ
bank_sheet = bytes_of "040000000D0000000E010101\n050000000A00000000000A\n"

-- of books and their plans. What is soon computed, edges and M-106 stand first: the checker shows what a list computes to only up to a number of steps,
-- and a near mistake is to show as false.
unfoldable pub plan_rows : List Row
plan_rows =
    -- star 5: S = 23 and S = 24
    steps 3 4 23 1
    ∷ steps 3 4 24 2
    -- star 6: L = 50
    ∷ rounds (neg_ℤ (pos 1)) 50 (neg_ℤ (pos 1))
    ∷ rounds (neg_ℤ (pos 50)) 50 (neg_ℤ (pos 1))
    ∷ rounds (neg_ℤ (pos 51)) 50 (neg_ℤ (pos 2))
    -- M-102: the least and the greatest Q, at the least and the greatest L
    ∷ rounds (neg_ℤ (pos 32768)) 1 (neg_ℤ (pos 32768))
    ∷ rounds (neg_ℤ (pos 32768)) 65535 (neg_ℤ (pos 1))
    ∷ rounds (pos 32767) 1 (pos 32767)
    ∷ rounds (pos 32767) 65535 (pos 0)
    -- an edge, two faults on one line: a byte G and kind 03, and 2 comes before 3
    ∷ prints "030G\n" "FF020001\n"
    -- an edge, the same: 5 slots and no limit, and 4 comes before 5
    ∷ prints "0105010100000064\n" "FF040001\n"
    -- an edge, limits 100 and 30: load 2 draws 50 in slot 2 and stands. Against the mean of the limits, 65, both loads would run
    ∷ prints "01020201000000640064001E\n0201000500320000000A0000\n02010004000A000000320000\n"
    "0400000005000000060100\n0500000032000000000064\n050000000A00000000001E\n"
    -- an edge, R = 3: loads 1 and 2, of P = 2, have a = 4 together, which is not counted before load 3
    ∷ tries "01010301000000640003\n0201000100020000\n0201000100020000\n0201000100010000\n" (2 ∷ 4 ∷ 4 ∷ [])
    -- M-106, d = 1: 222.3 % of S in both slots, where M-106 has 250 % and 2 in place of 3 has 200 %. Levels 2 and 3 are worth more, but slot 2 does not
    -- admit level 2, nor slot 1 level 3
    ∷ overloads "010201010000006400640064\n0203000300C7006300C70063000900C7006300C80000000900C8000000C70063\n"
    "04000000030000000401\n05000000C7000000630064\n05000000C7000000630064\n"
    -- M-106, d = 8, examples/close.book: 116.7 % of S, rounded up, where M-106 has 118.75 % and 2 in place of 3 has 112.5 %
    ∷ overloads "010103080000006414B9\n0201003C08A1060A\n0201002806E70450\n0201001904500373\n"
    "040000007D0000000E010101\n05000013D800000DCD14B9\n"
    -- document 01's book and sheet
    ∷ prints example
    "040000000A0000000E010100\n050000000900000001000A\n"
    -- star 1, of that book: L = 1; 2 + 4 + 8 trials; 82 ≤ 100, of the limit itself
    ∷ steps 3 4 10 1
    ∷ tries example (2 ∷ 4 ∷ 8 ∷ [])
    ∷ carries example 0 82 100
    -- star 2: the quick planner
    ∷ quick_prints example
    "040000000900000003000101\n0500000008FFFFFFFC000A\n"
    -- star 3: budget 14
    ∷ prints "010103040000000E000A\n0201000500050005\n020100050004FFFC\n0201000400040000\n"
    "040000000A0000000E010100\n050000000900000001000A\n"
    -- star 4: budget 13
    ∷ prints "010103040000000D000A\n0201000500050005\n020100050004FFFC\n0201000400040000\n" "FF0C0000\n"
    -- star 7: both loads of (99, 0) run; their sum 198 ≤ 300, which is 1 + 2/d times the limit
    ∷ prints "01010201000000640064\n0201000300630000\n0201000300630000\n"
    "0400000006000000060101\n05000000C6000000000064\n"
    ∷ carries "01010201000000640064\n0201000300630000\n0201000300630000\n" 2 (square 198) (square 300)
    -- star 8: the same with (100, 0)
    ∷ prints "01010201000000640064\n0201000300640000\n0201000300640000\n"
    "0400000003000000060100\n0500000064000000000064\n"
    -- star 9: S = 0
    ∷ prints "01010201000000640000\n0201000100000000\n0201000100010000\n"
    "0400000001000000040100\n0500000000000000000000\n"
    -- star 10: empty input
    ∷ prints "" "FF010001\n"
    -- star 11: |Q| = P is read, |Q| = P + 1 is refused
    ∷ reads "01010101000000640064\n020100010004FFFC\n"
    ∷ prints "01010101000000640064\n020100010004FFFB\n" "FF070002\n"
    ∷ []

-- M-104: load 1 draws (3, 0) where it runs; load 2 stands at (8, 0) and runs at (4, 0); and the sheets on which both stand, and both run
abbrev heaters : String
heaters = "0101020500000064000A\n0201000500030000\n060100080000000500040000\n"

abbrev heaters_sheet : List ℕ
heaters_sheet = bytes_of "0400000000000000000000\n050000000800000000000A\n"

abbrev heaters_plan : List ℕ
heaters_plan = bytes_of "040000000A000000060101\n050000000700000000000A\n"

-- two loads that stand at (11, 0), where the limit is 10, and run at (11, 0); the trials are 2, the budget is 2
abbrev overloaded : String
overloaded = "0101020A00000002000A\n0601000B00000005000B0000\n0601000B00000005000B0000\n"

-- one load that stands at (11, 0), where the limit is 10, and runs at (6, 0) with worth 0
abbrev warm : String
warm = "0101010A00000064000A\n0601000B0000000000060000\n"

-- the quick planner, in a buffer of so many bytes
abbrev quick_in : List ℕ → List ℕ → ℕ → Result Output
quick_in book sheet room = quick_result book room

-- of standing loads that draw (M-104)
unfoldable pub standing_rows : List Row
standing_rows =
    -- "A load once passed over is never tried again": beside load 2, which stands at (8, 0), load 1 does not fit; once load 2 runs it would, and it runs
    -- in the plan
    quick_prints heaters "0400000005000000020001\n050000000400000000000A\n"
    ∷ prints heaters "040000000A000000060101\n050000000700000000000A\n"
    -- the line's length by its kind: a `06` line as long as a `02` line, and the other way round
    ∷ prints "0101010A00000064000A\n0601000500050005\n" "FF050002\n"
    ∷ prints "0101010A00000064000A\n020100080000000500040000\n" "FF050002\n"
    -- 7 covers the standing pair: |Q| = P is read, |Q| = P + 1 is refused
    ∷ reads "0101010A00000064000A\n060100040004000500040000\n"
    ∷ prints "0101010A00000064000A\n060100040005000500040000\n" "FF070002\n"
    -- a header line is no load line, and a load line no header
    ∷ prints "0601010A00000064000A\n0201000500050005\n" "FF030001\n"
    ∷ prints "0101010A00000064000A\n0101000500050005\n" "FF030002\n"
    -- all standing is over the limit, and so is every choice: no pair has a ≤ R after load 1, H(1) = 0, and 17 is given
    ∷ tries overloaded (2 ∷ 0 ∷ [])
    ∷ prints overloaded "FF110000\n"
    -- the same with one trial less in the budget: 12 comes before 17
    ∷ prints "0101020A00000001000A\n0601000B00000005000B0000\n0601000B00000005000B0000\n" "FF0C0000\n"
    -- the quick planner: 11 comes before 17
    ∷ shows quick_in (bytes_of overloaded) [] 46 (17 ∷ 0 ∷ 0 ∷ 0 ∷ 0 ∷ []) "FF110000\n"
    ∷ shows quick_in (bytes_of overloaded) [] 45 (11 ∷ 0 ∷ 0 ∷ 0 ∷ 0 ∷ []) "FF0B0000\n"
    -- the only admitted choice runs the load, as its standing pair is larger; the quick planner begins with all standing, and gives 17
    ∷ prints warm "04000000000000000201\n050000000600000000000A\n"
    ∷ quick_prints warm "FF110000\n"
    -- two slots with a limit of 2, and two levels: it stands at 1 and 3, and runs at 2 and 3 with worth 5, or at 2 and 2 with worth 0
    ∷ prints "010201020000006400020002\n060200010000000300000005000200000003000000000002000000020000\n"
    "04000000000000000302\n0500000002000000000002\n0500000002000000000002\n"
    ∷ quick_prints "010201020000006400020002\n060200010000000300000005000200000003000000000002000000020000\n" "FF110000\n"
    -- document 01's book with `06` lines of zeros: its sheets
    ∷ prints "0101030400000064000A\n060100000000000500050005\n06010000000000050004FFFC\n060100000000000400040000\n"
    "040000000A0000000E010100\n050000000900000001000A\n"
    ∷ quick_prints "0101030400000064000A\n060100000000000500050005\n06010000000000050004FFFC\n060100000000000400040000\n"
    "040000000900000003000101\n0500000008FFFFFFFC000A\n"
    -- the sums of a sheet count standing pairs, in the charge and in the supply company's view; a load that stands so is no running load, and can start
    ∷ charges (bytes_of heaters) heaters_sheet (20 ∷ []) (0 ∷ 0 ∷ 4 ∷ [])
    ∷ charges (bytes_of heaters) (bytes_of "0400000000000000000000\n050000000000000000000A\n") (20 ∷ []) (13 ∷ 0 ∷ 0 ∷ [])
    ∷ shows supply_result (bytes_of heaters) heaters_sheet 23 (0 ∷ 0 ∷ 23 ∷ 0 ∷ 0 ∷ []) "050000000800000000000A\n"
    ∷ shows mill_result (bytes_of heaters) heaters_sheet 11 (0 ∷ 0 ∷ 11 ∷ 0 ∷ 0 ∷ []) "0900000000\n"
    ∷ orders_from (bytes_of heaters) heaters_sheet heaters_plan (0 ∷ 0 ∷ []) 2 (0 ∷ 2 ∷ 0 ∷ 1 ∷ 2 ∷ [])
    ∷ []

-- M-105: loads 1 and 3 draw (4, 0) and (3, 0) where they run; load 2 must run, at (5, 0) or (6, 0); and the plan's sheet
abbrev store : String
store = "0101030500000064000A\n0201000900040000\n0702000100050000000300060000\n0201000400030000\n"

abbrev store_sheet : List ℕ
store_sheet = bytes_of "040000000C0000000E010200\n050000000A00000000000A\n"

-- the same book, but load 2 may stand; and its plan's sheet, on which it does
abbrev store_free : String
store_free = "0101030500000064000A\n0201000900040000\n0202000100050000000300060000\n0201000400030000\n"

abbrev store_standing : String
store_standing = "040000000D00000014010001\n050000000700000000000A\n"

-- load 1 stands at (6, 0) and runs at (1, 0); load 2 must run, at (5, 0)
abbrev conditioner : String
conditioner = "0101020500000064000A\n060100060000000300010000\n0701000100050000\n"

-- one load that must run, at (12, 0) with worth 5, which is over the limit of 10, or at (6, 0) with worth 2
abbrev fans : String
fans = "0101010A00000064000A\n07020005000C0000000200060000\n"

-- of loads that must run (M-105)
unfoldable pub must_run_rows : List Row
must_run_rows =
    -- a sheet on which a load stands that must run is foreign, in each part that reads a sheet
    answers (bytes_of store) store_sheet (0 ∷ 0 ∷ 9 ∷ 12 ∷ 14 ∷ [])
    ∷ answers (bytes_of store) (bytes_of store_standing) (13 ∷ 0 ∷ 0 ∷ 0 ∷ 0 ∷ [])
    ∷ answers (bytes_of store_free) (bytes_of store_standing) (0 ∷ 0 ∷ 17 ∷ 13 ∷ 20 ∷ [])
    ∷ charges (bytes_of store) (bytes_of store_standing) (20 ∷ []) (13 ∷ 0 ∷ 0 ∷ [])
    ∷ orders_from (bytes_of store) (bytes_of store_standing) store_sheet (0 ∷ 0 ∷ 0 ∷ []) 3 (13 ∷ 0 ∷ [])
    ∷ orders_from (bytes_of store) store_sheet (bytes_of store_standing) (0 ∷ 0 ∷ 0 ∷ []) 3 (13 ∷ 0 ∷ [])
    ∷ shows mill_result (bytes_of store) (bytes_of store_standing) 19 (13 ∷ 0 ∷ 0 ∷ 0 ∷ 0 ∷ []) "FF0D0000\n"
    ∷ shows supply_result (bytes_of store) (bytes_of store_standing) 23 (13 ∷ 0 ∷ 0 ∷ 0 ∷ 0 ∷ []) "FF0D0000\n"
    -- only the better choice breaks the limit: the other is the plan; the quick planner begins with option 1 and gives 17, after 11
    ∷ prints fans "04000000020000000202\n050000000600000000000A\n"
    ∷ quick_prints fans "FF110000\n"
    ∷ shows quick_in (bytes_of fans) [] 44 (17 ∷ 0 ∷ 0 ∷ 0 ∷ 0 ∷ []) "FF110000\n"
    ∷ shows quick_in (bytes_of fans) [] 43 (11 ∷ 0 ∷ 0 ∷ 0 ∷ 0 ∷ []) "FF0B0000\n"
    -- with a limit of 5 both are over it: 17, and with one trial less in the budget 12; where the load may stand it does
    ∷ prints "0101010A000000020005\n07020005000C0000000200060000\n" "FF110000\n"
    ∷ prints "0101010A000000010005\n07020005000C0000000200060000\n" "FF0C0000\n"
    ∷ prints "0101010A000000640005\n02020005000C0000000200060000\n" "04000000000000000300\n0500000000000000000005\n"
    -- over the limit in one of two slots
    ∷ prints "0102010A0000006400030002\n070100010003000000030000\n" "FF110000\n"
    -- one that crowds out a better choice, which is the plan where it may stand; the factor is o, and H counts no choice in which it stands
    ∷ prints store "040000000C0000000E010200\n050000000A00000000000A\n"
    ∷ tries store (2 ∷ 4 ∷ 8 ∷ [])
    ∷ prints store_free store_standing
    ∷ tries store_free (2 ∷ 6 ∷ 12 ∷ [])
    -- the quick planner begins with it at option 1: load 3 fits beside it, load 1 then does not, and trying load 2 changes nothing
    ∷ quick_prints store "040000000500000003000101\n050000000800000000000A\n"
    -- "all others standing", with what they draw: 6 + 5 is over the limit, so that the quick planner gives 17; running load 1 draws less
    ∷ prints conditioner "0400000004000000040101\n050000000600000000000A\n"
    ∷ quick_prints conditioner "FF110000\n"
    ∷ tries conditioner (2 ∷ 2 ∷ [])
    -- two loads that must run, of worth 0: both do, in the plan and in the quick planner's choice
    ∷ prints "0101020500000064000A\n0701000000050000\n0701000000050000\n" "0400000000000000020101\n050000000A00000000000A\n"
    ∷ quick_prints "0101020500000064000A\n0701000000050000\n0701000000050000\n" "0400000000000000020101\n050000000A00000000000A\n"
    -- no pair has a ≤ R after load 1, of which each choice runs it: H(1) = 0
    ∷ tries "0101020500000064000A\n07010005000B0000\n0201000500010000\n" (1 ∷ 0 ∷ [])
    -- "laid out as `02`": a `07` line with a standing pair, an option with |Q| = P, and one with |Q| = P + 1; and no header
    ∷ prints "0101010A00000064000A\n070100080000000500040000\n" "FF050002\n"
    ∷ reads "0101010A00000064000A\n070100050004FFFC\n"
    ∷ prints "0101010A00000064000A\n070100050004FFFB\n" "FF070002\n"
    ∷ prints "0701010A00000064000A\n0701000500050005\n" "FF030001\n"
    ∷ []

-- M-107: the plan's sheet of `twin_book`; the same book with no trial in its budget; and what an empty book gives
abbrev twin_plan : List ℕ
twin_plan = bytes_of "04000000010000000201\n050000000900000001000A\n"

abbrev twin_spent : List ℕ
twin_spent = bytes_of "0101010100000000000A\n0201000100090001\n"

abbrev empty_output : List ℕ
empty_output = bytes_of "FF010001\n"

abbrev times : ℕ → List ℕ → List ℕ
times n bytes = concat (replicate n bytes)

-- of a day's books (M-107)
unfoldable pub day_rows : List Row
day_rows =
    -- the words that a day may change: here those that the second book needs
    frees (lf ++ twin_book) 6144 32
    -- an empty input is one empty book; two LFs at the start are two, each ended by an empty line
    ∷ days [] 6144 9 (0 ∷ 0 ∷ 9 ∷ 0 ∷ 0 ∷ []) empty_output
    ∷ days (lf ++ lf ++ twin_book) 6144 62 (0 ∷ 0 ∷ 62 ∷ 0 ∷ 0 ∷ []) (empty_output ++ empty_output ++ twin_plan)
    -- 32 and 33 books, and 33 books and a buffer of 0 bytes: 18 comes before 19
    ∷ days (times 31 lf) 0 288 (0 ∷ 0 ∷ 288 ∷ 0 ∷ 0 ∷ []) (times 32 empty_output)
    ∷ days (times 32 lf) 0 4096 (18 ∷ 0 ∷ 0 ∷ 0 ∷ 0 ∷ []) (bytes_of "FF120000\n")
    ∷ days (times 32 lf) 0 0 (18 ∷ 0 ∷ 0 ∷ 0 ∷ 0 ∷ []) (bytes_of "FF120000\n")
    -- a buffer one byte short
    ∷ days (times 31 lf) 0 287 (19 ∷ 0 ∷ 0 ∷ 0 ∷ 0 ∷ []) (bytes_of "FF130000\n")
    ∷ days twin_book 6144 43 (19 ∷ 0 ∷ 0 ∷ 0 ∷ 0 ∷ []) (bytes_of "FF130000\n")
    -- a spent book between two good ones
    ∷ days (twin_book ++ lf ++ twin_spent ++ lf ++ twin_book) 6144 97 (0 ∷ 0 ∷ 97 ∷ 0 ∷ 0 ∷ []) (twin_plan ++ bytes_of "FF0C0000\n" ++ twin_plan)
    -- what follows the last empty line, even nothing, is a book
    ∷ days (twin_book ++ lf) 6144 53 (0 ∷ 0 ∷ 53 ∷ 0 ∷ 0 ∷ []) (twin_plan ++ empty_output)
    -- a CR LF line is no empty line: one book, with bytes after its last load line
    ∷ days (twin_book ++ bytes_of "\r\n" ++ twin_book) 6144 9 (0 ∷ 0 ∷ 9 ∷ 0 ∷ 0 ∷ []) (bytes_of "FF080003\n")
    -- each book has the whole work area: the second needs more of it than the first; with a word less it is refused by 10, and the first is not
    ∷ days (twin_book ++ lf ++ bytes_of example) 1056 92 (0 ∷ 0 ∷ 92 ∷ 0 ∷ 0 ∷ []) (twin_plan ++ example_sheet)
    ∷ days (twin_book ++ lf ++ bytes_of example) 1055 53 (0 ∷ 0 ∷ 53 ∷ 0 ∷ 0 ∷ []) (twin_plan ++ bytes_of "FF0A0000\n")
    -- and the most that a book past 11 needs, wherever it stands; none after 18
    ∷ frees (twin_book ++ lf ++ bytes_of example) 6144 1056
    ∷ frees (bytes_of example ++ lf ++ twin_book) 6144 1056
    ∷ frees (twin_book ++ lf ++ bytes_of example) 1055 32
    ∷ frees twin_spent 6144 32
    ∷ frees (times 32 lf ++ twin_book) 6144 0
    ∷ []

-- of books that state a ratio (M-108)
unfoldable pub ratio_rows : List Row
ratio_rows =
    -- two faults on one line: r = 0 and a digit too few, and 5 comes before 6
    prints "080101010000000064006\n" "FF050001\n"
    -- of a standing pair |Q| = 2P is read where r = 2, and |Q| = 2P + 1 is refused
    ∷ reads "0801010102000000640064\n060100040008000500040000\n"
    ∷ prints "0801010102000000640064\n060100040009000500040000\n" "FF070002\n"
    -- the cells of one slot with N = 2, d = 2 and S = 10, so R = 5: 6 × 13, 6 × 27 and 6 × 41; under `01` as with r = 1
    ∷ counts "0101020200000064000A\n0201000100040004\n0201000100040004\n" 78
    ∷ counts "080102020100000064000A\n0201000100040004\n0201000100040004\n" 78
    ∷ counts "080102020200000064000A\n0201000100040004\n0201000100040004\n" 162
    ∷ counts "080102020300000064000A\n0201000100040004\n0201000100040004\n" 246
    -- r = 3, N = 1: R = 15 has 1,536 cells, for which the program's words are enough, and R = 16 more
    ∷ prints "0801010F0300000064000F\n020100010004000C\n" "04000000010000000201\n05000000040000000C000F\n"
    ∷ prints "0801011003000000640010\n020100010004000C\n" "FF0A0000\n"
    -- N = 4 and R = 511: over the bound on cells where r = 2, and not where r = 1
    ∷ prints "08010440020000006401FF\n0201000100040004\n0201000100040004\n0201000100040004\n0201000100040004\n" "FF090000\n"
    ∷ prints "08010440010000006401FF\n0201000100040004\n0201000100040004\n0201000100040004\n0201000100040004\n" "FF0A0000\n"
    -- two loads that cancel, each of which breaks the limit alone: planned where r = 3, and refused under `01`; the quick planner leaves both standing, and with
    -- S = 13 starting the second shrinks P² + Q²
    ∷ prints "080102040300000064000A\n020100050004000C\n020100050004FFF4\n" "040000000A000000060101\n050000000800000000000A\n"
    ∷ prints "0101020400000064000A\n020100050004000C\n020100050004FFF4\n" "FF070002\n"
    ∷ quick_prints "080102040300000064000A\n020100050004000C\n020100050004FFF4\n" "0400000000000000020000\n050000000000000000000A\n"
    ∷ quick_prints "080102040300000064000D\n020100050004000C\n020100050004FFF4\n" "040000000A000000020101\n050000000800000000000D\n"
    -- the header's length by its kind: `08` with 16 + 4T digits, and `01` with 18 + 4T
    ∷ prints "08010101030000640064\n0201000100040004\n" "FF050001\n"
    ∷ prints "0101010103000000640064\n0201000100040004\n" "FF050001\n"
    -- r = 0 and r = 4
    ∷ prints "0801010100000000640064\n0201000100040004\n" "FF060001\n"
    ∷ prints "0801010104000000640064\n0201000100040004\n" "FF060001\n"
    -- such a header is no load line
    ∷ prints "0801010103000000640064\n0801000100040004\n" "FF030002\n"
    -- of an option |Q| = 3P is read where r = 3, |Q| = 3P + 1 is refused, and under `01` both are; of two slots each has its limit
    ∷ quick_prints "08020101030000006400640020\n020100010004FFF40005000F\n" "04000000010000000101\n0500000004FFFFFFF40064\n05000000050000000F0020\n"
    ∷ prints "08020101030000006400640020\n020100010004FFF400050010\n" "FF070002\n"
    ∷ prints "010201010000006400640020\n020100010004FFF40005000F\n" "FF070002\n"
    ∷ prints "010201010000006400640020\n020100010004FFF400050010\n" "FF070002\n"
    -- the handbook's mill with an old motor and a capacitor bank, and the quick planner's sheet for it
    ∷ prints bank_book "040000000D0000000E010101\n050000000A00000000000A\n"
    ∷ quick_prints bank_book "040000000400000003000101\n0500000006FFFFFFF8000A\n"
    -- r = 1, document 01's book: its sheet; and with budget 13, which stands after r
    ∷ prints "080103040100000064000A\n0201000500050005\n020100050004FFFC\n0201000400040000\n"
    "040000000A0000000E010100\n050000000900000001000A\n"
    ∷ prints "08010304010000000D000A\n0201000500050005\n020100050004FFFC\n0201000400040000\n" "FF0C0000\n"
    ∷ []

-- M-109: the strict planner, with a work area of so many words and in a buffer of so many bytes; and as the program would call it
abbrev strict_in : ℕ → List ℕ → List ℕ → ℕ → Result Output
strict_in words book sheet room = strict_result book words room

abbrev strictly : String → List ℕ → String → Row
strictly book numbers out = shows (strict_in 6144) (bytes_of book) [] 4096 numbers out

-- d = 2 and S = 100: one load that must run, at (100, 0) with worth 1 or at (149, 0) with worth 2. L is 50, and both have a = 2
abbrev two_levels : String
two_levels = "01010102000000640064\n0702000100640000000200950000\n"

-- examples/close.book: three loads, of which the plain planner runs all, at 116.7 % of S, rounded up
abbrev close : String
close = "010103080000006414B9\n0201003C08A1060A\n0201002806E70450\n0201001904500373\n"

-- d = 1 and no trial in the budget, and with r = 3 over the bound on cells
abbrev coarse : String
coarse = "0804020103000000000005000500050005\n0201000100010000000100000001000000010000\n0201000100010000000100000001000000010000\n"

-- of the strict planner (M-109)
unfoldable pub strict_rows : List Row
strict_rows =
    -- d = 1: 20 comes before 9 to 12, and after 7 and 8; with d = 2 it is 9
    shows (strict_in 0) (bytes_of coarse) [] 0 (20 ∷ 0 ∷ 0 ∷ 0 ∷ 0 ∷ []) "FF140000\n"
    ∷ shows (strict_in 0) (bytes_of "0804020203000000000005000500050005\n0201000100010000000100000001000000010000\n0201000100010000000100000001000000010000\n") [] 0 (9 ∷ 0 ∷ 0 ∷ 0 ∷ 0 ∷ []) "FF090000\n"
    ∷ shows (strict_in 0) (bytes_of coarse ++ lf) [] 0 (8 ∷ 4 ∷ 0 ∷ 0 ∷ 0 ∷ []) "FF080004\n"
    ∷ shows (strict_in 0) (bytes_of "01010101000000640064\n020100010004FFFB\n") [] 0 (7 ∷ 2 ∷ 0 ∷ 0 ∷ 0 ∷ []) "FF070002\n"
    -- nothing else is wrong with it
    ∷ strictly "01010101000000640064\n0201000100040004\n" (20 ∷ 0 ∷ 0 ∷ 0 ∷ 0 ∷ []) "FF140000\n"
    -- the compared choice is over the limit: 17, though the other one with the same pairs fits; the plain planner runs it at (149, 0)
    ∷ strictly two_levels (17 ∷ 0 ∷ 0 ∷ 0 ∷ 0 ∷ []) "FF110000\n"
    ∷ prints two_levels "04000000020000000202\n0500000095000000000064\n"
    -- with one trial less in the budget: 12 comes before 17
    ∷ strictly "01010102000000010064\n0702000100640000000200950000\n" (12 ∷ 0 ∷ 0 ∷ 0 ∷ 0 ∷ []) "FF0C0000\n"
    -- where the one that fits is worth more it is the compared one; where both are worth as much, the one of smaller code is
    ∷ strictly "01010102000000640064\n0702000200640000000100950000\n" (0 ∷ 0 ∷ 44 ∷ 2 ∷ 2 ∷ []) "04000000020000000201\n0500000064000000000064\n"
    ∷ strictly "01010102000000640064\n0702000100640000000100950000\n" (0 ∷ 0 ∷ 44 ∷ 1 ∷ 2 ∷ []) "04000000010000000201\n0500000064000000000064\n"
    ∷ strictly "01010102000000640064\n0702000100950000000100640000\n" (17 ∷ 0 ∷ 0 ∷ 0 ∷ 0 ∷ []) "FF110000\n"
    -- where the load may stand it does
    ∷ strictly "01010102000000640064\n0202000100640000000200950000\n" (0 ∷ 0 ∷ 44 ∷ 0 ∷ 3 ∷ []) "04000000000000000300\n0500000000000000000064\n"
    -- of two slots each must keep its limit: level 1 is compared, and is over it in slot 2, or in slot 1
    ∷ strictly "010201020000006400640064\n07020002006400000095000000010064000000640000\n" (17 ∷ 0 ∷ 0 ∷ 0 ∷ 0 ∷ []) "FF110000\n"
    ∷ strictly "010201020000006400640064\n07020002009500000064000000010064000000640000\n" (17 ∷ 0 ∷ 0 ∷ 0 ∷ 0 ∷ []) "FF110000\n"
    -- M-104: standing at (149, 0) is compared, and not running at (100, 0), of the same worth 0 and a larger code: 17, where the plain planner lets it stand
    ∷ strictly "01010102000000640064\n060100950000000000640000\n" (17 ∷ 0 ∷ 0 ∷ 0 ∷ 0 ∷ []) "FF110000\n"
    ∷ prints "01010102000000640064\n060100950000000000640000\n" "04000000000000000200\n0500000095000000000064\n"
    -- M-108: under a header that states r = 3, at (30, -90), and at (40, -120), which is over the limit
    ∷ strictly "0801010203000000640064\n07010001001EFFA6\n" (0 ∷ 0 ∷ 44 ∷ 1 ∷ 1 ∷ []) "04000000010000000101\n050000001EFFFFFFA60064\n"
    ∷ strictly "0801010203000000640064\n070100010028FF88\n" (17 ∷ 0 ∷ 0 ∷ 0 ∷ 0 ∷ []) "FF110000\n"
    -- of two compared choices of equal worth, with other pairs, the one of smaller code, whichever draws more
    ∷ strictly "01010102000000640064\n0202000100640000000100280000\n" (0 ∷ 0 ∷ 44 ∷ 1 ∷ 3 ∷ []) "04000000010000000301\n0500000064000000000064\n"
    ∷ strictly "01010102000000640064\n0202000100280000000100640000\n" (0 ∷ 0 ∷ 44 ∷ 1 ∷ 3 ∷ []) "04000000010000000301\n0500000028000000000064\n"
    -- d = 3 and S = 24: (16, 0) has d²P² = (d - 1)²S², which is too much for the margin: (23, 7) has its pairs, is compared and is over the limit
    ∷ strictly "01010103000000640018\n0702000100100000000200170007\n" (17 ∷ 0 ∷ 0 ∷ 0 ∷ 0 ∷ []) "FF110000\n"
    -- one mill by both: the plain planner runs all three loads, above the limit, the strict one the best two that keep it
    ∷ strictly close (0 ∷ 0 ∷ 48 ∷ 100 ∷ 14 ∷ []) "04000000640000000E010100\n0500000F8800000A5A14B9\n"
    ∷ prints close "040000007D0000000E010101\n05000013D800000DCD14B9\n"
    -- the words and the room that are needed, and one less; 10 comes before 11
    ∷ shows (strict_in 72) (bytes_of two_levels) [] 44 (17 ∷ 0 ∷ 0 ∷ 0 ∷ 0 ∷ []) "FF110000\n"
    ∷ shows (strict_in 71) (bytes_of two_levels) [] 43 (10 ∷ 0 ∷ 0 ∷ 0 ∷ 0 ∷ []) "FF0A0000\n"
    ∷ shows (strict_in 72) (bytes_of two_levels) [] 43 (11 ∷ 0 ∷ 0 ∷ 0 ∷ 0 ∷ []) "FF0B0000\n"
    -- the words that it may change: with 17, 12 and a sheet as many as are needed, with 10, 11 and 20 none
    ∷ strict_frees two_levels 100 44 72
    ∷ strict_frees "01010102000000010064\n0702000100640000000200950000\n" 100 44 72
    ∷ strict_frees "01010102000000640064\n0702000200640000000100950000\n" 100 44 72
    ∷ strict_frees two_levels 71 44 0
    ∷ strict_frees two_levels 72 43 0
    ∷ strict_frees "01010101000000640064\n0201000100040004\n" 6144 4096 0
    ∷ []

-- M-110: two books pooled, in a buffer for which none is too long; and refused, in a buffer of 0 bytes, so that each number comes before 11
abbrev pools : String → String → String → Row
pools one two out = shows pool_result (bytes_of one) (bytes_of two) most_book (0 ∷ 0 ∷ length (bytes_of out) ∷ 0 ∷ 0 ∷ []) out

abbrev unpooled : String → String → ℕ → ℕ → String → Row
unpooled one two number line out = shows pool_result (bytes_of one) (bytes_of two) 0 (number ∷ line ∷ 0 ∷ 0 ∷ 0 ∷ []) out

-- two mills of one load, which draws as much as the limit, 6 and 8; and their books pooled
abbrev mill : String
mill = "01010105000000640006\n0201000500060000\n"

abbrev annex : String
annex = "01010105000000640008\n0201000400080000\n"

abbrev both_mills : String
both_mills = "080102050100000064000E\n0201000500060000\n0201000400080000\n"

-- the annex with two slots, and with d = 4
abbrev two_slots : String
two_slots = "010201050000006400080008\n020100040008000000080000\n"

abbrev coarser : String
coarser = "01010104000000640008\n0201000400080000\n"

-- a mill of three slots, with its limits as 12 digits
abbrev three_slots : String → String
three_slots limits = joined "0103010500000064" (joined limits "\n02010005000600000006000000060000\n")

-- a mill with r = 3, whose load draws (2, -6), and one with r = 2, whose load draws (2, 4)
abbrev ratio_three : String
ratio_three = "0801010503000000640008\n020100040002FFFA\n"

abbrev ratio_two : String
ratio_two = "0801010502000000640008\n0201000400020004\n"

-- load lines of each kind: `06` and `02`; and `07`, with two levels
abbrev mixed : String
mixed = "01010205000000640006\n06010003FFFD000500060002\n020100010001FFFF\n"

abbrev required : String
required = "01010105000000640008\n070200010005FFFB000300060006\n"

-- S = 5: a mill whose load draws (4, 4), and one whose load draws (4, -4), each over the limit
abbrev motor : String
motor = "01010105000000640005\n0201000500040004\n"

abbrev bank : String
bank = "01010105000000640005\n020100040004FFFC\n"

-- so many load lines, all alike
abbrev load_lines : ℕ → String
load_lines zero = ""
load_lines (suc n) = joined "0201000100010000\n" (load_lines n)

-- the handbook's two mills, and their books pooled
abbrev north : String
north = "0101020500000064000A\n0201000900060004\n0201000500040003\n"

abbrev south : String
south = "080103050200000014000A\n0201000600040007\n020100030004FFF9\n0201000500090002\n"

abbrev joint : String
joint = "0801050502000000640014\n0201000900060004\n0201000500040003\n0201000600040007\n020100030004FFF9\n0201000500090002\n"

-- the planner's answer to a book, with words and room to spare
abbrev plans : String → List ℕ → String → Row
plans book numbers out = shows (λ bytes none room. planner_result bytes 65_536 room) (bytes_of book) [] 4096 numbers out

-- of two mills' books pooled (M-110). The rows that the nearest mistakes break stand first, so that they show as false, and plans stand last.
unfoldable pub pool_rows : List Row
pool_rows =
    -- header kind `08`, though both have `01`; the first's lines, then the second's; at the room that is due
    shows pool_result (bytes_of mill) (bytes_of annex) 57 (0 ∷ 0 ∷ 57 ∷ 0 ∷ 0 ∷ []) both_mills
    -- the larger budget, and the larger r, where the second has it
    ∷ pools "010101050000000A0006\n0201000500060000\n" annex both_mills
    ∷ pools mill ratio_three "080102050300000064000E\n0201000500060000\n020100040002FFFA\n"
    -- the second's lines count on from N1 + 1; here its first is missing
    ∷ unpooled mill "" 1 3 "FF010003\n"
    -- two faults: 21 before 22
    ∷ unpooled (joined "01011805000000640006\n" (load_lines 24)) coarser 21 0 "FF150000\n"
    -- with a byte less room
    ∷ shows pool_result (bytes_of mill) (bytes_of annex) 56 (11 ∷ 0 ∷ 0 ∷ 0 ∷ 0 ∷ []) "FF0B0000\n"
    -- the other way round; and a pooled book with a third mill, so `08` with r = 1 beside `01`
    ∷ pools annex mill "080102050100000064000E\n0201000400080000\n0201000500060000\n"
    ∷ pools both_mills mill "0801030501000000640014\n0201000500060000\n0201000400080000\n0201000500060000\n"
    -- the larger budget, and the larger r, where the first has it
    ∷ pools mill "010101050000000A0008\n0201000400080000\n" both_mills
    ∷ pools ratio_three mill "080102050300000064000E\n020100040002FFFA\n0201000500060000\n"
    -- of two r that are stated, the larger
    ∷ pools ratio_three ratio_two "0801020503000000640010\n020100040002FFFA\n0201000400020004\n"
    ∷ pools ratio_two ratio_three "0801020503000000640010\n0201000400020004\n020100040002FFFA\n"
    -- lines of kinds `02`, `06` and `07`, digit for digit
    ∷ pools mixed required "080103050100000064000E\n06010003FFFD000500060002\n020100010001FFFF\n070200010005FFFB000300060006\n"
    ∷ pools required mixed "080103050100000064000E\n070200010005FFFB000300060006\n06010003FFFD000500060002\n020100010001FFFF\n"
    -- faults in both: the first's comes, also where the second's is on an earlier line of its book, and where the first's is 8
    ∷ unpooled "" "" 1 1 "FF010001\n"
    ∷ unpooled "01010105000000640006\n020100050006FFF9\n" "0G\n" 7 2 "FF070002\n"
    ∷ unpooled (joined mill "\n") "" 8 3 "FF080003\n"
    -- a fault on the second's header, on a load line of it and after its last, where N1 is 1 or 2
    ∷ unpooled mill "0301010500000064000G\n" 2 3 "FF020003\n"
    ∷ unpooled mill "01010105000000640008\n020100040008FFF7\n" 7 4 "FF070004\n"
    ∷ unpooled mill "01010205000000640008\n0201000400080000\n" 1 5 "FF010005\n"
    -- each book is read under its own r
    ∷ unpooled ratio_three "01010105000000640008\n020100040002FFFA\n" 7 4 "FF070004\n"
    ∷ unpooled both_mills "" 1 4 "FF010004\n"
    ∷ unpooled both_mills (joined annex "\n") 8 6 "FF080006\n"
    -- 21 by T and by d, either way
    ∷ unpooled mill two_slots 21 0 "FF150000\n"
    ∷ unpooled two_slots mill 21 0 "FF150000\n"
    ∷ unpooled mill coarser 21 0 "FF150000\n"
    ∷ unpooled coarser mill 21 0 "FF150000\n"
    -- limit sums of 65,535 in the first slot and in the last; 23 by one more in the first, and in the last
    ∷ pools (three_slots "FFFE00060000") (three_slots "00010008FFFF")
    "080302050100000064FFFF000EFFFF\n02010005000600000006000000060000\n02010005000600000006000000060000\n"
    ∷ unpooled (three_slots "FFFF00060000") (three_slots "00010008FFFF") 23 0 "FF170000\n"
    ∷ unpooled (three_slots "FFFE00060001") (three_slots "00010008FFFF") 23 0 "FF170000\n"
    -- two faults: 8 of the second before 21, and 21 before 23
    ∷ unpooled mill (joined coarser "\n") 8 5 "FF080005\n"
    ∷ unpooled "0101010500000064FFFF\n0201000500060000\n" coarser 21 0 "FF150000\n"
    -- 24 loads are pooled, and 25 are not; 22 before 23
    ∷ pools (joined "01011705000000640006\n" (load_lines 23)) mill
    (joined "080118050100000064000C\n" (joined (load_lines 23) "0201000500060000\n"))
    ∷ pools (joined "01010C05000000640006\n" (load_lines 12)) (joined "01010C05000000640006\n" (load_lines 12))
    (joined "080118050100000064000C\n" (load_lines 24))
    ∷ unpooled (joined "01011805000000640006\n" (load_lines 24)) mill 22 0 "FF160000\n"
    ∷ unpooled (joined "01010C05000000640006\n" (load_lines 12)) (joined "01010D05000000640006\n" (load_lines 13)) 22 0 "FF160000\n"
    ∷ unpooled (joined "0101180500000064FFFF\n" (load_lines 24)) mill 22 0 "FF160000\n"
    -- the plan of each mill, and of both, worth both together
    ∷ prints mill "04000000050000000201\n0500000006000000000006\n"
    ∷ prints annex "04000000040000000201\n0500000008000000000008\n"
    ∷ prints both_mills "0400000009000000060101\n050000000E00000000000E\n"
    -- budgets of 2 are enough for each mill alone, and pooling does not add them: the pooled plan has 6 trials, and 12 is given
    ∷ prints "01010105000000020006\n0201000500060000\n" "04000000050000000201\n0500000006000000000006\n"
    ∷ prints "01010105000000020008\n0201000400080000\n" "04000000040000000201\n0500000008000000000008\n"
    ∷ pools "01010105000000020006\n0201000500060000\n" "01010105000000020008\n0201000400080000\n"
    "080102050100000002000E\n0201000500060000\n0201000400080000\n"
    ∷ prints "080102050100000002000E\n0201000500060000\n0201000400080000\n" "FF0C0000\n"
    -- alone each load is over its mill's limit and stands; pooled both run, as their Q cancel: worth more than both plans together
    ∷ prints motor "04000000000000000200\n0500000000000000000005\n"
    ∷ prints bank "04000000000000000200\n0500000000000000000005\n"
    ∷ pools motor bank "080102050100000064000A\n0201000500040004\n020100040004FFFC\n"
    ∷ prints "080102050100000064000A\n0201000500040004\n020100040004FFFC\n" "0400000009000000060101\n050000000800000000000A\n"
    -- and so in the handbook's pair: 9 and 9 alone, 23 pooled
    ∷ pools north south joint
    ∷ prints north "0400000009000000060100\n050000000600000004000A\n"
    ∷ prints south "04000000090000000E010100\n050000000800000000000A\n"
    ∷ plans joint (0 ∷ 0 ∷ 52 ∷ 23 ∷ 62 ∷ []) "04000000170000003E0101010100\n0500000012000000070014\n"
    ∷ []

-- of sheets: charges, orders of starting and views, the longest book last
unfoldable pub sheet_rows : List Row
sheet_rows =
    -- M-111: under a half, 20/40, over a half, and 60/40
    rounds_charge 19 0
    ∷ rounds_charge 20 0
    ∷ rounds_charge 21 1
    ∷ rounds_charge 60 2
    -- M-111, (40k + 20) / 40 for an even k, for an odd one, and the last half below the largest sum
    ∷ rounds_charge 180 4
    ∷ rounds_charge 220 6
    ∷ rounds_charge 412304277580 10307606940
    -- M-111, two slots with 20 × 1 and 4 × 5, two halves that add up to 40/40; rounded first they would give 0, or 2 upward
    ∷ charges halves_book halves_sheet (1 ∷ 5 ∷ []) (0 ∷ 0 ∷ 1 ∷ [])
    -- M-111, a half and nothing, 20/40, which stays 0; then with a whole, 20/40 + 40/40 and 60/40 + 40/40, which rounded first would give 1 and 3
    ∷ charges halves_book halves_sheet (1 ∷ 0 ∷ []) (0 ∷ 0 ∷ 0 ∷ [])
    ∷ charges halves_book halves_sheet (1 ∷ 10 ∷ []) (0 ∷ 0 ∷ 2 ∷ [])
    ∷ charges halves_book halves_sheet (3 ∷ 10 ∷ []) (0 ∷ 0 ∷ 2 ∷ [])
    -- M-100: a price too few, and one too many
    ∷ charges halves_book halves_sheet (1 ∷ []) (14 ∷ 0 ∷ 0 ∷ [])
    ∷ charges halves_book halves_sheet (1 ∷ 5 ∷ 5 ∷ []) (14 ∷ 0 ∷ 0 ∷ [])
    -- M-100, two faults: 13 comes before 14, and the book's 7 before both
    ∷ charges halves_book [] [] (13 ∷ 0 ∷ 0 ∷ [])
    ∷ charges (bytes_of "01010101000000640064\n020100010004FFFB\n") [] [] (7 ∷ 2 ∷ 0 ∷ [])
    -- M-108: a sheet read, charged and shown under a header that states a ratio
    ∷ answers (bytes_of bank_book) bank_sheet (0 ∷ 0 ∷ 21 ∷ 13 ∷ 14 ∷ [])
    ∷ charges (bytes_of bank_book) bank_sheet (8 ∷ []) (0 ∷ 0 ∷ 2 ∷ [])
    ∷ shows supply_result (bytes_of bank_book) bank_sheet 23 (0 ∷ 0 ∷ 23 ∷ 0 ∷ 0 ∷ []) "050000000A00000000000A\n"
    -- M-101, where load 1 names 3: all start, the lowest of those ready first; highest first would be 3, 2, 1
    ∷ orders [] (1 ∷ 2 ∷ 3 ∷ []) (3 ∷ 0 ∷ 0 ∷ []) 3 (0 ∷ 3 ∷ 0 ∷ 2 ∷ 3 ∷ 1 ∷ [])
    -- M-101: load 3 runs already, so load 2, which names it, is ready at once
    ∷ orders (3 ∷ []) (1 ∷ 2 ∷ 3 ∷ []) (2 ∷ 3 ∷ 0 ∷ []) 24 (0 ∷ 2 ∷ 0 ∷ 2 ∷ 1 ∷ [])
    -- M-101: loads 1 and 2 stop, load 3 starts
    ∷ orders (1 ∷ 2 ∷ []) (3 ∷ []) (0 ∷ 0 ∷ 0 ∷ []) 1 (0 ∷ 1 ∷ 2 ∷ 3 ∷ [])
    -- M-101: an order of nothing fits a buffer of 0 bytes; one of two does not fit a buffer of 1
    ∷ orders (1 ∷ 3 ∷ []) (1 ∷ 3 ∷ []) (3 ∷ 3 ∷ 0 ∷ []) 0 (0 ∷ 0 ∷ 0 ∷ [])
    ∷ orders [] (1 ∷ 2 ∷ []) (2 ∷ 0 ∷ 0 ∷ []) 1 (11 ∷ 0 ∷ [])
    -- M-101, 15: a name too few, one too many, a load's own number, a lower one, and one above N, though no load starts
    ∷ orders [] [] (0 ∷ 0 ∷ []) 0 (15 ∷ 0 ∷ [])
    ∷ orders [] [] (0 ∷ 0 ∷ 0 ∷ 0 ∷ []) 0 (15 ∷ 0 ∷ [])
    ∷ orders [] [] (0 ∷ 2 ∷ 0 ∷ []) 0 (15 ∷ 0 ∷ [])
    ∷ orders [] [] (0 ∷ 0 ∷ 1 ∷ []) 0 (15 ∷ 0 ∷ [])
    ∷ orders [] [] (4 ∷ 0 ∷ 0 ∷ []) 0 (15 ∷ 0 ∷ [])
    -- M-101, 16: the named load stands in both sheets, or stops; but not where the load that names it runs already
    ∷ orders [] (1 ∷ []) (2 ∷ 0 ∷ 0 ∷ []) 1 (16 ∷ 0 ∷ [])
    ∷ orders (2 ∷ []) (1 ∷ []) (2 ∷ 0 ∷ 0 ∷ []) 1 (16 ∷ 0 ∷ [])
    ∷ orders (1 ∷ 2 ∷ []) (1 ∷ []) (2 ∷ 0 ∷ 0 ∷ []) 0 (0 ∷ 0 ∷ 1 ∷ [])
    -- M-101, two faults: 15 before 16, and 16 before 11
    ∷ orders [] (1 ∷ []) (2 ∷ 2 ∷ 0 ∷ []) 1 (15 ∷ 0 ∷ [])
    ∷ orders [] (1 ∷ []) (2 ∷ 0 ∷ 0 ∷ []) 0 (16 ∷ 0 ∷ [])
    -- M-101: load 1 stops, load 2 changes its level, load 3 starts
    ∷ orders_from levels_book (levels_sheet "010100") (levels_sheet "000201") (0 ∷ 0 ∷ 0 ∷ []) 1 (0 ∷ 1 ∷ 1 ∷ 3 ∷ [])
    -- M-101, two faults: 13 of either sheet comes before 15
    ∷ orders_from levels_book (levels_sheet "030000") (levels_sheet "000000") [] 0 (13 ∷ 0 ∷ [])
    ∷ orders_from levels_book (levels_sheet "000000") (levels_sheet "030000") [] 0 (13 ∷ 0 ∷ [])
    -- M-103: of one load that runs, and where it stands; at the room that is due, and with a byte less
    ∷ shows mill_result twin_book twin_sheet 15 (0 ∷ 0 ∷ 15 ∷ 0 ∷ 0 ∷ []) "09000000010101\n"
    ∷ shows mill_result twin_book twin_sheet 14 (11 ∷ 0 ∷ 0 ∷ 0 ∷ 0 ∷ []) "FF0B0000\n"
    ∷ shows mill_result twin_book standing_sheet 11 (0 ∷ 0 ∷ 11 ∷ 0 ∷ 0 ∷ []) "0900000000\n"
    ∷ shows supply_result twin_book twin_sheet 22 (11 ∷ 0 ∷ 0 ∷ 0 ∷ 0 ∷ []) "FF0B0000\n"
    -- M-103: of two books with the same sums and limit the supply company sees the same
    ∷ shows supply_result twin_book twin_sheet 23 (0 ∷ 0 ∷ 23 ∷ 0 ∷ 0 ∷ []) "050000000900000001000A\n"
    ∷ shows supply_result (bytes_of example) example_sheet 23 (0 ∷ 0 ∷ 23 ∷ 0 ∷ 0 ∷ []) "050000000900000001000A\n"
    -- M-103, two faults: 13 comes before 11, and 1 before 13
    ∷ shows mill_result twin_book [] 0 (13 ∷ 0 ∷ 0 ∷ 0 ∷ 0 ∷ []) "FF0D0000\n"
    ∷ shows supply_result twin_book [] 0 (13 ∷ 0 ∷ 0 ∷ 0 ∷ 0 ∷ []) "FF0D0000\n"
    ∷ shows supply_result [] [] 0 (1 ∷ 1 ∷ 0 ∷ 0 ∷ 0 ∷ []) "FF010001\n"
    -- M-103: the lowest number first, at its level
    ∷ shows mill_result levels_book (levels_sheet "000201") 19 (0 ∷ 0 ∷ 19 ∷ 0 ∷ 0 ∷ []) "090000000002020301\n"
    -- M-100: the largest charge
    ∷ charges full_book full_sheet (65535 ∷ 65535 ∷ 65535 ∷ 65535 ∷ []) (0 ∷ 0 ∷ 10307606940 ∷ [])
    ∷ []

plan_rows_hold : all holds plan_rows ≡ true
unfolding holds plan_rows program_output refusal_line planner_result plan_sheet fitting_book size_rules
    read_book read_loads header_rules states_ratio ratio_digits ratio_in load_rules some_exceeds standing_pairs must_run option_start standing_power first
    is_digit digit_value digit value_from field digits signed unsigned line_length
    slots_of plan best_admitted cells trials reached_count sheet_bytes first_line slot_lines sums_and_limits slot_line numbers_of
    quick_result quick_sheet quick_rules quick_choice take_if_fits size_of setting_of
plan_rows_hold = refl

standing_rows_hold : all holds standing_rows ≡ true
unfolding holds standing_rows program_output refusal_line planner_result plan_sheet fitting_book size_rules
    read_book read_loads header_rules states_ratio ratio_digits ratio_in load_rules some_exceeds standing_pairs must_run option_start standing_power first
    is_digit digit_value digit value_from field digits signed unsigned line_length
    slots_of plan best_admitted cells trials reached_count sheet_bytes first_line slot_lines sums_and_limits slot_line numbers_of
    quick_result quick_sheet quick_rules quick_choice take_if_fits size_of setting_of
    sheet_choice charge_result sheet_charge choice_charge charge_of rounded accepted in_room running_loads number_and_level mill_line mill_result supply_view supply_result
    order_result sheets_order loads_order starting running_mask and_not start_count wrong_names some_blocked left ready start_next started_after start_order ones ones_in
standing_rows_hold = refl

must_run_rows_hold : all holds must_run_rows ≡ true
unfolding holds must_run_rows program_output refusal_line planner_result plan_sheet fitting_book size_rules
    read_book read_loads header_rules states_ratio ratio_digits ratio_in load_rules some_exceeds standing_pairs must_run option_start standing_power first
    is_digit digit_value digit value_from field digits signed unsigned line_length
    slots_of plan best_admitted cells trials reached_count sheet_bytes first_line slot_lines sums_and_limits slot_line numbers_of
    quick_result quick_sheet quick_rules quick_choice take_if_fits size_of setting_of
    sheet_choice sheet_data reader_result charge_result sheet_charge choice_charge charge_of rounded
    accepted in_room running_loads number_and_level mill_line mill_result supply_view supply_result order_result sheets_order
must_run_rows_hold = refl

sheet_rows_hold : all holds sheet_rows ≡ true
unfolding holds sheet_rows refusal_line
    read_book read_loads header_rules states_ratio ratio_digits ratio_in load_rules some_exceeds standing_pairs must_run option_start standing_power first
    is_digit digit_value digit value_from field digits signed unsigned line_length
    sheet_bytes first_line slot_lines sums_and_limits slot_line numbers_of sheet_choice reader_result sheet_data
    charge_result sheet_charge choice_charge charge_of rounded
    accepted in_room running_loads number_and_level mill_line mill_result supply_view supply_result
    order_result sheets_order loads_order starting running_mask and_not start_count wrong_names some_blocked left ready start_next started_after start_order ones ones_in
sheet_rows_hold = refl

day_rows_hold : all holds day_rows ≡ true
unfolding holds day_rows refusal_line planner_result plan_sheet fitting_book size_rules
    read_book read_loads header_rules states_ratio ratio_digits ratio_in load_rules some_exceeds standing_pairs must_run option_start standing_power first
    is_digit digit_value digit value_from field digits signed unsigned line_length
    slots_of plan best_admitted cells trials reached_count sheet_bytes first_line slot_lines sums_and_limits slot_line numbers_of setting_of
    books_from day_output day_rules day_of day_free_words free_words
day_rows_hold = refl

ratio_rows_hold : all holds ratio_rows ≡ true
unfolding holds ratio_rows program_output refusal_line planner_result plan_sheet fitting_book size_rules
    read_book read_loads header_rules states_ratio ratio_digits ratio_in load_rules some_exceeds standing_pairs must_run option_start standing_power first
    is_digit digit_value digit value_from field digits signed unsigned line_length
    slots_of plan best_admitted cells trials reached_count sheet_bytes first_line slot_lines sums_and_limits slot_line numbers_of
    quick_result quick_sheet quick_rules quick_choice take_if_fits size_of setting_of
ratio_rows_hold = refl

strict_rows_hold : all holds strict_rows ≡ true
unfolding holds strict_rows program_output refusal_line planner_result plan_sheet fitting_book size_rules
    read_book read_loads header_rules states_ratio ratio_digits ratio_in load_rules some_exceeds standing_pairs must_run option_start standing_power first
    is_digit digit_value digit value_from field digits signed unsigned line_length
    slots_of plan best_admitted cells trials reached_count sheet_bytes first_line slot_lines sums_and_limits slot_line numbers_of setting_of
    strict_book strict_result strict_free strict_plan best_keeping
strict_rows_hold = refl

pool_rows_hold : all holds pool_rows ≡ true
unfolding holds pool_rows program_output refusal_line planner_result plan_sheet fitting_book size_rules
    read_book read_loads header_rules states_ratio ratio_digits ratio_in load_rules some_exceeds standing_pairs must_run option_start standing_power first
    is_digit digit_value digit value_from field digits signed unsigned line_length
    slots_of plan best_admitted cells trials reached_count sheet_bytes first_line slot_lines sums_and_limits slot_line numbers_of setting_of
    read_both limit_sums pair_rules poolable header_line pooled_with pool_result in_room
pool_rows_hold = refl

pub table_holds : all holds (plan_rows ++ standing_rows ++ must_run_rows ++ day_rows ++ ratio_rows ++ strict_rows ++ pool_rows ++ sheet_rows) ≡ true
table_holds =
    both (plan_rows ++ standing_rows ++ must_run_rows ++ day_rows ++ ratio_rows ++ strict_rows ++ pool_rows) sheet_rows
    (both (plan_rows ++ standing_rows ++ must_run_rows ++ day_rows ++ ratio_rows ++ strict_rows) pool_rows
    (both (plan_rows ++ standing_rows ++ must_run_rows ++ day_rows ++ ratio_rows) strict_rows
    (both (plan_rows ++ standing_rows ++ must_run_rows ++ day_rows) ratio_rows
    (both (plan_rows ++ standing_rows ++ must_run_rows) day_rows
    (both (plan_rows ++ standing_rows) must_run_rows (both plan_rows standing_rows plan_rows_hold standing_rows_hold) must_run_rows_hold) day_rows_hold)
    ratio_rows_hold)
    strict_rows_hold)
    pool_rows_hold)
    sheet_rows_hold
  where
    both : (xs ys : List Row) → all holds xs ≡ true → all holds ys ≡ true → all holds (xs ++ ys) ≡ true
    both xs ys e f = all_join holds xs ys ∙ ap₂ ◌&&◌ e f
