-- The book, what it says, and how it is read, with refusals 1 to 8 (document 01, "The book" and "Refusals by number"; document 02, M-104, M-105
-- and M-108).
use Rattle.std.specs.Prelude.{ℕ, zero, suc, ◌+◌, ◌*◌, Bool, cond, not, ◌&&◌, ◌||◌, List, [], ◌∷◌, map, ltb, eqb, ℤ, pos, nat_abs, length}
use Rattle.model.specs.declared.Refusal.TheVariants.{Unterminated, NotHex, WrongKind, SlotsOrOptionsOutOfRange, WrongLength, LoadsOrFinenessOutOfRange, ReactiveExceedsActive, TrailingBytes}
use Rattle.model.specs.Lists.{within, upto, keep_if, all, any, is_empty}
use Rattle.model.specs.Bounds.{most_slots, most_loads, most_fineness, most_ratio, most_options}
use Rattle.model.specs.Frames.{is_digit, field, signed, has_line, line_of, after_line}
use Rattle.model.specs.Refusals.{Result, done, Rule, ◌⇒◌, first, checked, and_then}

-- ---- what a book says

-- "P is active power in tenths of a kW, Q reactive power in tenths of a kvar"
pub record Power : Type 0 where
  pub p : ℕ
  pub q : ℤ

abbrev pub no_power : Power
no_power = record { p = 0; q = pos 0 }

-- one way to run a load or to leave it standing: its number c, its worth, and its power in each slot
pub record Setting : Type 0 where
  pub number : ℕ
  pub worth : ℕ
  pub powers : List Power

-- a load is the list of the settings that it offers, by ascending number
abbrev pub Settings : Type 0
Settings = List Setting

-- a book: d, the ratio r, the budget, the limit S of each of its T slots, and its N loads
pub record Problem : Type 0 where
  pub fineness : ℕ
  pub ratio : ℕ
  pub budget : ℕ
  pub limits : List ℕ
  pub loads : List Settings

-- ---- the header: "kind `01`, T (2 digits), N (2), d (2), budget (8), then T limits S (4 each). It has 16 + 4T digits." Document 02, M-108: "A header of
-- kind `08` has two digits more after d: a ratio r from 1 to 3, so 18 + 4T digits; kind `01` means r = 1."

abbrev pub header_kinds : List ℕ
header_kinds = 1 ∷ 8 ∷ []

abbrev pub slot_count : List ℕ → ℕ
slot_count line = field line 2 2

abbrev pub load_count : List ℕ → ℕ
load_count line = field line 4 2

abbrev pub fineness_in : List ℕ → ℕ
fineness_in line = field line 6 2

-- whether a header states a ratio; past refusal 3 only this asks for its kind
unfoldable pub states_ratio : List ℕ → Bool
states_ratio line = eqb (field line 0 2) 8

-- how many digits it has for that
unfoldable pub ratio_digits : List ℕ → ℕ
ratio_digits line = cond (states_ratio line) 2 0

-- THE RATIO r, which is 1 where none is stated
unfoldable pub ratio_in : List ℕ → ℕ
ratio_in line = cond (states_ratio line) (field line 8 2) 1

-- the budget and the limits stand after d, and after the ratio where there is one
abbrev pub budget_in : List ℕ → ℕ
budget_in line = field line (8 + ratio_digits line) 8

abbrev pub limits_in : List ℕ → List ℕ
limits_in line = map (λ s. field line (16 + ratio_digits line + 4 * s) 4) (upto (slot_count line))

-- the book that a header line and the loads after it give
abbrev pub problem : List ℕ → List Settings → Problem
problem line loads =
    record { fineness = fineness_in line; ratio = ratio_in line; budget = budget_in line; limits = limits_in line; loads = loads }

-- ---- a load line: "kind `02`, o (2 digits), then o options. An option is a worth (4), then for each slot P (4) and Q (4, two's complement
-- of 16 bits). A line has 4 + o × (4 + 8T) digits." Document 02, M-104: "A load line of kind `06` carries after o one P and Q per slot for
-- standing, then the options, so it has 4 + 8T + o × (4 + 8T) digits." M-105: "A line of kind `07` is laid out as `02`, but its load has no choice 0."

abbrev pub load_kinds : List ℕ
load_kinds = 2 ∷ 6 ∷ 7 ∷ []

abbrev pub option_count : List ℕ → ℕ
option_count line = field line 2 2

-- how many pairs of P and Q for standing a line carries, in a book of t slots: one for each slot where its kind is `06`, else none
unfoldable pub standing_pairs : ℕ → List ℕ → ℕ
standing_pairs t line = cond (eqb (field line 0 2) 6) t 0

-- M-105: the load of a line of kind `07` must run. Past refusal 3 only this and `standing_pairs` ask for the kind.
unfoldable pub must_run : List ℕ → Bool
must_run line = eqb (field line 0 2) 7

-- where option j + 1 starts, on a line with so many pairs for standing
unfoldable pub option_start : ℕ → ℕ → ℕ → ℕ
option_start t pairs j = 4 + 8 * pairs + j * (4 + 8 * t)

-- the P and Q that start at a place
abbrev pub power_at : List ℕ → ℕ → Power
power_at line at = record { p = field line at 4; q = signed 16 (field line (at + 4) 4) }

-- the option whose digits start at a place, and whose number is c
abbrev pub option_at : ℕ → List ℕ → ℕ → ℕ → Setting
option_at t line c at =
    record { number = c; worth = field line at 4; powers = map (λ s. power_at line (at + 4 + 8 * s)) (upto t) }

-- option j + 1 of a line
abbrev pub option_on : ℕ → List ℕ → ℕ → Setting
option_on t line j = option_at t line (suc j) (option_start t (standing_pairs t line) j)

abbrev pub options : ℕ → List ℕ → Settings
options t line = map (option_on t line) (upto (option_count line))

-- WHAT STANDING DRAWS in slot s: the pair that the line carries for it. Document 01 has "0 is standing and draws nothing"; M-104: "a `02` line has
-- zeros there"
unfoldable pub standing_power : ℕ → List ℕ → ℕ → Power
standing_power t line s = cond (ltb s (standing_pairs t line)) (power_at line (4 + 8 * s)) no_power

-- "0 is standing": no worth, as it is none of "the chosen options"
abbrev pub standing : ℕ → List ℕ → Setting
standing t line = record { number = 0; worth = 0; powers = map (standing_power t line) (upto t) }

-- "a number c from 0 to its o": standing, then the options; M-105: a load that must run "has no choice 0" (what that says of choices: MustRun, `ChoicesRun`)
abbrev pub settings : ℕ → List ℕ → Settings
settings t line = keep_if (not (must_run line)) (standing t line) (options t line)

-- ---- reading: "Lines are read in order, and on each line 1 to 7 are tried in this order, as far as they concern it."

-- 1: "a line is due and no LF follows"
abbrev pub line_rule : List ℕ → Rule
line_rule bytes = not (has_line bytes) ⇒ Unterminated

-- 2: "a byte of the line is no digit 0-9 A-F"
abbrev pub hex_rule : List ℕ → Rule
hex_rule line = not (all is_digit line) ⇒ NotHex

-- 3: "fewer than 4 digits, or kind not the one due", where these kinds are due
abbrev pub kind_rule : List ℕ → List ℕ → Rule
kind_rule kinds line = ltb (length line) 4 || not (any (eqb (field line 0 2)) kinds) ⇒ WrongKind

-- 4: "T not 1 to 4"; 5: "number of digits not the stated one", by the line's own kind; 6: "N or d outside its range": "N is the number of loads, 1 to 24. d, the
-- fineness, is 1 to 64."; M-108: "a ratio r from 1 to 3", and 6 reads "accordingly"
unfoldable pub header_rules : List ℕ → List Rule
header_rules line =
    hex_rule line
    ∷ kind_rule header_kinds line
    ∷ (not (within 1 most_slots (slot_count line)) ⇒ SlotsOrOptionsOutOfRange)
    ∷ (not (eqb (length line) (16 + ratio_digits line + 4 * slot_count line)) ⇒ WrongLength)
    ∷ (not (within 1 most_loads (load_count line) && within 1 most_fineness (fineness_in line) && within 1 most_ratio (ratio_in line)) ⇒ LoadsOrFinenessOutOfRange)
    ∷ []

-- |Q| > r × P
abbrev pub reactive_exceeds : ℕ → Power → Bool
reactive_exceeds r x = ltb (r * x.p) (nat_abs x.q)

-- |Q| > r × P in some setting and slot
unfoldable pub some_exceeds : ℕ → Settings → Bool
some_exceeds r vs = any (λ v. any (reactive_exceeds r) v.powers) vs

-- of a load line in a book of t slots and ratio r. 4: "o not 1 to 3"; 5, by the line's own pairs; 7: "|Q| > P in some option and slot"; M-104: "Refusal 7 covers the
-- standing pair too"; M-108: "The promise of every option and standing pair becomes |Q| ≤ r × P"
unfoldable pub load_rules : ℕ → ℕ → List ℕ → List Rule
load_rules t r line =
    hex_rule line
    ∷ kind_rule load_kinds line
    ∷ (not (within 1 most_options (option_count line)) ⇒ SlotsOrOptionsOutOfRange)
    ∷ (not (eqb (length line) (option_start t (standing_pairs t line) (option_count line))) ⇒ WrongLength)
    ∷ (some_exceeds r (settings t line) ⇒ ReactiveExceedsActive)
    ∷ []

-- 8: "bytes remain after the last load line"
abbrev pub end_rules : List ℕ → List Rule
end_rules bytes = (not (is_empty bytes) ⇒ TrailingBytes) ∷ []

-- the loads on the lines that are due, of which the next has this number; after them 8, whose line is "N + 2", as the load lines are 2 to N + 1
unfoldable pub read_loads : ℕ → ℕ → ℕ → ℕ → List ℕ → Result (List Settings)
read_loads t r zero number bytes = checked number (first (end_rules bytes)) (done [])
read_loads t r (suc left) number bytes =
    checked number (first (line_rule bytes ∷ load_rules t r (line_of bytes)))
    (and_then (read_loads t r left (suc number) (after_line bytes)) (λ loads. done (settings t (line_of bytes) ∷ loads)))

-- the book in these bytes, or the first refusal of 1 to 8
unfoldable pub read_book : List ℕ → Result Problem
read_book bytes =
    checked 1 (first (line_rule bytes ∷ header_rules (line_of bytes)))
    (and_then (read_loads (slot_count (line_of bytes)) (ratio_in (line_of bytes)) (load_count (line_of bytes)) 2 (after_line bytes))
    (λ loads. done (problem (line_of bytes) loads)))
