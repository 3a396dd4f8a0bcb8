-- Document 01's bounds, those of document 02's M-107 and M-108, and the sizes that follow from them, each number once. The code has them as constants of the
-- types that they bound, the program's two in crate program, and the longest line and book not at all. The largest charges follow from them too.
use Rattle.std.specs.Prelude.{ℕ, ◌*◌, ◌+◌, ◌/◌}

-- "T is the number of slots (quarter hours), 1 to 4. N is the number of loads, 1 to 24. d, the fineness, is 1 to 64. o, the options (levels) of a
-- load, is 1 to 3."
abbrev pub most_slots : ℕ
most_slots = 4

abbrev pub most_loads : ℕ
most_loads = 24

abbrev pub most_fineness : ℕ
most_fineness = 64

abbrev pub most_options : ℕ
most_options = 3

-- "a ratio r from 1 to 3" (document 02, M-108)
abbrev pub most_ratio : ℕ
most_ratio = 3

-- "S, P and worth are 0 to 65,535"; document 02, M-110: "23 when a limit sum exceeds 65,535"
abbrev pub most_limit : ℕ
most_limit = 65535

-- "a number c from 0 to its o"
abbrev pub most_settings : ℕ
most_settings = most_options + 1

-- the powers of a load: one for each setting and slot
abbrev pub most_powers : ℕ
most_powers = most_settings * most_slots

-- "cells over 1,048,576"
abbrev pub most_cells : ℕ
most_cells = 1_048_576

-- the rows of a table with so many cells: a slot has R + 1 values of a, and at least twice as many of b, 2rR + (2r - 1) × N + 1, as r and N are at least 1; so
-- twice the square of the rows is at most the cells, and 2 × 724² ≤ 1,048,576 < 2 × 725²
abbrev pub most_rows : ℕ
most_rows = 724

-- the bytes of the longest load line, of kind `06` with three levels, with its LF
abbrev pub most_line : ℕ
most_line = 4 + 8 * most_slots + most_options * (4 + 8 * most_slots) + 1

-- and of the longest book: a header of kind `08` with its LF, and such lines
abbrev pub most_book : ℕ
most_book = 18 + 4 * most_slots + 1 + most_loads * most_line

-- the bytes of the longest sheet: 19 + 2N + 23T
abbrev pub most_sheet : ℕ
most_sheet = 19 + 2 * most_loads + 23 * most_slots

-- "up to 32 of them come in one call" (document 02, M-107); and the bytes of the longest output of a day
abbrev pub most_books : ℕ
most_books = 32

abbrev pub most_day : ℕ
most_day = most_books * most_sheet

-- "The program takes the first 4,096 bytes of its input as the book", "lends 6,144 words"
abbrev pub program_bytes : ℕ
program_bytes = 4096

abbrev pub program_words : ℕ
program_words = 6144

-- the largest exact charge of a slot (document 02, M-100), in 40ths of a hundredth: all loads at P = 65,535 and the price 65,535
abbrev pub most_exact_charge : ℕ
most_exact_charge = most_loads * 65535 * 65535

-- and the largest charge, of four such slots added (M-111): 40 divides their sum, so that nothing is rounded
abbrev pub most_charge : ℕ
most_charge = most_slots * most_exact_charge / 40
