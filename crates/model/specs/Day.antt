-- A day's books at once (document 02, M-107): "Planning hands over a whole day in one input."
use Rattle.std.specs.Prelude.{ℕ, max, ◌+◌, ◌≤◌, ◌≡◌, Bool, true, cond, ◌&&◌, List, [], ◌∷◌, ◌++◌, map, ltb, eqb, length}
use Rattle.model.specs.declared.Answer.{Answer}
use Rattle.model.specs.declared.Refusal.TheVariants.{TooManyBooks, OutputTooLong}
use Rattle.model.specs.Lists.{Every, concat}
use Rattle.model.specs.Bounds.{most_sheet, most_books, most_day}
use Rattle.model.specs.Refusals.{Result, done, Rule, ◌⇒◌, first, checked}
use Rattle.model.specs.Answers.{Output, bytes_only, answer_of, Writes}
use Rattle.model.specs.Sheet.{lf}
use Rattle.model.specs.Calls.{planner_result, free_words}
use Rattle.model.specs.Program.{printed, printed_from}

-- ---- books and the bytes that hold them

-- "Books are parted by an empty line (LF alone)": an LF where a line starts, which is at the start of the input and after each LF
abbrev pub empty_line : Bool → ℕ → Bool
empty_line starts b = starts && eqb b 10

-- "Each empty line ends a book just before it; what follows the last one, even nothing, is the last book." `book` is what was read of the first book, and
-- `starts` says whether a line starts here
unfoldable pub books_from : List ℕ → Bool → List ℕ → List (List ℕ)
books_from book starts [] = book ∷ []
books_from book starts (b ∷ bs) = cond (empty_line starts b) (book ∷ books_from [] true bs) (books_from (book ++ (b ∷ [])) (eqb b 10) bs)

-- the books of an input
abbrev pub books_of : List ℕ → List (List ℕ)
books_of input = books_from [] true input

-- how many empty lines there are. A day has one book more (proofs/DayLaws, `books_counted`)
unfoldable pub empty_lines_from : Bool → List ℕ → ℕ
empty_lines_from starts [] = 0
empty_lines_from starts (b ∷ bs) = cond (empty_line starts b) 1 0 + empty_lines_from (eqb b 10) bs

abbrev pub empty_lines : List ℕ → ℕ
empty_lines bytes = empty_lines_from true bytes

-- the bytes that join books with empty lines: where a book ends in LF, one LF more is an empty line
abbrev pub joined : List (List ℕ) → List ℕ
joined [] = []
joined (book ∷ []) = book
joined (book ∷ next ∷ books) = book ++ lf ++ joined (next ∷ books)

-- "books that each end in LF and hold no empty line"
pub record Whole (book : List ℕ) : Type 0 where
  pub lines : List ℕ
  pub ends : book ≡ lines ++ lf
  pub no_empty_line : empty_lines book ≡ 0

-- splitting and joining are inverse there (proofs/DayLaws, `split_joined` and `joined_split`)
abbrev pub SplitJoined : Type 0
SplitJoined = (books : List (List ℕ)) → 1 ≤ length books → Every Whole books → books_of (joined books) ≡ books

-- the other way round, of every input
abbrev pub JoinedSplit : Type 0
JoinedSplit = (input : List ℕ) → joined (books_of input) ≡ input

-- ---- the day

-- "the plain planner's answer to each book alone, given all its bytes, that work area and a buffer that suffices, in the form in which the program prints
-- it, a refusal line included"; the books "share one work area": each is given all its words
abbrev pub book_output : ℕ → List ℕ → List ℕ
book_output words book = printed (planner_result book words most_sheet)

-- every "buffer that suffices", for which 11 is not given, has the result that the longest sheet's has (proofs/DayLaws, `any-suffices`)
abbrev pub AnySuffices : Type 0
AnySuffices = (words : ℕ) (book : List ℕ) (room : ℕ) → ((answer_of (planner_result book words room)).number ≡ 11 → ⊥)
    → planner_result book words room ≡ planner_result book words most_sheet

-- "The output is, in order," these
unfoldable pub day_output : ℕ → List (List ℕ) → List ℕ
day_output words books = concat (map (book_output words) books)

-- "18 when there are more than 32 books, 19 when the joined output is longer than the buffer", "18 comes first"; of the numbers of books and of bytes,
-- and the room for bytes. "numbers from 14 on carry line 0"
unfoldable pub day_rules : ℕ → ℕ → ℕ → List Rule
day_rules books due room = (ltb most_books books ⇒ TooManyBooks) ∷ (ltb room due ⇒ OutputTooLong) ∷ []

-- the day of these books, with a work area of so many words and a buffer with room for so many bytes: "either leaves the buffer unwritten" (Answers,
-- `buffer_after`); "Worth and trials are 0 in the day's own answer"
unfoldable pub day_of : List (List ℕ) → ℕ → ℕ → Result Output
day_of books words room =
    checked 0 (first (day_rules (length books) (length (day_output words books)) room)) (done (bytes_only (day_output words books)))

-- the day of an input
abbrev pub day_result : List ℕ → ℕ → ℕ → Result Output
day_result input words room = day_of (books_of input) words room

-- with a buffer for 32 of the longest sheets 19 is never given (proofs/DayLaws, `always_fits`)
abbrev pub AlwaysFits : Type 0
AlwaysFits = (input : List ℕ) (words room : ℕ) → length (books_of input) ≤ most_books → most_day ≤ room
    → day_result input words room ≡ done (bytes_only (day_output words (books_of input)))

-- the most words that one of these books needs, of those "past refusal 11"
abbrev pub most_free : ℕ → List (List ℕ) → ℕ
most_free words [] = 0
most_free words (book ∷ books) = max (free_words book words most_sheet) (most_free words books)

-- "Words of the work area that no book past refusal 11 needs keep their values, and 18 changes none"; 19 leaves the needed words as free as a day that is
-- answered with its output
unfoldable pub day_free_words : List ℕ → ℕ → ℕ
day_free_words input words = cond (ltb most_books (length (books_of input))) 0 (most_free words (books_of input))

-- ---- one by one

-- a call of the planner for a book, with a work area of `words` words, of which "no answer depends on what they held before": the buffer before and after
-- it, and its answer, which is not 11: the buffer suffices
pub record PlanCall (words : ℕ) : Type 0 where
  pub book : List ℕ
  pub before : List ℕ
  pub after : List ℕ
  pub answer : Answer
  pub writes : Writes (planner_result book words (length before)) before after answer
  pub suffices : answer.number ≡ 11 → ⊥

-- what the program would print of it
abbrev pub printed_of : {words : ℕ} → PlanCall words → List ℕ
printed_of x = printed_from x.answer x.after

-- "For every list of 1 to 32 books that each end in LF and hold no empty line, and whose outputs fit, the day's answer equals the one-by-one answers
-- joined": the call of the day for the bytes that join the books answers and leaves what the planner's calls for them gave (proofs/DayLaws, `one_by_one`)
abbrev pub OneByOne : Type 0
OneByOne = (words : ℕ) (calls : List (PlanCall words)) → 1 ≤ length calls → length calls ≤ most_books → Every (λ x. Whole x.book) calls
    → (before after : List ℕ) (answer : Answer) → length (concat (map printed_of calls)) ≤ length before
    → Writes (day_result (joined (map (λ x. x.book) calls)) words (length before)) before after answer
    → Writes (done (bytes_only (concat (map printed_of calls)))) before after answer

-- "so a refused book doesn't touch its neighbours": whatever one book holds, what is put out for those before it and after it is the same (proofs/DayLaws,
-- `neighbours`)
abbrev pub Neighbours : Type 0
Neighbours = (words : ℕ) (input : List ℕ) (above below : List (List ℕ)) (book : List ℕ) → books_of input ≡ above ++ (book ∷ below)
    → day_output words (books_of input) ≡ day_output words above ++ book_output words book ++ day_output words below
