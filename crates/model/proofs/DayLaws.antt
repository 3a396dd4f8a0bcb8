-- A day's books (M-107): splitting and joining are inverse, every buffer that suffices gives the same, and a day is its books one by one.
-- Assumes nothing.
use mathlib.Core.Path.{◌≡◌, refl, sym, ap, ap₂, ◌∙◌, subst}
use mathlib.Core.Bool.{Bool, true, false, cond, ◌&&◌}
use mathlib.Core.Logic.{inl}
use mathlib.Core.List.{List, [], ◌∷◌, ◌++◌, map, map-append, append_assoc, append-nil}
use mathlib.Core.Option.{Option, none, some}
use Prim.Native.Nat.{ℕ, suc, ◌+◌, ◌*◌, ◌≤◌}
use native.Mathlib.Omega.{arith}
use lib.Dec.{ltb, eqb}
use lib.ListN.{length, length-append, length-map}
use borrow.Author.Tests.{eqb-true, le-ltb}
use Rattle.model.specs.declared.Answer.{Answer}
use Rattle.model.specs.declared.Refusal.TheVariants.{TooManyCells, WorkTooSmall, BufferTooSmall, NoPlan}
use Rattle.model.specs.Lists.{concat}
use Rattle.model.specs.Bounds.{most_cells, most_sheet, most_books}
use Rattle.model.specs.Refusals.{Finding, Result, refused, done, ◌⇒◌, first, checked, and_then, number_of}
use Rattle.model.specs.Answers.{Output, bytes_only, answer_of}
use Rattle.model.specs.Book.{Problem, read_book}
use Rattle.model.specs.Choice.{Choice}
use Rattle.model.specs.Grid.{plan}
use Rattle.model.specs.Trials.{cells, needed_words, trials}
use Rattle.model.specs.Sheet.{lf, sheet_bytes, sheet_of, sheet_length}
use Rattle.model.specs.Calls.{size_rules, fitting, fitting_book, planned, plan_sheet, planner_result}
use Rattle.model.specs.Demand.{Past12}
use Rattle.model.specs.Program.{printed}
use Rattle.model.specs.Day.{books_from, books_of, empty_lines_from, joined, Whole, SplitJoined, JoinedSplit, book_output, AnySuffices, day_output, day_rules, day_of, AlwaysFits, PlanCall, printed_of, OneByOne, Neighbours}
use Rattle.model.proofs.ListLaws.{both_true, every_map, concat-join}
use Rattle.model.proofs.RefusalLaws.{first-none, refused-done, done-same}
use Rattle.model.proofs.AnswerLaws.{writes-same, printed_from_lem, length-refusal}
use Rattle.model.proofs.PlanLaws.{chosen_length, plan-is}
use Rattle.model.proofs.SheetLaws.{sheet-length}
use Rattle.model.proofs.SheetGivenLaws.{past_result, past-only}
use Rattle.model.proofs.ValidLaws.{book-valid, sheet-few}

-- ---- splitting

-- a day has one book more than empty lines
pub books_counted : (book : List ℕ) (starts : Bool) (bytes : List ℕ) → length (books_from book starts bytes) ≡ suc (empty_lines_from starts bytes)
unfolding books_from empty_lines_from
books_counted book starts [] = refl
books_counted book starts (b ∷ bs) = go (starts && eqb b 10) refl (books_counted [] true bs) (books_counted (book ++ (b ∷ [])) (eqb b 10) bs)
  where
    go : (t : Bool) → (starts && eqb b 10) ≡ t → length (books_from [] true bs) ≡ suc (empty_lines_from true bs)
        → length (books_from (book ++ (b ∷ [])) (eqb b 10) bs) ≡ suc (empty_lines_from (eqb b 10) bs)
        → length (cond t (book ∷ books_from [] true bs) (books_from (book ++ (b ∷ [])) (eqb b 10) bs)) ≡ suc (cond t 1 0 + empty_lines_from (eqb b 10) bs)
    go true q e f =
        let l : empty_lines_from (eqb b 10) bs ≡ empty_lines_from true bs = ap (λ t. empty_lines_from t bs) (both_true starts (eqb b 10) q).1 in
        omega (arith, e, l)
    go false q e f = omega (arith, f)

-- whether a line starts after these bytes
starts_after : Bool → List ℕ → Bool
starts_after starts [] = starts
starts_after starts (b ∷ bs) = starts_after (eqb b 10) bs

starts-after-lf : (starts : Bool) (lines : List ℕ) → starts_after starts (lines ++ lf) ≡ true
unfolding starts_after
starts-after-lf starts [] = refl
starts-after-lf starts (b ∷ bs) = starts-after-lf (eqb b 10) bs

-- up to an empty line, all bytes go to the book
to_book : (book : List ℕ) (starts : Bool) (bytes rest : List ℕ) → empty_lines_from starts bytes ≡ 0
    → books_from book starts (bytes ++ rest) ≡ books_from (book ++ bytes) (starts_after starts bytes) rest
unfolding books_from empty_lines_from starts_after
to_book book starts [] rest e = ap (λ x. books_from x starts rest) (sym (append-nil book))
to_book book starts (b ∷ bs) rest e = go (starts && eqb b 10) e (to_book (book ++ (b ∷ [])) (eqb b 10) bs rest)
  where
    go : (t : Bool) → cond t 1 0 + empty_lines_from (eqb b 10) bs ≡ 0
        → (empty_lines_from (eqb b 10) bs ≡ 0
        → books_from (book ++ (b ∷ [])) (eqb b 10) (bs ++ rest) ≡ books_from ((book ++ (b ∷ [])) ++ bs) (starts_after (eqb b 10) bs) rest)
        → cond t (book ∷ books_from [] true (bs ++ rest)) (books_from (book ++ (b ∷ [])) (eqb b 10) (bs ++ rest))
        ≡ books_from (book ++ (b ∷ bs)) (starts_after (eqb b 10) bs) rest
    go true e more = absurd (omega (arith, e))
    go false e more = more (omega (arith, e)) ∙ ap (λ x. books_from x (starts_after (eqb b 10) bs) rest) (append_assoc book (b ∷ []) bs)

-- SPLITTING WHAT WAS JOINED gives the books
pub split_joined : SplitJoined
unfolding books_from
split_joined [] h w = absurd (omega arith)
split_joined (book ∷ []) h w = ap books_of (sym (append-nil book)) ∙ to_book [] true book [] w.0.no_empty_line
split_joined (book ∷ next ∷ books) h w =
    let rest = joined (next ∷ books) in
    let t : starts_after true book ≡ true = ap (starts_after true) w.0.ends ∙ starts-after-lf true w.0.lines in
    ap books_of (append_assoc book lf rest)
    ∙ to_book [] true book (10 ∷ rest) w.0.no_empty_line
    ∙ ap (λ s. books_from book s (10 ∷ rest)) t
    ∙ ap {B = List (List ℕ)} (λ xs. book ∷ xs) (split_joined (next ∷ books) (omega arith) w.1)

-- a book joined to others
joined-more : (book : List ℕ) (books : List (List ℕ)) → 1 ≤ length books → joined (book ∷ books) ≡ book ++ lf ++ joined books
joined-more book [] h = absurd (omega arith)
joined-more book (x ∷ more) h = refl

-- joining gives back what was read of the first book, and the bytes
joined_from : (book : List ℕ) (starts : Bool) (bytes : List ℕ) → joined (books_from book starts bytes) ≡ book ++ bytes
unfolding books_from
joined_from book starts [] = sym (append-nil book)
joined_from book starts (b ∷ bs) = go (starts && eqb b 10) refl (joined_from [] true bs) (joined_from (book ++ (b ∷ [])) (eqb b 10) bs)
  where
    go : (t : Bool) → (starts && eqb b 10) ≡ t → joined (books_from [] true bs) ≡ bs
        → joined (books_from (book ++ (b ∷ [])) (eqb b 10) bs) ≡ (book ++ (b ∷ [])) ++ bs
        → joined (cond t (book ∷ books_from [] true bs) (books_from (book ++ (b ∷ [])) (eqb b 10) bs)) ≡ book ++ (b ∷ bs)
    go true q e f =
        joined-more book (books_from [] true bs) (omega (arith, books_counted [] true bs))
        ∙ append_assoc book lf (joined (books_from [] true bs))
        ∙ ap₂ (λ c xs. book ++ (c ∷ xs)) (sym (eqb-true b 10 (both_true starts (eqb b 10) q).1)) e
    go false q e f = f ∙ append_assoc book (b ∷ []) bs

-- JOINING WHAT WAS SPLIT gives the input
pub joined_split : JoinedSplit
joined_split input = joined_from [] true input

-- ---- a buffer that suffices

module _ (words : ℕ) where
  -- of a book that was read, 11 apart, the sizes are refused alike
  at_sizes : (b : Problem) (room : ℕ) → sheet_length b ≤ most_sheet → ((answer_of (and_then (fitting words room b) (plan_sheet plan))).number ≡ 11 → ⊥)
      → fitting words room b ≡ fitting words most_sheet b
  unfolding size_rules first
  at_sizes b room h n = go (ltb most_cells (cells b)) (ltb words (needed_words b)) (ltb room (sheet_length b)) n
    where
      sizes : Bool → Bool → Bool → Finding
      sizes t u v = first ((t ⇒ TooManyCells) ∷ (u ⇒ WorkTooSmall) ∷ (v ⇒ BufferTooSmall) ∷ [])

      go : (t u v : Bool) → ((answer_of (and_then (checked 0 (sizes t u v) (done b)) (plan_sheet plan))).number ≡ 11 → ⊥)
          → Path (Result Problem) (checked 0 (sizes t u v) (done b)) (checked 0 (sizes t u (ltb most_sheet (sheet_length b))) (done b))
      go true u v n = refl
      go false true v n = refl
      go false false true n = absurd (n refl)
      go false false false n = ap (λ v. checked 0 (sizes false false v) (done b)) (sym (le-ltb most_sheet (sheet_length b) h))

  -- where the sizes of a book that was read are refused alike, so are those of the bytes
  at_book : (book : List ℕ) (room : ℕ) → ((b : Problem) → read_book book ≡ done b → fitting words room b ≡ fitting words most_sheet b)
      → fitting_book book words room ≡ fitting_book book words most_sheet
  unfolding fitting_book
  at_book book room f = go (read_book book) refl
    where
      go : (x : Result Problem) → read_book book ≡ x → and_then x (fitting words room) ≡ and_then x (fitting words most_sheet)
      go (refused r line) e = refl
      go (done b) e = f b e

  -- of two buffers that are long enough, the sizes are refused alike
  pub long-suffices : (book : List ℕ) (room : ℕ) → most_sheet ≤ room → fitting_book book words room ≡ fitting_book book words most_sheet
  unfolding size_rules
  long-suffices book room h =
      at_book book room
      (λ b e. let l : sheet_length b ≤ most_sheet = sheet-few b (book-valid book b e) in
      ap (λ t. checked 0 (first ((ltb most_cells (cells b) ⇒ TooManyCells) ∷ (ltb words (needed_words b) ⇒ WorkTooSmall) ∷ (t ⇒ BufferTooSmall) ∷ [])) (done b))
      (le-ltb room (sheet_length b) (omega arith) ∙ sym (le-ltb most_sheet (sheet_length b) l)))

-- EVERY BUFFER THAT SUFFICES gives the same result
pub any-suffices : AnySuffices
unfolding planner_result fitting_book
any-suffices words book room n =
    ap (λ x. and_then x (plan_sheet plan))
    (at_book words book room
    (λ b e. at_sizes words b room (sheet-few b (book-valid book b e)) (λ q. n (ap (λ x. (answer_of (and_then (and_then x (fitting words room)) (plan_sheet plan))).number) e ∙ q))))

-- ---- how long an output is

-- no book puts out more than the longest sheet
pub output_few : (words : ℕ) (book : List ℕ) → length (book_output words book) ≤ most_sheet
output_few words book = go (planner_result book words most_sheet) refl
  where
    at_plan : (b : Problem) → Past12 book words most_sheet b → (m : Option Choice) → plan b ≡ m → (x : Output) → planned b m ≡ done x → length x.bytes ≤ most_sheet
    at_plan b h none e x q = absurd (refused-done NoPlan 0 x q)
    at_plan b h (some c) e x q =
        let l : length (sheet_bytes b c (trials b)) ≤ most_sheet
        = omega (arith, sheet-length b c (trials b) (chosen_length b.loads c (plan-is b c e).choice), h.long) in
        subst (λ (y : Output). length y.bytes ≤ most_sheet) (done-same (sheet_of b c (trials b)) x q) l

    go : (x : Result Output) → planner_result book words most_sheet ≡ x → length (printed x) ≤ most_sheet
    go (refused r line) e = omega (arith, length-refusal (number_of r) line)
    go (done x) e =
        let p = past-only book words most_sheet (inl (ap (λ r. (answer_of r).number) e)) in
        at_plan p.0 p.1 (plan p.0) refl x (sym (past_result book words most_sheet p.0 p.1) ∙ e)

-- nor do books put out more than as many longest sheets
pub outputs_few : (words : ℕ) (books : List (List ℕ)) → length (day_output words books) ≤ length books * most_sheet
unfolding day_output
outputs_few words [] = omega arith
outputs_few words (book ∷ books) =
    omega (arith, length-append (book_output words book) (day_output words books), output_few words book, outputs_few words books)

-- ---- one by one

module _ (words : ℕ) where
  -- what is printed of a call is what the book puts out in a day
  printed_alone : (x : PlanCall words) → printed_of x ≡ book_output words x.book
  printed_alone x =
      printed_from_lem (planner_result x.book words (length x.before)) x.writes
      ∙ ap printed (any-suffices words x.book (length x.before) (λ e. x.suffices (ap (λ (a : Answer). a.number) x.writes.answers ∙ e)))

  outputs : (calls : List (PlanCall words)) → concat (map printed_of calls) ≡ day_output words (map (λ x. x.book) calls)
  unfolding day_output
  outputs [] = refl
  outputs (x ∷ calls) = ap₂ ◌++◌ (printed_alone x) (outputs calls)

  -- a day of few books whose output fits is answered with it
  pub day_given : (books : List (List ℕ)) (room : ℕ) → length books ≤ most_books → length (day_output words books) ≤ room
      → day_of books words room ≡ done (bytes_only (day_output words books))
  unfolding day_of day_rules
  day_given books room few fits =
      ap (λ f. checked 0 f (done (bytes_only (day_output words books))))
      (first-none (day_rules (length books) (length (day_output words books)) room)
      (le-ltb most_books (length books) few, (le-ltb room (length (day_output words books)) fits, tt)))

-- A BUFFER FOR THE LONGEST OUTPUT is enough for every day of few books
pub always_fits : AlwaysFits
always_fits input words room few h =
    day_given words (books_of input) room few (omega (arith, few, h, outputs_few words (books_of input)))

-- A DAY IS ITS BOOKS ONE BY ONE
pub one_by_one : OneByOne
one_by_one words calls h few whole before after answer fits w =
    let books = map (λ (x : PlanCall words). x.book) calls in
    let n : length books ≡ length calls = length-map calls (λ (x : PlanCall words). x.book) in
    let o : concat (map printed_of calls) ≡ day_output words books = outputs words calls in
    writes-same
    (ap (λ b. day_of b words (length before)) (split_joined books (omega (arith, h, n)) (every_map Whole (λ x. x.book) calls whole))
    ∙ day_given words books (length before) (omega (arith, few, n)) (omega (arith, fits, ap length o))
    ∙ ap (λ b. done (bytes_only b)) (sym o))
    w

-- A BOOK DOES NOT TOUCH ITS NEIGHBOURS
pub neighbours : Neighbours
unfolding day_output
neighbours words input above below book e =
    ap (day_output words) e
    ∙ ap concat (map-append (book_output words) above (book ∷ below))
    ∙ concat-join (map (book_output words) above) (map (book_output words) (book ∷ below))
    ∙ sym (append_assoc (day_output words above) (book_output words book) (day_output words below))
