-- Loads that must run (document 02, M-105). A load offers no choice 0 where its line is of kind `07` (Book, `settings`); here is what that says of choices.
use Rattle.std.specs.Prelude.{ℕ, zero, suc, ◌<◌, ◌≤◌, ◌≡◌, true, cond, ◌↔◌, List, [], ◌∷◌, length, take}
use Rattle.model.specs.Frames.{line_of, after_line, line_at}
use Rattle.model.specs.Refusals.{done}
use Rattle.model.specs.Book.{Settings, Problem, slot_count, must_run, options, standing, read_book}
use Rattle.model.specs.Choice.{Choice, IsChoice, running_on}

-- the number of the first setting that the load of a line offers: 1 where it must run, else 0, which is standing
unfoldable pub least_number : List ℕ → ℕ
least_number line = cond (must_run line) 1 0

-- a choice of the loads on these lines runs every one of them that must run
abbrev pub RunsRequired : List ℕ → Choice → Type 0
RunsRequired lines c = (k : ℕ) → k < length c → must_run (line_at k lines) ≡ true → running_on c (suc k) ≡ true

-- the loads on the first n of these lines where each could stand: document 01's "a number c from 0 to its o"
abbrev pub with_standing : ℕ → ℕ → List ℕ → List Settings
with_standing t zero lines = []
with_standing t (suc n) lines = (standing t (line_of lines) ∷ options t (line_of lines)) ∷ with_standing t n (after_line lines)

-- the choices of loads 1 to k of a book, and so of the book, are those of document 01 "that run every such load" (proofs/MustRunLaws, `choices_run`). So
-- H, plans, demand 3, refusal 17 and the sheets that belong to a book are of these.
abbrev pub ChoicesRun : Type 0
ChoicesRun =
    (book : List ℕ) (b : Problem) → read_book book ≡ done b → (k : ℕ) → k ≤ length b.loads → (c : Choice)
    → IsChoice (take k b.loads) c ↔ (IsChoice (with_standing (slot_count (line_of book)) k (after_line book)) c × RunsRequired (after_line book) c)
