-- Books whose load lines are all of kind `02`: standing draws nothing, all standing keeps the limits, and there is a sheet, as document 01 has it.
-- Assumes nothing.
use mathlib.Core.Path.{◌≡◌, refl, sym, ap, ap₂, ◌∙◌, subst}
use mathlib.Core.Bool.{cond, not}
use mathlib.Core.List.{List, [], ◌∷◌, map}
use Prim.Native.Nat.{ℕ, zero, suc, ◌+◌, ◌*◌}
use native.Mathlib.Omega.{arith}
use lib.Dec.{T, leb, eqb, ltb, le→leb}
use borrow.Author.Tests.{le-ltb}
use Rattle.model.specs.Lists.{Every, upto, keep_if}
use Rattle.model.specs.Frames.{field, line_of, after_line}
use Rattle.model.specs.Refusals.{done}
use Rattle.model.specs.Book.{no_power, Settings, Problem, slot_count, load_count, ratio_in, standing_pairs, must_run, power_at, options, standing_power, standing, settings, read_loads}
use Rattle.model.specs.Choice.{power_in, sum_in, plus, square, apparent_squared, first_setting}
use Rattle.model.specs.Grid.{Slot, slots_of, keeps_limits}
use Rattle.model.specs.Calls.{planner_result}
use Rattle.model.specs.Answers.{answer_of}
use Rattle.model.specs.Demand.{Past12}
use Rattle.model.proofs.ListLaws.{each, every_image, every_get_d}
use Rattle.model.proofs.ChoiceLaws.{plus_none}
use Rattle.model.proofs.ValidLaws.{LoadsRead, loads_read, loads-none, book_read}
use Rattle.model.proofs.SheetGivenLaws.{firsts_planned}

-- the next `left` lines are of kind `02`
abbrev pub Plain : ℕ → List ℕ → Type 0
Plain zero bytes = Unit {0}
Plain (suc left) bytes = (field (line_of bytes) 0 2 ≡ 2) × Plain left (after_line bytes)

-- a load whose first setting draws nothing
abbrev Still : Settings → Type 0
Still vs = (slot : ℕ) → power_in slot (first_setting vs) ≡ no_power

-- a line of kind `02`: its load may stand, and then draws nothing
plain-settings : (t : ℕ) (line : List ℕ) → field line 0 2 ≡ 2 → settings t line ≡ standing t line ∷ options t line
unfolding must_run
plain-settings t line e = ap (λ k. keep_if (not (eqb k 7)) (standing t line) (options t line)) e

still_standing : (t : ℕ) (line : List ℕ) → field line 0 2 ≡ 2 → Still (standing t line ∷ options t line)
unfolding standing_power standing_pairs
still_standing t line e =
    every_get_d (λ x. x ≡ no_power) (map (standing_power t line) (upto t)) no_power refl
    (every_image (λ x. x ≡ no_power) (standing_power t line) (upto t)
    (λ s. ap (λ k. cond (ltb s (cond (eqb k 6) t 0)) (power_at line (4 + 8 * s)) no_power) e
    ∙ ap (λ b. cond b (power_at line (4 + 8 * s)) no_power) (le-ltb s 0 (omega arith))))

still_line : (t : ℕ) (line : List ℕ) → field line 0 2 ≡ 2 → Still (settings t line)
still_line t line e = subst Still (sym (plain-settings t line e)) (still_standing t line e)

still_loads : (t r left number : ℕ) (bytes : List ℕ) (loads : List Settings) → read_loads t r left number bytes ≡ done loads → Plain left bytes → Every Still loads
still_loads t r zero number bytes loads e p = subst (Every Still) (loads-none t r number bytes loads e).1 tt
still_loads t r (suc left) number bytes loads e p =
    let h : LoadsRead t r left number bytes loads = loads_read t r left number bytes loads e in
    subst (Every Still) h.same (still_line t (line_of bytes) p.0, still_loads t r left (suc number) (after_line bytes) h.others h.rest p.1)

still_sum : (loads : List Settings) → Every Still loads → (slot : ℕ) → sum_in slot (map first_setting loads) ≡ no_power
still_sum [] h slot = refl
still_sum (vs ∷ loads) h slot = ap₂ plus (h.0 slot) (still_sum loads h.1 slot) ∙ plus_none no_power

still_keeps : (loads : List Settings) → Every Still loads → (slots : List Slot) → T (keeps_limits slots (map first_setting loads))
still_keeps loads h [] = tt
still_keeps loads h (s ∷ slots) =
    each (leb (apparent_squared (sum_in s.place (map first_setting loads))) (square s.limit)) (keeps_limits slots (map first_setting loads))
    (subst (λ x. T (leb (apparent_squared x) (square s.limit))) (sym (still_sum loads h s.place)) (le→leb 0 (square s.limit) (omega arith)))
    (still_keeps loads h slots)

-- WITH `02` LINES ONLY there is a sheet wherever none of 1 to 12 applies
pub plain-planned : (book : List ℕ) (words room : ℕ) (b : Problem) → Plain (load_count (line_of book)) (after_line book) → Past12 book words room b
    → (answer_of (planner_result book words room)).number ≡ 0
plain-planned book words room b p h =
    let still : Every Still b.loads
    = still_loads (slot_count (line_of book)) (ratio_in (line_of book)) (load_count (line_of book)) 2 (after_line book) b.loads (book_read book b h.reads).loads p in
    firsts_planned book words room b h (still_keeps b.loads still (slots_of b))
