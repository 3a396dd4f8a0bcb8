-- Refusals 9 to 11 in order, and what a book that has none of them tells.
-- Assumes nothing.
use mathlib.Core.Path.{◌≡◌, ◌∙◌}
use mathlib.Core.List.{[]}
use mathlib.Core.Logic.{◌⊎◌, inl, inr}
use Prim.Native.Nat.{ℕ, ◌<◌, ◌≤◌}
use native.Mathlib.Omega.{arith}
use lib.Dec.{ltb}
use lib.ListN.{drop}
use borrow.Author.Tests.{ltb-false, lt-ltb, le-ltb}
use Rattle.std.specs.Prelude.{Ok, Err}
use Rattle.model.specs.declared.Refusal.TheVariants.{TooManyCells, WorkTooSmall, BufferTooSmall}
use Rattle.model.specs.Refusals.{first}
use Rattle.model.specs.Book.{Problem}
use Rattle.model.specs.Trials.{cells, needed_words}
use Rattle.model.specs.Sheet.{sheet_length}
use Rattle.model.specs.Calls.{size_rules}
use Rattle.model.specs.Bounds.{most_cells}
use Rattle.model.proofs.IntegerLaws.{split}
use Rattle.model.proofs.RefusalLaws.{first_passed, first_here, first_next, first_last}
use Rattle.grid.specs.Geometry.{Capped}

module _ (words room : ℕ) (b : Problem) where
  pub size_many : most_cells < cells b → first (size_rules b words room) ≡ Err TooManyCells
  unfolding size_rules
  size_many h = first_here TooManyCells _ (ltb most_cells (cells b)) (lt-ltb _ _ h)

  past-cells : cells b ≤ most_cells → first (size_rules b words room) ≡ first (drop 1 (size_rules b words room))
  unfolding size_rules
  past-cells h = first_next TooManyCells _ (ltb most_cells (cells b)) (le-ltb _ _ h)

  pub size_small : cells b ≤ most_cells → words < needed_words b → first (size_rules b words room) ≡ Err WorkTooSmall
  unfolding size_rules
  size_small h k = past-cells h ∙ first_here WorkTooSmall _ (ltb words (needed_words b)) (lt-ltb _ _ k)

  past_words : cells b ≤ most_cells → needed_words b ≤ words → first (size_rules b words room) ≡ first (drop 2 (size_rules b words room))
  unfolding size_rules
  past_words h k = past-cells h ∙ first_next WorkTooSmall _ (ltb words (needed_words b)) (le-ltb _ _ k)

  pub size_short : cells b ≤ most_cells → needed_words b ≤ words → room < sheet_length b → first (size_rules b words room) ≡ Err BufferTooSmall
  unfolding size_rules
  size_short h k l = past_words h k ∙ first_here BufferTooSmall [] (ltb room (sheet_length b)) (lt-ltb _ _ l)

  pub size_none : cells b ≤ most_cells → needed_words b ≤ words → sheet_length b ≤ room → first (size_rules b words room) ≡ Ok tt
  unfolding size_rules
  size_none h k l = past_words h k ∙ first_last BufferTooSmall (ltb room (sheet_length b)) (le-ltb _ _ l)

  module _ (e : first (size_rules b words room) ≡ Ok tt) where
    pub fits-cells : cells b ≤ most_cells
    unfolding size_rules
    fits-cells = ltb-false _ _ (first_passed (size_rules b words room) e).0

    pub fits_words : needed_words b ≤ words
    unfolding size_rules
    fits_words = ltb-false _ _ (first_passed (size_rules b words room) e).1.0

    pub fits_room : sheet_length b ≤ room
    unfolding size_rules
    fits_room = ltb-false _ _ (first_passed (size_rules b words room) e).1.1.0

    -- the cells that were counted are within their bound
    pub fits-few : (total : ℕ) → Capped (cells b) total → total ≤ most_cells
    fits-few total h = go (split most_cells total)
      where
        go : (most_cells < total) ⊎ (total ≤ most_cells) → total ≤ most_cells
        go (inl k) = absurd (omega (arith, fits-cells, h.over k))
        go (inr k) = k
