-- Trials and the work area (document 01, "Trials and the work area"; document 02, M-104, M-105 and M-108).
use Rattle.std.specs.Prelude.{ℕ, ◌+◌, ◌*◌, ◌-◌, ◌/◌, ◌≡◌, Bool, false, ◌&&◌, List, [], map, leb, eqb, ℤ, pos, negsuc, length, get_or, take, drop}
use Rattle.model.specs.Lists.{product, sum_below, keep, all, distinct, same_lists}
use Rattle.model.specs.Book.{Settings, Problem}
use Rattle.model.specs.Choice.{Choice, choices}
use Rattle.model.specs.Grid.{Slot, slots_of, GridPair, grid_in, grids_of}

-- ---- cells

-- "R = S div L"
abbrev pub grid_top : Slot → ℕ
grid_top s = s.limit / s.step

-- 2rR + (2r - 1) × N + 1: among so many values is the b of every choice whose a is at most R (Ratio, `PairsWithin`)
abbrev pub width_of : Slot → ℕ
width_of s = 2 * s.ratio * grid_top s + (2 * s.ratio - 1) * s.loads + 1

-- "a slot has (R + 1) × (2R + N + 1) grid pairs"; M-108: "The grid pairs of a slot become (R + 1) × (2rR + (2r - 1) × N + 1)"
abbrev pub pairs_of : Slot → ℕ
pairs_of s = (grid_top s + 1) * width_of s

-- "Cells is the product over the slots"
abbrev pub cell_count : List Slot → ℕ
cell_count slots = product (map pairs_of slots)

unfoldable pub cells : Problem → ℕ
cells b = cell_count (slots_of b)

-- "4 × cells words are needed"
abbrev pub needed_words : Problem → ℕ
needed_words b = 4 * cells b

-- "Words beyond these keep their values": only the first `free` words may differ
pub record WordsKept (free : ℕ) (before after : List ℕ) : Type 0 where
  pub same_length : length after ≡ length before
  pub kept : drop free after ≡ drop free before

-- ---- trials

abbrev pub sameℤ : ℤ → ℤ → Bool
sameℤ (pos m) (pos n) = eqb m n
sameℤ (pos m) (negsuc n) = false
sameℤ (negsuc m) (pos n) = false
sameℤ (negsuc m) (negsuc n) = eqb m n

abbrev pub same_pair : GridPair → GridPair → Bool
same_pair x y = eqb x.p y.p && sameℤ x.q y.q

-- "with a ≤ R in every slot"
abbrev pub in_range : List Slot → Choice → Bool
in_range slots c = all (λ s. leb (grid_in s c).p (grid_top s)) slots

-- "the number of different lists of grid pairs (a, b), one pair a slot, that choices of" these loads have; M-105: choices that run those that must run
unfoldable pub reached_count : List Slot → List Settings → ℕ
reached_count slots loads = length (distinct (same_lists same_pair) (map (grids_of slots) (keep (in_range slots) (choices loads))))

-- "H(k)", of "loads 1 to k", "summed over those loads alone"; the steps and R are the book's; "H(0) = 1", as no loads have one choice, with a = 0; a later
-- one can be 0 where standing draws (document 02, M-104) or loads must run (M-105)
abbrev pub H : List Slot → List Settings → ℕ → ℕ
H slots loads k = reached_count slots (take k loads)

-- "the sum over k of H(k-1) × (o of load k, plus 1)", for the first n loads: a load offers o + 1 settings; M-105: where it must run, "Its factor in the trials
-- is o, not o + 1", as it offers o
abbrev pub trials_upto : List Slot → List Settings → ℕ → ℕ
trials_upto slots loads n = sum_below n (λ k. H slots loads k * length (get_or loads k []))

-- "The trials of a book"
unfoldable pub trials : Problem → ℕ
trials b = trials_upto (slots_of b) b.loads (length b.loads)
