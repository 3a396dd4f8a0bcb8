-- The slots of a book by their places, and the bounds of their numbers, over every ratio up to the largest.
-- Assumes nothing.
use Prim.Native.Nat.{ℕ, zero, suc, ◌+◌, ◌*◌, ◌/◌, ◌<◌, ◌≤◌}
use mathlib.Core.Path.{◌≡◌, refl, sym, ap, ap₂, ◌∙◌, subst}
use mathlib.Core.List.{List, [], ◌∷◌}
use native.Mathlib.Nat.{zero-add, le_of_suc-le-suc, div-le_self, le-max_left, max-le, mul-le-mul, mul-le-mul_right}
use native.Mathlib.Omega.{arith}
use lib.ListN.{length, get_or}
use Rattle.model.specs.declared.Book.{Book}
use Rattle.model.specs.Grid.{Slot, slot_at, slots_from, slots_of}
use Rattle.model.specs.Bounds.{most_loads, most_fineness, most_ratio}
use Rattle.model.specs.Book.{Problem}
use Rattle.model.specs.Trials.{grid_top, width_of, cells}
use Rattle.model.specs.Values.{Held, problem_of}
use Rattle.model.specs.Index.{depth_of}
use Rattle.model.proofs.IndexLaws.{width_is}
use Rattle.model.proofs.UptoLaws.{suc_across}
use Rattle.model.proofs.HeldLaws.{held-valid, held-count, held-few, held-slots, held_four, held-limit, held-limit-small}
use Rattle.grid.specs.declared.Grid.{Grid}
use Rattle.grid.specs.Geometry.{no_slot, GridIs, Capped, BookGrid, SlotSound, Laid}

-- ---- the slots of a book

from_at : (n d r i : ℕ) (ss : List ℕ) (t : ℕ) → t < length ss → get_or (slots_from n d r i ss) t no_slot ≡ slot_at n d r (i + t) (get_or ss t 0)
from_at n d r i [] t l = absurd (omega arith)
from_at n d r i (s ∷ ss) zero l = let e : i ≡ i + 0 = omega arith in ap (λ j. slot_at n d r j s) e
from_at n d r i (s ∷ ss) (suc t) l =
    from_at n d r (suc i) ss t (le_of_suc-le-suc l) ∙ ap (λ j. slot_at n d r j (get_or ss t 0)) (sym (suc_across i t))

length-slots : (n d r i : ℕ) (ss : List ℕ) → length (slots_from n d r i ss) ≡ length ss
length-slots n d r i [] = refl
length-slots n d r i (s ∷ ss) = ap suc (length-slots n d r (suc i) ss)

-- slot t, of a book's value
abbrev pub slot_in : Book → ℕ → Slot
slot_in v t = slot_at v.count v.fineness v.ratio t (get_or v.limits t 0)

module _ (v : Book) (h : Held v) where
  pub slots_length : length (slots_of (problem_of v)) ≡ v.slots
  unfolding slots_of
  slots_length =
      length-slots (length (problem_of v).loads) (problem_of v).fineness (problem_of v).ratio 0 (problem_of v).limits ∙ sym (held-slots v h)

  fineness-is : (problem_of v).fineness ≡ v.fineness
  unfolding problem_of
  fineness-is = refl

  ratio-is : (problem_of v).ratio ≡ v.ratio
  unfolding problem_of
  ratio-is = refl

  -- what the numbers of the header are
  pub header_fits : (1 ≤ v.count) × (v.count ≤ most_loads) × (1 ≤ v.fineness) × (v.fineness ≤ most_fineness)
  header_fits =
      let valid = held-valid v h in
      (omega (arith, held-count v h, valid.loads_some), held-few v h, omega (arith, fineness-is, valid.fine_some), omega (arith, fineness-is, valid.fine_few))

  pub ratio-fits : (1 ≤ v.ratio) × (v.ratio ≤ most_ratio)
  ratio-fits = let valid = held-valid v h in (omega (arith, ratio-is, valid.ratio_some), omega (arith, ratio-is, valid.ratio_few))

  pub slot_at_lem : (t : ℕ) → t < v.slots → get_or (slots_of (problem_of v)) t no_slot ≡ slot_in v t
  unfolding slots_of
  slot_at_lem t l =
      from_at (length (problem_of v).loads) (problem_of v).fineness (problem_of v).ratio 0 (problem_of v).limits t (omega (arith, held-slots v h))
      ∙ ap (λ i. slot_at (length (problem_of v).loads) (problem_of v).fineness (problem_of v).ratio i (get_or (problem_of v).limits t 0)) (zero-add t)
      ∙ ap (λ s. slot_at (length (problem_of v).loads) (problem_of v).fineness (problem_of v).ratio t s) (sym (held-limit v h t (omega (arith, held_four v h))))
      ∙ ap₂ (λ d r. slot_at (length (problem_of v).loads) d r t (get_or v.limits t 0)) fineness-is ratio-is
      ∙ ap (λ n. slot_at n v.fineness v.ratio t (get_or v.limits t 0)) (sym (held-count v h))

  -- what is known of them
  pub slot_sound : (t : ℕ) → t < length (slots_of (problem_of v)) → SlotSound t (get_or (slots_of (problem_of v)) t no_slot)
  slot_sound t l =
      let k : t < v.slots = omega (arith, slots_length) in
      let small : get_or v.limits t 0 ≤ 65535 = held-limit-small v h t (omega (arith, k, held_four v h)) in
      let one : 1 ≤ 65535 = omega arith in
      subst (SlotSound t) (sym (slot_at_lem t k)) (record {
        place_is = refl;
        step_some = le-max_left 1 (get_or v.limits t 0 / (v.count * v.fineness));
        step_small = max-le one (omega (arith, small, div-le_self (get_or v.limits t 0) (v.count * v.fineness)));
        limit_small = small;
        loads_few = held-few v h;
        ratio_some = ratio-fits.0;
        ratio_few = ratio-fits.1;
      })

  unfoldable pub laid : (x : Grid) → GridIs (slots_of (problem_of v)) x → Laid x
  laid x is = record { slots = slots_of (problem_of v); is = is; sound = slot_sound }

-- the cells of a book's table
pub cells_capped : (b : Problem) (v : Grid) → BookGrid b v → Capped (cells b) v.cells
unfolding cells
cells_capped b v g = record { exact = λ k. (g.is k).cells_are; over = g.over }

-- ---- THE BOUNDS: r × R and r × N are small, and all numbers of a slot are sums of these

module _ (s : Slot) (limit : s.limit ≤ 65535) (loads : s.loads ≤ most_loads) (some : 1 ≤ s.ratio) (ratio : s.ratio ≤ most_ratio) where
  pub parts_small : (grid_top s ≤ 65535) × (s.ratio * grid_top s ≤ 196605) × (s.ratio * s.loads ≤ 72)
  parts_small =
      let top : grid_top s ≤ 65535 = omega (arith, limit, div-le_self s.limit s.step) in
      (top, mul-le-mul ratio top, mul-le-mul ratio loads)

  pub sizes_small : (grid_top s + 1 ≤ 65536) × (width_of s ≤ 393355) × (depth_of s ≤ 196677)
  sizes_small = let p = parts_small in (omega (arith, p), omega (arith, p, width_is s some), omega (arith, p))

-- no power is within the columns
pub depth_less : (s : Slot) → 1 ≤ s.ratio → depth_of s < width_of s
depth_less s h = omega (arith, width_is s h, mul-le-mul_right s.loads h)
