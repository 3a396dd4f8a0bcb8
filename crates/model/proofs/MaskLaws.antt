-- M-101: the ones in a mask of the loads that start are as many as those loads.
-- Assumes nothing.
use mathlib.Core.Path.{◌≡◌, refl, ap, ap₂, ◌∙◌}
use mathlib.Core.Bool.{Bool, true, false, cond, not, ◌&&◌}
use mathlib.Core.List.{List}
use Prim.Native.Nat.{ℕ, zero, suc, ◌+◌, ◌-◌, ◌*◌, ◌/◌, ◌%◌, ◌^◌, ◌<◌, ◌≤◌, min}
use native.Mathlib.Nat.{pow-suc, le_of_suc-le-suc}
use native.Mathlib.Omega.{arith}
use lib.Bits.{bit_and, and_step}
use lib.Count.{ones, ones_step}
use lib.ListN.{length}
use lib.Pow.{pow_pos}
use Rattle.model.specs.Lists.{upto_from, keep_if, keep}
use Rattle.model.specs.Bounds.{most_loads}
use Rattle.model.specs.Order.{Running, starts, starting, mask_from, running_mask, and_not, start_count, StartsCounted}

-- a bit for a load
abbrev bit : Bool → ℕ
bit t = cond t 1 0

bit_small : (t : Bool) → bit t < 2
bit_small true = omega arith
bit_small false = omega arith

pub mask_below : (on : Running) (k n w : ℕ) → n ≤ w → mask_from on k n < 2 ^ w
mask_below on k zero w h = pow_pos w
mask_below on k (suc n) zero h = absurd (omega arith)
mask_below on k (suc n) (suc w) h = omega (arith, pow-suc 2 w, bit_small (on k), mask_below on (suc k) n w (le_of_suc-le-suc h))

pub mask_small : (n : ℕ) (on : Running) → n ≤ most_loads → running_mask n on < 2 ^ most_loads
unfolding running_mask
mask_small n on h = mask_below on 1 n most_loads h

-- the ones of a mask whose lowest bit stands apart
ones_low : (x r : ℕ) → r < 2 → ones (x * 2 + r) ≡ r + ones x
ones_low x r h =
    let low : (x * 2 + r) % 2 ≡ r = omega arith in
    let high : (x * 2 + r) / 2 ≡ x = omega arith in
    ones_step (x * 2 + r) ∙ ap₂ (λ a b. a + ones b) low high

-- one load more, at the lowest bit: it counts where it runs in the new mask and not in the old
ones_more : (w s t x y : ℕ) → s < 2 → t < 2 → y < 2 ^ w
    → ones (bit_and (s + 2 * x) (2 ^ suc w - 1 - (t + 2 * y))) ≡ min s (1 - t) + ones (bit_and x (2 ^ w - 1 - y))
ones_more w s t x y hs ht hy =
    let low : (s + 2 * x) % 2 ≡ s = omega arith in
    let high : (s + 2 * x) / 2 ≡ x = omega arith in
    let low' : (2 ^ suc w - 1 - (t + 2 * y)) % 2 ≡ 1 - t = omega (arith, pow-suc 2 w) in
    let high' : (2 ^ suc w - 1 - (t + 2 * y)) / 2 ≡ 2 ^ w - 1 - y = omega (arith, pow-suc 2 w) in
    ap ones (and_step (s + 2 * x) (2 ^ suc w - 1 - (t + 2 * y))
    ∙ ap₂ (λ a b. a * 2 + b) (ap₂ bit_and high high') (ap₂ min low low'))
    ∙ ones_low (bit_and x (2 ^ w - 1 - y)) (min s (1 - t)) (omega arith)

-- the first load
counted-first : (a b : Bool) (k m : ℕ) (xs : List ℕ) → m ≡ length xs → min (bit b) (1 - bit a) + m ≡ length (keep_if (not a && b) k xs)
counted-first true true k m xs e = omega arith
counted-first true false k m xs e = omega arith
counted-first false true k m xs e = omega arith
counted-first false false k m xs e = omega arith

-- over the width of the masks
counted : (old new : Running) (w k n : ℕ) → n ≤ w
    → ones (bit_and (mask_from new k n) (2 ^ w - 1 - mask_from old k n)) ≡ length (keep (starts old new) (upto_from k n))
unfolding ones
counted old new w k zero h = refl
counted old new zero k (suc n) h = absurd (omega arith)
counted old new (suc w) k (suc n) h =
    ones_more w (bit (new k)) (bit (old k)) (mask_from new (suc k) n) (mask_from old (suc k) n)
    (bit_small (new k)) (bit_small (old k)) (mask_below old (suc k) n w (le_of_suc-le-suc h))
    ∙ counted-first (old k) (new k) k _ _ (counted old new w (suc k) n (le_of_suc-le-suc h))

pub starts-counted : StartsCounted
unfolding start_count and_not starting running_mask
starts-counted n old new h = counted old new most_loads 1 n h
