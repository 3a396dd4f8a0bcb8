-- Numbers within their range.
-- Assumes nothing.
use mathlib.Core.Path.{◌≡◌, sym, ap, ◌∙◌}
use mathlib.Core.Bool.{Bool, false, not}
use Prim.Native.Nat.{ℕ, ◌≤◌}
use borrow.Author.Tests.{not-false}
use Rattle.model.specs.Lists.{within}
use Rattle.model.proofs.ListLaws.{within-is}

-- what a test of a range says of the number tested
pub ranged : (x y low high : ℕ) (r : Bool) → x ≡ y → r ≡ not (within low high x) → not (within low high y) ≡ r
ranged x y low high r e f = ap (λ z. not (within low high z)) (sym e) ∙ sym f

pub in_range_lem : (lo hi x : ℕ) → not (within lo hi x) ≡ false → (lo ≤ x) × (x ≤ hi)
in_range_lem lo hi x e = within-is lo hi x (not-false (within lo hi x) e)
