-- Document 01's words for an admitted slot, and that a choice which keeps every limit is admitted.
-- Assumes nothing.
use mathlib.Core.Path.{◌≡◌, refl, sym, ap, ap₂, ◌∙◌, subst}
use mathlib.Core.List.{List, [], ◌∷◌}
use mathlib.Core.Logic.{◌↔◌}
use Prim.Native.Nat.{ℕ, suc, ◌+◌, ◌*◌, ◌-◌, ◌<◌, ◌≤◌, ◌/◌, ◌%◌, min}
use native.Mathlib.Nat.{le_trans, add-le-add, add-zero, div-add-mod', mod-lt, le-add_right, mul-le-mul_right, le-max_left, le-div_iff_mul-le}
use native.Mathlib.Omega.{arith}
use lib.Dec.{T, leb, leb→le, le→leb}
use lib.IntN.{ℤ, pos, negsuc, neg_ℤ, nat_abs, sub_ℕ, ◌+ℤ◌, +ℤ_assoc, +ℤ_comm}
use lib.ListN.{length}
use Rattle.model.specs.Book.{Power, Problem}
use Rattle.model.specs.Choice.{Choice, plus, power_in, sum_in, square, squareℤ, apparent_squared}
use Rattle.model.specs.Grid.{Slot, spread_of, slots_from, slots_of, keeps_limits, floor_div, GridPair, grid_of, grid_in, times, Admissible, least_abs, admits, Admitted, admitted}
use Rattle.model.specs.Trials.{grid_top}
use Rattle.model.specs.Index.{up, down}
use Rattle.model.specs.Valid.{SlotsFor}
use Rattle.model.proofs.ListLaws.{both, each, all-is, every_imp}
use Rattle.model.proofs.Squares.{sq_mono, sq_cancel}
use Rattle.model.proofs.IntegerLaws.{as_sub, neg_sub, abs_sub, sub-add, sub_same, times-sub, times-add}

pub square_abs : (z : ℤ) → squareℤ z ≡ square (nat_abs z)
square_abs (pos n) = refl
square_abs (negsuc n) = refl

offset : (b : ℤ) (l j : ℕ) → times b l +ℤ pos j ≡ sub_ℕ (up b * l + j) (down b * l + 0)
offset b l j =
    ap₂ ◌+ℤ◌ (ap (λ z. times z l) (as_sub b) ∙ times-sub (up b) (down b) l) (as_sub (pos j))
    ∙ sub-add (up b * l) (down b * l) j 0

pub abs_offset : (b : ℤ) (l j : ℕ) → nat_abs (times b l +ℤ pos j) ≡ (up b * l + j - (down b * l + 0)) + (down b * l + 0 - (up b * l + j))
abs_offset b l j = ap nat_abs (offset b l j) ∙ abs_sub (up b * l + j) (down b * l + 0)

-- only the q nearest to 0 need be tried
nearest_le : (b : ℤ) (l e j : ℕ) → j ≤ e → least_abs l e b ≤ nat_abs (times b l +ℤ pos j)
nearest_le (pos n) l e j h = omega (arith, abs_offset (pos n) l j)
nearest_le (negsuc n) l e j h = omega (arith, abs_offset (negsuc n) l j)

-- and it is there
nearest_at : ℤ → ℕ → ℕ → ℕ
nearest_at (pos n) l e = 0
nearest_at (negsuc n) l e = min e (suc n * l)

nearest-fits : (b : ℤ) (l e : ℕ) → nearest_at b l e ≤ e
unfolding nearest_at
nearest-fits (pos n) l e = omega arith
nearest-fits (negsuc n) l e = omega arith

nearest-is : (b : ℤ) (l e : ℕ) → nat_abs (times b l +ℤ pos (nearest_at b l e)) ≡ least_abs l e b
unfolding nearest_at
nearest-is (pos n) l e = abs_offset (pos n) l 0 ∙ (omega arith)
nearest-is (negsuc n) l e = abs_offset (negsuc n) l (min e (suc n * l)) ∙ (omega arith)

pub admits_of : (s : Slot) (g : Power) → Admissible s g → T (admits s g)
admits_of s g h =
    le→leb (square (g.p * s.step) + square (least_abs s.step (spread_of s) g.q)) (square s.limit)
    (le_trans
    (add-le-add
    (sq_mono {a = g.p * s.step} {b = g.p * s.step + h.i} (omega arith))
    (subst (λ n. square (least_abs s.step (spread_of s) g.q) ≤ n) (sym (square_abs (times g.q s.step +ℤ pos h.j)))
    (sq_mono (nearest_le g.q s.step (spread_of s) h.j h.j_fits))))
    h.inside)

pub of_admits : (s : Slot) (g : Power) → T (admits s g) → Admissible s g
of_admits s g t =
    record {
      i = 0;
      j = nearest_at g.q s.step (spread_of s);
      i_fits = omega arith;
      j_fits = nearest-fits g.q s.step (spread_of s);
      inside =
          subst (λ n. n ≤ square s.limit)
          (ap₂ ◌+◌ (ap square (sym (add-zero (g.p * s.step))))
          (sym (square_abs (times g.q s.step +ℤ pos (nearest_at g.q s.step (spread_of s)))
          ∙ ap square (nearest-is g.q s.step (spread_of s)))))
          (leb→le _ _ t);
    }

-- the test is that property
pub admits-is : (s : Slot) (g : GridPair) → T (admits s g) ↔ Admissible s g
admits-is s g = (of_admits s g, admits_of s g)

pub admitted-is : (slots : List Slot) (c : Choice) → T (admitted slots c) ↔ Admitted slots c
admitted-is slots c = (
  λ t. every_imp passes admissible (λ s. of_admits s (grid_in s c)) slots ((all-is (λ s. admits s (grid_in s c)) slots).0 t),
  λ h. (all-is (λ s. admits s (grid_in s c)) slots).1 (every_imp admissible passes (λ s. admits_of s (grid_in s c)) slots h),
)
  where
    passes : Slot → Type 0
    passes s = T (admits s (grid_in s c))

    admissible : Slot → Type 0
    admissible s = Admissible s (grid_in s c)

-- ---- the true sums are near the grid

-- the power x is g L + i, b L + j with i and j at most k
pub record Rounded (l k : ℕ) (x g : Power) : Type 0 where
  pub i : ℕ
  pub j : ℕ
  pub i_fits : i ≤ k
  pub j_fits : j ≤ k
  pub p_is : x.p ≡ g.p * l + i
  pub q_is : x.q ≡ times g.q l +ℤ pos j

swap : (x y : ℤ) (i j : ℕ) → (x +ℤ pos i) +ℤ (y +ℤ pos j) ≡ (x +ℤ y) +ℤ pos (i + j)
swap x y i j =
    +ℤ_assoc x (pos i) (y +ℤ pos j)
    ∙ ap (λ z. x +ℤ z) (sym (+ℤ_assoc (pos i) y (pos j)) ∙ ap (λ z. z +ℤ pos j) (+ℤ_comm (pos i) y) ∙ +ℤ_assoc y (pos i) (pos j))
    ∙ sym (+ℤ_assoc x y (pos (i + j)))

rounded-plus : (l k k' : ℕ) (x g y h : Power) → Rounded l k x g → Rounded l k' y h → Rounded l (k + k') (plus x y) (plus g h)
rounded-plus l k k' x g y h a b =
    record {
      i = a.i + b.i;
      j = a.j + b.j;
      i_fits = omega (arith, a.i_fits, b.i_fits);
      j_fits = omega (arith, a.j_fits, b.j_fits);
      p_is = omega (arith, a.p_is, b.p_is);
      q_is =
          ap₂ ◌+ℤ◌ a.q_is b.q_is
          ∙ swap (times g.q l) (times h.q l) a.j b.j
          ∙ ap (λ z. z +ℤ pos (a.j + b.j)) (sym (times-add g.q h.q l));
    }

neg_rounded : (n m j : ℕ) → m ≡ suc n + j → negsuc n ≡ neg_ℤ (pos m) +ℤ pos j
neg_rounded n m j e =
    as_sub (negsuc n)
    ∙ sub_same 0 (suc n) (0 + j) (m + 0) (omega arith)
    ∙ sym (sub-add 0 m j 0)
    ∙ ap₂ ◌+ℤ◌ (sym (neg_sub m)) (sym (as_sub (pos j)))

q-rounded : (l : ℕ) → 0 < l → (q : ℤ) → (j : ℕ) × (j ≤ l - 1) × (q ≡ times (floor_div q l) l +ℤ pos j)
q-rounded l h (pos n) = (n % l, omega (arith, mod-lt n h), ap {B = ℤ} pos (sym (div-add-mod' n l)))
q-rounded l h (negsuc n) =
    (l - 1 - n % l, omega arith, neg_rounded n (suc (n / l) * l) (l - 1 - n % l) (omega (arith, div-add-mod' n l, mod-lt n h)))

rounded_one : (l : ℕ) → 0 < l → (x : Power) → Rounded l (l - 1) x (grid_of l x)
rounded_one l h x =
    record {
      i = x.p % l;
      j = (q-rounded l h x.q).0;
      i_fits = omega (arith, mod-lt x.p h);
      j_fits = (q-rounded l h x.q).1;
      p_is = sym (div-add-mod' x.p l);
      q_is = (q-rounded l h x.q).2;
    }

-- each power is rounded first: the sums of n powers are off by at most n (L - 1)
pub rounded-choice : (s : Slot) → 0 < s.step → (c : Choice) → Rounded s.step (length c * (s.step - 1)) (sum_in s.place c) (grid_in s c)
rounded-choice s h [] = record { i = 0; j = 0; i_fits = omega arith; j_fits = omega arith; p_is = omega arith; q_is = ap {B = ℤ} pos (omega arith) }
rounded-choice s h (v ∷ c) =
    subst (λ k. Rounded s.step k (sum_in s.place (v ∷ c)) (grid_in s (v ∷ c))) (omega arith)
    (rounded-plus s.step (s.step - 1) (length c * (s.step - 1)) (power_in s.place v) (grid_of s.step (power_in s.place v)) (sum_in s.place c) (grid_in s c)
    (rounded_one s.step h (power_in s.place v))
    (rounded-choice s h c))

-- a slot whose limit the true sums keep is admitted
pub fits-admits : (s : Slot) (c : Choice) → 0 < s.step → length c ≤ s.loads → apparent_squared (sum_in s.place c) ≤ square s.limit → T (admits s (grid_in s c))
fits-admits s c h n k = admits_of s (grid_in s c) (go (rounded-choice s h c))
  where
    spread : length c * (s.step - 1) ≤ spread_of s
    spread = mul-le-mul_right (s.step - 1) n

    go : Rounded s.step (length c * (s.step - 1)) (sum_in s.place c) (grid_in s c) → Admissible s (grid_in s c)
    go r =
        record {
          i = r.i;
          j = r.j;
          i_fits = le_trans r.i_fits spread;
          j_fits = le_trans r.j_fits spread;
          inside = subst (λ m. m ≤ square s.limit) (ap₂ ◌+◌ (ap square r.p_is) (ap squareℤ r.q_is)) k;
        }

slots_from_lem : (n d r i : ℕ) (ss : List ℕ) → SlotsFor r n (slots_from n d r i ss)
slots_from_lem n d r i [] = tt
slots_from_lem n d r i (s ∷ ss) = ((le-max_left 1 (s / (n * d)), refl, refl), slots_from_lem n d r (suc i) ss)

pub slots-for : (b : Problem) → SlotsFor b.ratio (length b.loads) (slots_of b)
unfolding slots_of
slots-for b = slots_from_lem (length b.loads) b.fineness b.ratio 0 b.limits

-- A CHOICE THAT KEEPS EVERY LIMIT IS ADMITTED
pub keeps-admitted : (r n : ℕ) (slots : List Slot) → SlotsFor r n slots → (c : Choice) → length c ≤ n → T (keeps_limits slots c) → T (admitted slots c)
keeps-admitted r n [] z c e t = tt
keeps-admitted r n (s ∷ slots) z c e t =
    go (both (leb (apparent_squared (sum_in s.place c)) (square s.limit)) (keeps_limits slots c) t)
    (λ u. keeps-admitted r n slots z.1 c e u)
  where
    go : T (leb (apparent_squared (sum_in s.place c)) (square s.limit)) × T (keeps_limits slots c)
        → (T (keeps_limits slots c) → T (admitted slots c)) → T (admitted (s ∷ slots) c)
    go p rest =
        each (admits s (grid_in s c)) (admitted slots c)
        (fits-admits s c z.0.0 (omega (arith, e, z.0.1)) (leb→le _ _ p.0))
        (rest p.1)

-- an admitted grid pair has a ≤ R
pub admits_range : (s : Slot) (g : Power) → 0 < s.step → T (admits s g) → g.p ≤ grid_top s
admits_range s g h t = (le-div_iff_mul-le h).1 (sq_cancel (g.p * s.step) s.limit (le_trans (le-add_right _ _) (leb→le _ _ t)))
