-- What is found place by place is what the definitions say of the loads: the masks, and refusals 15 and 16.
-- Assumes nothing.
use Prim.Native.Nat.{ℕ, zero, suc, ◌+◌, ◌-◌, ◌*◌, ◌%◌, ◌^◌, ◌<◌, ◌≤◌}
use mathlib.Core.Path.{◌≡◌, refl, sym, ap, ap₂, ◌∙◌}
use mathlib.Core.Bool.{Bool, true, false, cond, not, ◌&&◌, ◌||◌}
use mathlib.Core.List.{List, map}
use native.Mathlib.Nat.{lt_of_le_of_lt, mod-eq_of_lt}
use native.Mathlib.Omega.{arith}
use lib.Bits.{bit_and, and_le_l, and_mod}
use lib.Dec.{eqb}
use lib.ListN.{length, get_or}
use borrow.Author.Tests.{lt-ltb, eq-eqb, ne_eqb}
use Rattle.model.specs.Bounds.{most_loads}
use Rattle.model.specs.Lists.{upto_from, upto, any}
use Rattle.model.specs.Order.{Running, starts, starting, mask_from, and_not, bad_name, wrong_names, blocked, some_blocked}
use Rattle.model.proofs.ListLaws.{not_not, any-keep}
use Rattle.model.proofs.UptoLaws.{from_suc, any_here}
use Rattle.model.proofs.StartLaws.{name_higher}
use Rattle.starts.specs.Places.{running_in, bad_name_at, starts_at, served, blocked_at, NamesInside}

-- ---- masks

-- one load more, from the last down
pub mask_more : (picks : List ℕ) (n k : ℕ) → 0 < k → k ≤ n
    → mask_from (running_in n picks) (suc (k - 1)) (n - (k - 1)) ≡ cond (not (eqb (get_or picks (k - 1) 0) 0)) 1 0 + 2 * mask_from (running_in n picks) (suc k) (n - k)
mask_more picks n k some few =
    let more : n - (k - 1) ≡ suc (n - k) = omega arith in
    let next : suc (k - 1) ≡ k = omega arith in
    ap (mask_from (running_in n picks) (suc (k - 1))) more
    ∙ ap₂ (λ t m. cond (t && not (eqb (get_or picks (k - 1) 0) 0)) 1 0 + 2 * mask_from (running_in n picks) (suc m) (n - k))
    (lt-ltb (k - 1) n (omega arith)) next

-- of masks of 24 bits the complement may be taken in 32
pub wide_and_not : (x y : ℕ) → x < 2 ^ most_loads → y < 2 ^ most_loads → bit_and x (2 ^ 32 - 1 - y) ≡ and_not x y
unfolding and_not
wide_and_not x y hx hy =
    let cut : (2 ^ 32 - 1 - y) % 2 ^ most_loads ≡ 2 ^ most_loads - 1 - y = omega arith in
    sym (mod-eq_of_lt (lt_of_le_of_lt (and_le_l x (2 ^ 32 - 1 - y)) hx))
    ∙ and_mod x (2 ^ 32 - 1 - y) most_loads
    ∙ ap₂ bit_and (mod-eq_of_lt hx) cut

-- ---- load k + 1 is at place k

-- a load that runs
pub runs_at : (n : ℕ) (picks : List ℕ) (k : ℕ) → k < n → running_in n picks (suc k) ≡ not (eqb (get_or picks k 0) 0)
runs_at n picks k l = ap (λ t. t && not (eqb (get_or picks k 0) 0)) (lt-ltb k n l)

-- a load that starts
starts_are : (n : ℕ) (on planned : List ℕ) (k : ℕ) → k < n → starts (running_in n on) (running_in n planned) (suc k) ≡ starts_at on planned k
starts_are n on planned k l =
    ap₂ (λ s t. not s && t) (runs_at n on k l) (runs_at n planned k l)
    ∙ ap (λ t. t && not (eqb (get_or planned k 0) 0)) (not_not (eqb (get_or on k 0) 0))

-- a name whose load stands in the new sheet
blocked-is : (n : ℕ) (planned names : List ℕ) (k : ℕ) → get_or names k 0 ≤ n → blocked (running_in n planned) names (suc k) ≡ not (served planned (get_or names k 0))
blocked-is n planned names k l = go (get_or names k 0) l
  where
    go : (m : ℕ) → m ≤ n → (not (eqb m 0) && not (running_in n planned m)) ≡ not (served planned m)
    go zero h = refl
    go (suc m) h =
        let back : suc m - 1 ≡ m = omega arith in
        ap₂ (λ s t. not s && not t) (ne_eqb (suc m) 0 (λ e. omega arith)) (runs_at n planned m h)
        ∙ sym (ap₂ (λ s j. not (s || not (eqb (get_or planned j 0) 0))) (ne_eqb (suc m) 0 (λ e. omega arith)) back)

-- ---- refusal 15

module _ (n : ℕ) (names : List ℕ) where
  pub names_short : (length names ≡ n → ⊥) → true ≡ wrong_names n names
  unfolding wrong_names
  names_short h = sym (ap (λ t. not t || any (bad_name n names) (upto_from 1 n)) (ne_eqb (length names) n h))

  names_decided : (t : Bool) → length names ≡ n → any (bad_name n names) (map suc (upto n)) ≡ t → t ≡ wrong_names n names
  unfolding wrong_names
  names_decided t e q = sym (ap₂ (λ u xs. not u || any (bad_name n names) xs) (eq-eqb (length names) n e) (from_suc 0 n) ∙ q)

  pub names_bad : (k : ℕ) → length names ≡ n → k < n → bad_name_at n (get_or names k 0) k ≡ true → true ≡ wrong_names n names
  names_bad k e l q = names_decided true e (any_here suc (bad_name n names) n k l q)

  pub names_good : (k : ℕ) → length names ≡ n → k ≡ n → any (bad_name n names) (map suc (upto k)) ≡ false → false ≡ wrong_names n names
  names_good k e f q = names_decided false e (ap (λ m. any (bad_name n names) (map suc (upto m))) (sym f) ∙ q)

-- where 15 does not apply, a name is 0 or that of a load
pub names_inside : (names : List ℕ) → length names ≤ most_loads → wrong_names (length names) names ≡ false → NamesInside names
names_inside names few right = record { few = few; inside = λ k l. go k l (get_or names k 0) refl }
  where
    go : (k : ℕ) → k < length names → (m : ℕ) → get_or names k 0 ≡ m → m ≤ length names
    go k l zero e = omega arith
    go k l (suc m) e = omega (arith, (name_higher (length names) names right (suc k) (omega arith) (omega arith) (λ q. omega arith)).1)

-- ---- refusal 16

module _ (running planned names : List ℕ) where
  abbrev n : ℕ
  n = length names

  abbrev old : Running
  old = running_in (length names) running

  abbrev new : Running
  new = running_in (length names) planned

  -- load k starts, and is blocked
  abbrev pub barred : ℕ → Bool
  barred k = starts old new k && blocked new names k

  module _ (inside : NamesInside names) where
    pub barred_is : (k : ℕ) → k < length names → barred (suc k) ≡ blocked_at running planned (get_or names k 0) k
    barred_is k l = ap₂ ◌&&◌ (starts_are n running planned k l) (blocked-is n planned names k (inside.inside k l))

    blocked_decided : (t : Bool) → any barred (map suc (upto n)) ≡ t → t ≡ some_blocked n old new names
    unfolding some_blocked starting
    blocked_decided t q = sym (any-keep (blocked new names) (starts old new) (upto_from 1 n) ∙ ap (any barred) (from_suc 0 n) ∙ q)

    pub blocked-some : (k : ℕ) → k < length names → blocked_at running planned (get_or names k 0) k ≡ true → true ≡ some_blocked n old new names
    blocked-some k l q = blocked_decided true (any_here suc barred n k l (barred_is k l ∙ q))

    pub blocked-none : (k : ℕ) → k ≡ length names → any barred (map suc (upto k)) ≡ false → false ≡ some_blocked n old new names
    blocked-none k f q = blocked_decided false (ap (λ m. any barred (map suc (upto m))) (sym f) ∙ q)
