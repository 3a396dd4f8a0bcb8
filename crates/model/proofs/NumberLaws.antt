-- The numbers of a load's settings, which go up by one from its least: the setting with a number, and its place in the list.
-- Assumes nothing.
use mathlib.Core.Path.{◌≡◌, refl, sym, ap, ◌∙◌, subst}
use mathlib.Core.Bool.{Bool, true, false, cond}
use mathlib.Core.Logic.{◌⊎◌, inl, inr}
use mathlib.Core.List.{List, [], ◌∷◌}
use mathlib.Core.Option.{Option, none, some, none-ne-some, some-injective}
use Prim.Native.Nat.{ℕ, zero, suc, ◌+◌, ◌-◌, ◌<◌, ◌≤◌}
use native.Mathlib.Nat.{add-zero, le_of_suc-le-suc}
use native.Mathlib.Omega.{arith}
use lib.Dec.{eqb}
use lib.ListN.{length, get_or}
use borrow.Author.Tests.{eq-eqb, ne_eqb}
use Rattle.model.specs.Lists.{Mem, Every}
use Rattle.model.specs.Book.{Setting, Settings}
use Rattle.model.specs.Choice.{Choice, IsChoice, setting_numbered, no_setting, setting_or, setting_of, first_setting, least_of}
use Rattle.model.specs.Valid.{Numbered, Labelled, SettingSmall}
use Rattle.model.specs.Values.{Offers}
use Rattle.model.proofs.ListLaws.{every_mem, every_of_mem, every_at}
use Rattle.model.proofs.UptoLaws.{suc_across}
use Rattle.model.proofs.ChoiceLaws.{choice_every}

-- ---- numbers from i on

-- the setting at place k has number i + k
pub numbered_at : (i : ℕ) (vs : Settings) → Numbered i vs → (k : ℕ) → k < length vs → i + k ≡ (get_or vs k no_setting).number
numbered_at i [] h k l = absurd (omega arith)
numbered_at i (v ∷ vs) h zero l = omega (arith, h.0)
numbered_at i (v ∷ vs) h (suc k) l = suc_across i k ∙ numbered_at (suc i) vs h.1 k (le_of_suc-le-suc l)

pub number_from : (i : ℕ) (vs : Settings) (v : Setting) → Numbered i vs → Mem v vs → (i ≤ v.number) × (v.number < i + length vs)
number_from i [] v h m = absurd m
number_from i (u ∷ vs) v h (inl e) = (omega (arith, h.0, ap (λ (x : Setting). x.number) e), omega (arith, h.0, ap (λ (x : Setting). x.number) e))
number_from i (u ∷ vs) v h (inr m) =
    let k : (suc i ≤ v.number) × (v.number < suc i + length vs) = number_from (suc i) vs v h.1 m in
    (omega (arith, k.0), omega (arith, k.1))

-- a setting is found by its number
found : (i : ℕ) (vs : Settings) (v : Setting) → Numbered i vs → Mem v vs → setting_numbered v.number vs ≡ some v
found i [] v h m = absurd m
found i (u ∷ vs) v h (inl e) =
    ap (λ t. cond t (some u) (setting_numbered v.number vs)) (eq-eqb u.number v.number (ap (λ (x : Setting). x.number) (sym e)))
    ∙ ap {B = Option Setting} some (sym e)
found i (u ∷ vs) v h (inr m) =
    ap (λ t. cond t (some u) (setting_numbered v.number vs)) (ne_eqb u.number v.number (λ e. omega (arith, e, h.0, (number_from (suc i) vs v h.1 m).0)))
    ∙ found (suc i) vs v h.1 m

pub found_mem : (n : ℕ) (vs : Settings) (v : Setting) → setting_numbered n vs ≡ some v → Mem v vs
found_mem n [] v e = absurd (none-ne-some v e)
found_mem n (u ∷ vs) v e = go (eqb u.number n) e (found_mem n vs v)
  where
    go : (t : Bool) → cond t (some u) (setting_numbered n vs) ≡ some v → (setting_numbered n vs ≡ some v → Mem v vs) → (v ≡ u) ⊎ Mem v vs
    go true q rest = inl (sym (some-injective u v q))
    go false q rest = inr (rest q)

-- no setting has a number below the first, or past the last
pub none_found : (i : ℕ) (vs : Settings) (c : ℕ) → Numbered i vs → (c < i) ⊎ (i + length vs ≤ c) → setting_numbered c vs ≡ none
none_found i [] c h l = refl
none_found i (v ∷ vs) c h l =
    ap (λ t. cond t (some v) (setting_numbered c vs)) (ne_eqb v.number c (other l)) ∙ none_found (suc i) vs c h.1 (rest l)
  where
    other : (c < i) ⊎ (i + length (v ∷ vs) ≤ c) → v.number ≡ c → ⊥
    other (inl a) e = omega (arith, h.0)
    other (inr a) e = omega (arith, h.0)

    rest : (c < i) ⊎ (i + length (v ∷ vs) ≤ c) → (c < suc i) ⊎ (suc i + length vs ≤ c)
    rest (inl a) = inl (omega arith)
    rest (inr a) = inr (omega arith)

member_at : (vs : Settings) (k : ℕ) → k < length vs → Mem (get_or vs k no_setting) vs
member_at vs k h = every_at (λ v. Mem v vs) vs no_setting (every_of_mem (λ v. Mem v vs) vs (λ v m. m)) k h

-- setting i + k is the one at place k
pub numbered_of : (i : ℕ) (vs : Settings) → Numbered i vs → (k : ℕ) → k < length vs → setting_of vs (i + k) ≡ get_or vs k no_setting
unfolding setting_of
numbered_of i vs h k l =
    ap (λ n. setting_or (setting_numbered n vs)) (numbered_at i vs h k l) ∙ ap setting_or (found i vs (get_or vs k no_setting) h (member_at vs k l))

-- a property of each setting holds of the one with any number
every_of : (P : Setting → Type 0) → P no_setting → (vs : Settings) → Every P vs → (c : ℕ) → P (setting_of vs c)
unfolding setting_of
every_of P d [] h c = d
every_of P d (v ∷ vs) h c = go (eqb v.number c) (every_of P d vs h.1 c)
  where
    go : (t : Bool) → P (setting_or (setting_numbered c vs)) → P (setting_or (cond t (some v) (setting_numbered c vs)))
    go true rest = h.0
    go false rest = rest

no_setting_small : SettingSmall no_setting
no_setting_small = record { worth = omega arith; active = λ s. omega arith; reactive = λ s. omega arith }

pub setting_small : (vs : Settings) → Every SettingSmall vs → (c : ℕ) → SettingSmall (setting_of vs c)
setting_small = every_of SettingSmall no_setting_small

-- ---- a load's numbers

pub numbered-least : (i : ℕ) (vs : Settings) → Numbered i vs → 0 < length vs → least_of vs ≡ i
numbered-least i [] n h = absurd (omega arith)
numbered-least i (v ∷ vs) n h = n.0

-- numbers from 0 or 1 up to 3 at most are a load's
pub labelled_from : (i : ℕ) (vs : Settings) → Numbered i vs → i ≤ 1 → 1 < i + length vs → i + length vs ≤ 4 → Labelled vs
labelled_from i vs n low several few =
    let e : least_of vs ≡ i = numbered-least i vs n (omega arith) in
    record {
      numbered = subst (λ j. Numbered j vs) (sym e) n;
      least = omega arith;
      several = omega arith;
      few = omega arith;
    }

module _ (vs : Settings) (h : Labelled vs) where
  pub at_place : (k : ℕ) → k < length vs → setting_of vs (least_of vs + k) ≡ get_or vs k no_setting
  at_place k l = numbered_of (least_of vs) vs h.numbered k l

  pub offers_one : Offers vs 1
  offers_one = (h.least, h.several)

  pub offers_least : Offers vs (least_of vs)
  offers_least = (omega arith, omega (arith, h.least, h.several))

  -- the setting with the least number is the first
  pub least_first : setting_of vs (least_of vs) ≡ first_setting vs
  least_first = ap (setting_of vs) (sym (add-zero (least_of vs))) ∙ at_place 0 (omega (arith, h.least, h.several))

  module _ (c : ℕ) (o : Offers vs c) where
    place-fits : c - least_of vs < length vs
    place-fits = omega (arith, o)

    offered_at_lem : setting_of vs c ≡ get_or vs (c - least_of vs) no_setting
    offered_at_lem =
        let e : c ≡ least_of vs + (c - least_of vs) = omega (arith, o) in
        ap (setting_of vs) e ∙ at_place (c - least_of vs) place-fits

    pub offered_mem : Mem (setting_of vs c) vs
    offered_mem = subst (λ v. Mem v vs) (sym offered_at_lem) (member_at vs (c - least_of vs) place-fits)

    pub offered-number : (setting_of vs c).number ≡ c
    offered-number =
        ap (λ (v : Setting). v.number) offered_at_lem
        ∙ (omega (arith, o, numbered_at (least_of vs) vs h.numbered (c - least_of vs) place-fits))

    pub offered-few : c < 4
    offered-few = omega (arith, o, h.few)

  module _ (v : Setting) (m : Mem v vs) where
    pub member_offered : Offers vs v.number
    member_offered = number_from (least_of vs) vs v h.numbered m

    pub member_found : setting_numbered v.number vs ≡ some v
    member_found = found (least_of vs) vs v h.numbered m

    pub member_of : setting_of vs v.number ≡ v
    unfolding setting_of
    member_of = ap setting_or member_found

-- a property of each setting holds of the one with an offered number
pub every_offered : (P : Setting → Type 0) (vs : Settings) → Labelled vs → Every P vs → (c : ℕ) → Offers vs c → P (setting_of vs c)
every_offered P vs h k c o = every_mem P (setting_of vs c) vs (offered_mem vs h c o) k

pub number_small : (vs : Settings) (v : Setting) → Labelled vs → Mem v vs → v.number < 4
number_small vs v h m = offered-few vs h v.number (member_offered vs h v m)

pub numbers-small : (loads : List Settings) (c : Choice) → Every Labelled loads → IsChoice loads c → Every (λ v. v.number < 4) c
numbers-small loads c h m = choice_every Labelled (λ v. v.number < 4) number_small loads c h m
