-- The choices of some loads and one more; worth and sums of one choice before another; the worth, code, sums and grid pairs of a choice with one more setting;
-- and what each setting of a choice has.
-- Assumes nothing.
use mathlib.Core.Path.{◌≡◌, refl, sym, ap, ap₂, ◌∙◌}
use mathlib.Core.List.{List, [], ◌∷◌, ◌++◌, map, map-map, map-append, append_assoc}
use Prim.Native.Nat.{ℕ, suc, ◌+◌, ◌*◌, ◌^◌, ◌≤◌}
use native.Mathlib.Nat.{add-zero, add_assoc, add_comm, pow-zero, pow-succ'}
use native.Mathlib.Omega.{arith}
use lib.IntN.{+ℤ_idr, +ℤ_assoc, +ℤ_comm}
use lib.ListN.{length}
use Rattle.model.specs.Lists.{Mem, Every}
use Rattle.model.specs.Book.{Power, Setting, Settings, no_power}
use Rattle.model.specs.Choice.{Choice, IsChoice, choices, with_each, worth_of, code_of, plus, power_in, sum_in}
use Rattle.model.specs.Grid.{Slot, grid_in, grids_of}
use Rattle.model.specs.Cells.{setting_grid, setting_grids}

-- ---- the choices of one load more

abbrev pub snoc : Setting → Choice → Choice
snoc v c = c ++ (v ∷ [])

-- each choice, with each setting of one more load at its end
abbrev pub extend_each : Settings → List Choice → List Choice
extend_each [] cs = []
extend_each (v ∷ vs) cs = map (snoc v) cs ++ extend_each vs cs

with_append : (us : Settings) (xs ys : List Choice) → with_each us (xs ++ ys) ≡ with_each us xs ++ with_each us ys
with_append us [] ys = refl
with_append us (c ∷ xs) ys =
    ap (λ (r : List Choice). map (λ u. u ∷ c) us ++ r) (with_append us xs ys)
    ∙ sym (append_assoc (map (λ u. u ∷ c) us) (with_each us xs) (with_each us ys))

with_snoc : (us : Settings) (v : Setting) (cs : List Choice) → with_each us (map (snoc v) cs) ≡ map (snoc v) (with_each us cs)
with_snoc us v [] = refl
with_snoc us v (c ∷ cs) =
    ap₂ (λ (r s : List Choice). r ++ s) (sym (map-map (snoc v) (λ u. u ∷ c) us)) (with_snoc us v cs)
    ∙ sym (map-append (snoc v) (map (λ u. u ∷ c) us) (with_each us cs))

with_extend : (us vs : Settings) (cs : List Choice) → with_each us (extend_each vs cs) ≡ extend_each vs (with_each us cs)
with_extend us [] cs = refl
with_extend us (v ∷ vs) cs =
    with_append us (map (snoc v) cs) (extend_each vs cs)
    ∙ ap₂ (λ (r s : List Choice). r ++ s) (with_snoc us v cs) (with_extend us vs cs)

one_load : (vs : Settings) → with_each vs ([] ∷ []) ≡ extend_each vs ([] ∷ [])
one_load [] = refl
one_load (v ∷ vs) = ap {B = List Choice} (λ r. (v ∷ []) ∷ r) (one_load vs)

pub choices_last : (loads : List Settings) (vs : Settings) → choices (loads ++ (vs ∷ [])) ≡ extend_each vs (choices loads)
choices_last [] vs = one_load vs
choices_last (us ∷ loads) vs = ap (with_each us) (choices_last loads vs) ∙ with_extend us vs (choices loads)

-- ---- every choice of n loads has n settings

abbrev pub Sized : ℕ → List Choice → Type 0
Sized n [] = Unit {0}
Sized n (c ∷ cs) = (length c ≡ n) × Sized n cs

sized_append : (n : ℕ) (xs ys : List Choice) → Sized n xs → Sized n ys → Sized n (xs ++ ys)
sized_append n [] ys a b = b
sized_append n (c ∷ xs) ys a b = (a.0, sized_append n xs ys a.1 b)

sized_map : (n : ℕ) (c : Choice) (vs : Settings) → length c ≡ n → Sized (suc n) (map (λ v. v ∷ c) vs)
sized_map n c [] e = tt
sized_map n c (v ∷ vs) e = (ap suc e, sized_map n c vs e)

sized_with : (n : ℕ) (vs : Settings) (cs : List Choice) → Sized n cs → Sized (suc n) (with_each vs cs)
sized_with n vs [] a = tt
sized_with n vs (c ∷ cs) a = sized_append (suc n) (map (λ v. v ∷ c) vs) (with_each vs cs) (sized_map n c vs a.0) (sized_with n vs cs a.1)

pub choices_sized : (loads : List Settings) → Sized (length loads) (choices loads)
choices_sized [] = (refl, tt)
choices_sized (vs ∷ loads) = sized_with (length loads) vs (choices loads) (choices_sized loads)

-- ---- a choice of some loads before one of others

pub choice-join : (loads others : List Settings) (c d : Choice) → IsChoice loads c → IsChoice others d → IsChoice (loads ++ others) (c ++ d)
choice-join [] others [] d h k = k
choice-join [] others (v ∷ c) d h k = absurd h
choice-join (vs ∷ loads) others [] d h k = absurd h
choice-join (vs ∷ loads) others (v ∷ c) d h k = (h.0, choice-join loads others c d h.1 k)

pub worth-join : (c d : Choice) → worth_of (c ++ d) ≡ worth_of c + worth_of d
worth-join [] d = omega arith
worth-join (v ∷ c) d = omega (arith, worth-join c d)

-- ---- a choice with one more setting

pub worth_last : (c : Choice) (v : Setting) → worth_of (snoc v c) ≡ worth_of c + v.worth
worth_last c v = omega (arith, worth-join c (v ∷ []))

-- the code is the sum of c × 4^(k - 1)
pub code_last : (c : Choice) (v : Setting) → code_of (snoc v c) ≡ code_of c + v.number * 4 ^ length c
code_last [] v = omega (arith, ap (λ x. v.number * x) (pow-zero 4))
code_last (u ∷ c) v =
    ap (λ x. u.number + 4 * x) (code_last c v)
    ∙ (omega (arith, ap (λ x. v.number * x) (pow-succ' 4 (length c))))

pub plus_assoc : (x y z : Power) → plus (plus x y) z ≡ plus x (plus y z)
plus_assoc x y z = λ i. record { p = add_assoc x.p y.p z.p i; q = +ℤ_assoc x.q y.q z.q i }

pub plus_comm : (x y : Power) → plus x y ≡ plus y x
plus_comm x y = λ i. record { p = add_comm x.p y.p i; q = +ℤ_comm x.q y.q i }

pub plus_none : (x : Power) → plus x no_power ≡ x
plus_none x = λ i. record { p = add-zero x.p i; q = +ℤ_idr x.q i }

pub sum-join : (place : ℕ) (c d : Choice) → sum_in place (c ++ d) ≡ plus (sum_in place c) (sum_in place d)
sum-join place [] d = sym (plus_none (sum_in place d)) ∙ plus_comm (sum_in place d) no_power
sum-join place (v ∷ c) d = ap (plus (power_in place v)) (sum-join place c d) ∙ sym (plus_assoc (power_in place v) (sum_in place c) (sum_in place d))

pub sum_last : (place : ℕ) (c : Choice) (v : Setting) → sum_in place (snoc v c) ≡ plus (sum_in place c) (power_in place v)
sum_last place c v = sum-join place c (v ∷ []) ∙ ap (plus (sum_in place c)) (plus_none (power_in place v))

pub grid_last : (s : Slot) (c : Choice) (v : Setting) → grid_in s (snoc v c) ≡ plus (grid_in s c) (setting_grid s v)
grid_last s [] v = plus_comm (setting_grid s v) no_power
grid_last s (u ∷ c) v = ap (plus (setting_grid s u)) (grid_last s c v) ∙ sym (plus_assoc (setting_grid s u) (grid_in s c) (setting_grid s v))

-- slot by slot
abbrev pub plus_each : List Power → List Power → List Power
plus_each [] ys = []
plus_each (x ∷ xs) [] = []
plus_each (x ∷ xs) (y ∷ ys) = plus x y ∷ plus_each xs ys

pub grids_last : (slots : List Slot) (c : Choice) (v : Setting)
    → grids_of slots (snoc v c) ≡ plus_each (grids_of slots c) (setting_grids slots v)
grids_last [] c v = refl
grids_last (s ∷ slots) c v = ap₂ {C = List Power} (λ x r. x ∷ r) (grid_last s c v) (grids_last slots c v)

-- ---- the settings of a choice

-- what each setting of a load has, each setting of a choice has
pub choice_every : (P : Settings → Type 0) (Q : Setting → Type 0) → ((vs : Settings) (v : Setting) → P vs → Mem v vs → Q v)
    → (loads : List Settings) (c : Choice) → Every P loads → IsChoice loads c → Every Q c
choice_every P Q f [] [] h m = tt
choice_every P Q f [] (v ∷ c) h m = absurd m
choice_every P Q f (vs ∷ loads) [] h m = absurd m
choice_every P Q f (vs ∷ loads) (v ∷ c) h m = (f vs v h.0 m.0, choice_every P Q f loads c h.1 m.1)

pub worth_most : (most : ℕ) (c : Choice) → Every (λ v. v.worth ≤ most) c → worth_of c ≤ length c * most
worth_most most [] h = omega arith
worth_most most (v ∷ c) h = omega (arith, h.0, worth_most most c h.1)
