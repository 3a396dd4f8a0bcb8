-- Keys of cells, and offers by ascending digits: there, to replace only by a greater worth is to keep the better of both.
-- Assumes nothing.
use Prim.Native.Nat.{ℕ, zero, suc, ◌+◌, ◌<◌, ◌≤◌, ◌^◌}
use mathlib.Core.Path.{◌≡◌, refl, sym, ap, ap₂, ◌∙◌}
use mathlib.Core.Bool.{Bool, true, false, cond, ◌&&◌, ◌||◌}
use mathlib.Core.Option.{Option, none, some}
use mathlib.Core.Logic.{⊎_elim}
use native.Mathlib.Nat.{add-zero, add-suc}
use native.Mathlib.Omega.{arith}
use borrow.Author.Tests.{ne_eqb, lt-ltb, le-ltb}
use lib.Dec.{ltb, eqb}
use Rattle.model.specs.Cells.{Key, beats, join, shift?, join_upto, Bounded}
use Rattle.table.specs.declared.Cell.{Cell}
use Rattle.table.specs.Table.{key_if, key_of, raised, offered, empty, Room}
use Rattle.model.proofs.IntegerLaws.{split}
use Rattle.rows.specs.Row.{raise, raise_upto}

-- ---- a cell that is offered a choice

abbrev cell : ℕ → ℕ → Cell
cell worth code = record { worth = worth; code = code }

less_suc : (a b : ℕ) → ltb (suc a) (suc b) ≡ ltb a b
less_suc a b =
    ⊎_elim
    (λ (h : a < b). lt-ltb (suc a) (suc b) (omega arith) ∙ sym (lt-ltb a b h))
    (λ (h : b ≤ a). le-ltb (suc a) (suc b) (omega arith) ∙ sym (le-ltb a b h))
    (split a b)

pub key_offered : (old src : Cell) (gain digit : ℕ) → key_of (offered old src gain digit) ≡ raise (key_of old) (shift? gain digit (key_of src))
unfolding key_of offered raised
key_offered old src gain digit = go src.worth old.worth
  where
    both_held : (t : Bool) (w o : ℕ) → key_of (cond t (cell (suc w + gain) (src.code + digit)) (cell (suc o) old.code))
        ≡ some (cond t (record { worth = w + gain; code = src.code + digit }) (record { worth = o; code = old.code }))
    both_held true w o = let e : suc w + gain ≡ suc (w + gain) = omega arith in ap (λ n. key_if n (src.code + digit)) e
    both_held false w o = refl

    go : (w o : ℕ)
        → key_of (cond (eqb w 0) (cell o old.code) (cond (ltb o (w + gain)) (cell (w + gain) (src.code + digit)) (cell o old.code)))
        ≡ raise (key_if o old.code) (shift? gain digit (key_if w src.code))
    go zero zero = refl
    go zero (suc o) = refl
    go (suc w) zero =
        let e : suc w + gain ≡ suc (w + gain) = omega arith in
        let n : eqb (suc w) 0 ≡ false = ne_eqb (suc w) 0 (λ z. omega arith) in
        let t : ltb 0 (suc w + gain) ≡ true = lt-ltb 0 (suc w + gain) (omega arith) in
        rw (n, t, e)
    go (suc w) (suc o) =
        let e : suc w + gain ≡ suc (w + gain) = omega arith in
        let n : eqb (suc w) 0 ≡ false = ne_eqb (suc w) 0 (λ z. omega arith) in
        rw n
        (both_held (ltb (suc o) (suc w + gain)) w o
        ∙ ap (λ t. some (cond t (record { worth = w + gain; code = src.code + digit }) (record { worth = o; code = old.code })))
        (ap (ltb (suc o)) e ∙ less_suc o (w + gain)))

-- a cell that holds little has room
pub bounded_room : (c : Cell) (top unit gain digit : ℕ) → Bounded top unit (key_of c) → top + 1 + gain < 2 ^ 64 → unit + digit ≤ 2 ^ 64 → Room c gain digit
unfolding key_of
bounded_room c top unit gain digit b g d = record { worth_fits = λ h. (go c.worth refl b h).0; code_fits = λ h. (go c.worth refl b h).1 }
  where
    go : (w : ℕ) → c.worth ≡ w → Bounded top unit (key_if w c.code) → 0 < c.worth → (c.worth + gain < 2 ^ 64) × (c.code + digit < 2 ^ 64)
    go zero e k h = absurd (omega arith)
    go (suc w) e k h = (omega (arith, k.0), omega (arith, k.1))

pub key_empty : key_of empty ≡ none
unfolding key_of empty
key_empty = refl

-- ---- codes below d, and codes from d on

abbrev pub Below : ℕ → Option Key → Type 0
Below d none = Unit {0}
Below d (some x) = x.code < d

abbrev pub From : ℕ → Option Key → Type 0
From d none = Unit {0}
From d (some x) = d ≤ x.code

raise-join : (d : ℕ) (x y : Option Key) → Below d x → From d y → raise x y ≡ join x y
raise-join d none y b f = refl
raise-join d (some x) none b f = refl
raise-join d (some x) (some y) b f =
    ap (λ (t : Bool). some (cond t y x)) (go (ltb x.worth y.worth) (eqb x.worth y.worth) ∙ ap (λ (t : Bool). ltb x.worth y.worth || (eqb x.worth y.worth && t)) (sym no))
  where
    no : ltb y.code x.code ≡ false
    no = le-ltb y.code x.code (omega arith)

    go : (a b : Bool) → a ≡ (a || (b && false))
    go true b = refl
    go false true = refl
    go false false = refl

join_below : (d : ℕ) (x y : Option Key) → Below d x → Below d y → Below d (join x y)
join_below d none y b f = f
join_below d (some x) none b f = b
join_below d (some x) (some y) b f = go (beats y x)
  where
    go : (t : Bool) → (cond t y x).code < d
    go true = f
    go false = b

below_up : {d e : ℕ} (x : Option Key) → d ≤ e → Below d x → Below e x
below_up none h b = tt
below_up (some x) h b = omega arith

pub shift_from : (gain digit : ℕ) (x : Option Key) → From digit (shift? gain digit x)
shift_from gain digit none = tt
shift_from gain digit (some x) = omega arith

pub shift_below : (gain digit top unit : ℕ) (x : Option Key) → Bounded top unit x → Below (digit + unit) (shift? gain digit x)
shift_below gain digit top unit none b = tt
shift_below gain digit top unit (some x) b = omega (arith, b.1)

-- offers f 0, f 1, .. whose codes ascend
module _ (f : ℕ → Option Key) (digits : ℕ → ℕ) (unit count : ℕ)
    (from : (n : ℕ) → n < count → From (digits n) (f n)) (below : (n : ℕ) → n < count → Below (digits n + unit) (f n))
    (ascending : (m n : ℕ) → m < n → n < count → digits m + unit ≤ digits n) where
  upto_below : (n d : ℕ) → n ≤ count → ((m : ℕ) → m < n → digits m + unit ≤ d) → Below d (join_upto n f)
  upto_below zero d l h = tt
  upto_below (suc n) d l h =
      join_below d (join_upto n f) (f n) (upto_below n d (omega arith) (λ m k. h m (omega arith))) (below_up (f n) (h n (omega arith)) (below n (omega arith)))

  pub raise-upto : (n : ℕ) → n ≤ count → raise_upto n f none ≡ join_upto n f
  unfolding raise_upto
  raise-upto zero l = refl
  raise-upto (suc n) l =
      ap (λ x. raise x (f n)) (raise-upto n (omega arith))
      ∙ raise-join (digits n) (join_upto n f) (f n) (upto_below n (digits n) (omega arith) (λ m k. ascending m n k (omega arith))) (from n (omega arith))

-- n settings after the first k
pub upto_split : (k n : ℕ) (f : ℕ → Option Key) (x : Option Key) → raise_upto n (λ m. f (k + m)) (raise_upto k f x) ≡ raise_upto (k + n) f x
unfolding raise_upto
upto_split k zero f x = ap (λ m. raise_upto m f x) (sym (add-zero k))
upto_split k (suc n) f x = ap (λ y. raise y (f (k + n))) (upto_split k n f x) ∙ ap (λ m. raise_upto m f x) (sym (add-suc k n))

pub upto-same : (n : ℕ) (f g : ℕ → Option Key) (x : Option Key) → ((m : ℕ) → m < n → f m ≡ g m) → raise_upto n f x ≡ raise_upto n g x
unfolding raise_upto
upto-same zero f g x h = refl
upto-same (suc n) f g x h = ap₂ raise (upto-same n f g x (λ m l. h m (omega arith))) (h n (omega arith))
