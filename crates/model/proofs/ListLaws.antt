-- Laws of tests and of the list functions of specs/Lists.antt.
-- Assumes nothing.
use mathlib.Core.Path.{◌≡◌, refl, sym, ap, ap₂, ◌∙◌, subst}
use mathlib.Core.Logic.{inl, inr, ◌↔◌}
use mathlib.Core.Bool.{Bool, true, false, cond, not, ◌&&◌, ◌||◌, false≢true}
use mathlib.Core.List.{List, [], ◌∷◌, ◌++◌, map, append_assoc, append-nil}
use Prim.Native.Nat.{ℕ, zero, suc, ◌+◌, ◌*◌, ◌<◌, ◌≤◌}
use native.Mathlib.Nat.{le_of_suc-le-suc}
use native.Mathlib.Numerals.{add-one}
use native.Mathlib.Omega.{arith}
use lib.Dec.{T, leb, eqb}
use lib.ListN.{length, get_or, take, drop, set, length-append}
use borrow.Author.Tests.{leb-true, le-leb, eqb-true, eq-eqb}
use Rattle.model.specs.Lists.{within, sum_below, Mem, Every, keep, keep_if, all, any, concat, same_lists}

pub both : (t u : Bool) → T (t && u) → T t × T u
both true true h = (tt, tt)
both true false h = absurd h
both false u h = absurd h

pub each : (t u : Bool) → T t → T u → T (t && u)
each true u a b = b
each false u a b = absurd a

pub both_true : (t u : Bool) → (t && u) ≡ true → (t ≡ true) × (u ≡ true)
both_true true u e = (refl, e)
both_true false u e = absurd (false≢true e)

pub either_false : (t u : Bool) → (t || u) ≡ false → (t ≡ false) × (u ≡ false)
either_false false u e = (refl, e)
either_false true u e = absurd (false≢true (sym e))

pub or_false : (t : Bool) → (t || false) ≡ t
or_false true = refl
or_false false = refl

pub or_true : (t : Bool) → (t || true) ≡ true
or_true true = refl
or_true false = refl

pub not_not : (t : Bool) → not (not t) ≡ t
not_not true = refl
not_not false = refl

-- a rule that asks for two things: the first is not so, the second, or none
pub first_out : (t u : Bool) → not t ≡ true → not (t && u) ≡ true
first_out true u e = absurd (false≢true e)
first_out false u e = refl

pub second_out : (t u : Bool) → not t ≡ false → not u ≡ true → not (t && u) ≡ true
second_out true u e f = f
second_out false u e f = absurd (false≢true (sym e))

pub none_out : (t u : Bool) → not t ≡ false → not u ≡ false → not (t && u) ≡ false
none_out true u e f = f
none_out false u e f = e

-- a test after another that was passed, or was not
pub when_true : (s t : Bool) → s ≡ true → t ≡ (s && t)
when_true s t e = sym (ap (λ x. x && t) e)

pub when_false : (s t : Bool) → s ≡ false → false ≡ (s && t)
when_false s t e = sym (ap (λ x. x && t) e)

pub within-is : (lo hi x : ℕ) → within lo hi x ≡ true → (lo ≤ x) × (x ≤ hi)
within-is lo hi x e =
    let h : (leb lo x ≡ true) × (leb x hi ≡ true) = both_true (leb lo x) (leb x hi) e in
    (leb-true lo x h.0, leb-true x hi h.1)

pub is_within : (lo hi x : ℕ) → lo ≤ x → x ≤ hi → within lo hi x ≡ true
is_within lo hi x a b = ap₂ ◌&&◌ (le-leb lo x a) (le-leb x hi b)

pub bool_same : (t u : Bool) → (T t → T u) → (T u → T t) → t ≡ u
bool_same true true f g = refl
bool_same true false f g = absurd (f tt)
bool_same false true f g = absurd (g tt)
bool_same false false f g = refl

module _ {A : Type 0} where
  keep_if-append : (t : Bool) (x : A) (xs ys : List A) → keep_if t x xs ++ ys ≡ keep_if t x (xs ++ ys)
  keep_if-append true x xs ys = refl
  keep_if-append false x xs ys = refl

  pub keep_append : (p : A → Bool) (xs ys : List A) → keep p (xs ++ ys) ≡ keep p xs ++ keep p ys
  keep_append p [] ys = refl
  keep_append p (x ∷ xs) ys = ap (keep_if (p x) x) (keep_append p xs ys) ∙ sym (keep_if-append (p x) x (keep p xs) (keep p ys))

  -- two tests, one after the other
  pub keep-keep : (p q : A → Bool) (xs : List A) → keep p (keep q xs) ≡ keep (λ x. q x && p x) xs
  keep-keep p q [] = refl
  keep-keep p q (x ∷ xs) = go (q x) (keep-keep p q xs)
    where
      go : (t : Bool) → keep p (keep q xs) ≡ keep (λ y. q y && p y) xs → keep p (keep_if t x (keep q xs)) ≡ keep_if (t && p x) x (keep (λ y. q y && p y) xs)
      go true e = ap (keep_if (p x) x) e
      go false e = e

  pub keep_all : (p : A → Bool) (xs : List A) → ((x : A) → p x ≡ true) → keep p xs ≡ xs
  keep_all p [] h = refl
  keep_all p (x ∷ xs) h = ap₂ (λ t r. keep_if t x r) (h x) (keep_all p xs h)

  pub keep-none : (p : A → Bool) (xs : List A) → Every (λ x. p x ≡ false) xs → keep p xs ≡ []
  keep-none p [] h = refl
  keep-none p (x ∷ xs) h = ap (λ t. keep_if t x (keep p xs)) h.0 ∙ keep-none p xs h.1

  pub all_join : (p : A → Bool) (xs ys : List A) → all p (xs ++ ys) ≡ (all p xs && all p ys)
  all_join p [] ys = refl
  all_join p (x ∷ xs) ys = go (p x) (all_join p xs ys)
    where
      go : (t : Bool) → all p (xs ++ ys) ≡ (all p xs && all p ys) → (t && all p (xs ++ ys)) ≡ ((t && all p xs) && all p ys)
      go true e = e
      go false e = refl

  pub any-join : (p : A → Bool) (xs ys : List A) → any p (xs ++ ys) ≡ (any p xs || any p ys)
  any-join p [] ys = refl
  any-join p (x ∷ xs) ys = go (p x) (any-join p xs ys)
    where
      go : (t : Bool) → any p (xs ++ ys) ≡ (any p xs || any p ys) → (t || any p (xs ++ ys)) ≡ ((t || any p xs) || any p ys)
      go true e = refl
      go false e = e

  pub any-keep : (p q : A → Bool) (xs : List A) → any p (keep q xs) ≡ any (λ x. q x && p x) xs
  any-keep p q [] = refl
  any-keep p q (x ∷ xs) = go (q x) (any-keep p q xs)
    where
      go : (t : Bool) → any p (keep q xs) ≡ any (λ y. q y && p y) xs → any p (keep_if t x (keep q xs)) ≡ ((t && p x) || any (λ y. q y && p y) xs)
      go true e = ap (λ u. p x || u) e
      go false e = e

  pub keep_same : (p q : A → Bool) (xs : List A) → Every (λ x. p x ≡ q x) xs → keep p xs ≡ keep q xs
  keep_same p q [] h = refl
  keep_same p q (x ∷ xs) h = ap₂ (λ t r. keep_if t x r) h.0 (keep_same p q xs h.1)

module _ {A B : Type 0} where
  keep_if-map : (f : A → B) (t : Bool) (x : A) (xs : List A) → keep_if t (f x) (map f xs) ≡ map f (keep_if t x xs)
  keep_if-map f true x xs = refl
  keep_if-map f false x xs = refl

  pub keep-map : (p : B → Bool) (f : A → B) (xs : List A) → keep p (map f xs) ≡ map f (keep (λ x. p (f x)) xs)
  keep-map p f [] = refl
  keep-map p f (x ∷ xs) = ap (keep_if (p (f x)) (f x)) (keep-map p f xs) ∙ keep_if-map f (p (f x)) x (keep (λ y. p (f y)) xs)

  pub all_map : (p : B → Bool) (f : A → B) (xs : List A) → all p (map f xs) ≡ all (λ x. p (f x)) xs
  all_map p f [] = refl
  all_map p f (x ∷ xs) = ap (λ t. p (f x) && t) (all_map p f xs)

-- ---- a property of every element

module _ {A : Type 0} where
  pub every_mem : (P : A → Type 0) (x : A) (xs : List A) → Mem x xs → Every P xs → P x
  every_mem P x [] m h = absurd m
  every_mem P x (y ∷ ys) (inl e) h = subst P (sym e) h.0
  every_mem P x (y ∷ ys) (inr m) h = every_mem P x ys m h.1

  pub every_of_mem : (P : A → Type 0) (xs : List A) → ((x : A) → Mem x xs → P x) → Every P xs
  every_of_mem P [] f = tt
  every_of_mem P (x ∷ xs) f = (f x (inl refl), every_of_mem P xs (λ y m. f y (inr m)))

  pub every_keep : (P : A → Type 0) (p : A → Bool) (xs : List A) → Every P xs → Every (λ x. P x × T (p x)) (keep p xs)
  every_keep P p [] h = tt
  every_keep P p (x ∷ xs) h = go (p x) refl (every_keep P p xs h.1)
    where
      go : (t : Bool) → p x ≡ t → Every (λ y. P y × T (p y)) (keep p xs) → Every (λ y. P y × T (p y)) (keep_if t x (keep p xs))
      go true e rest = ((h.0, subst T (sym e) tt), rest)
      go false e rest = rest

  pub every_kept : (P : A → Type 0) (p : A → Bool) (xs : List A) → Every P (keep p xs) → Every (λ x. T (p x) → P x) xs
  every_kept P p [] h = tt
  every_kept P p (x ∷ xs) h = go (p x) h (every_kept P p xs)
    where
      go : (t : Bool) → Every P (keep_if t x (keep p xs)) → (Every P (keep p xs) → Every (λ y. T (p y) → P y) xs)
          → (T t → P x) × Every (λ y. T (p y) → P y) xs
      go true k rest = ((λ _. k.0), rest k.1)
      go false k rest = ((λ t. absurd t), rest k)

  pub every_imp : (P Q : A → Type 0) → ((x : A) → P x → Q x) → (xs : List A) → Every P xs → Every Q xs
  every_imp P Q f [] h = tt
  every_imp P Q f (x ∷ xs) h = (f x h.0, every_imp P Q f xs h.1)

  pub every_append : (P : A → Type 0) (xs ys : List A) → Every P xs → Every P ys → Every P (xs ++ ys)
  every_append P [] ys a b = b
  every_append P (x ∷ xs) ys a b = (a.0, every_append P xs ys a.1 b)

  pub every_left : (P : A → Type 0) (xs ys : List A) → Every P (xs ++ ys) → Every P xs
  every_left P [] ys h = tt
  every_left P (x ∷ xs) ys h = (h.0, every_left P xs ys h.1)

  pub every_right : (P : A → Type 0) (xs ys : List A) → Every P (xs ++ ys) → Every P ys
  every_right P [] ys h = h
  every_right P (x ∷ xs) ys h = every_right P xs ys h.1

  pub every_get_d : (P : A → Type 0) (xs : List A) (d : A) → P d → Every P xs → (i : ℕ) → P (get_or xs i d)
  every_get_d P [] d p h i = p
  every_get_d P (x ∷ xs) d p h zero = h.0
  every_get_d P (x ∷ xs) d p h (suc i) = every_get_d P xs d p h.1 i

  pub every_at : (P : A → Type 0) (xs : List A) (d : A) → Every P xs → (i : ℕ) → i < length xs → P (get_or xs i d)
  every_at P [] d h i l = absurd (omega arith)
  every_at P (x ∷ xs) d h zero l = h.0
  every_at P (x ∷ xs) d h (suc i) l = every_at P xs d h.1 i (le_of_suc-le-suc l)

  -- a test of all elements
  pub all-is : (p : A → Bool) (xs : List A) → T (all p xs) ↔ Every (λ x. T (p x)) xs
  all-is p xs = (to xs, from xs)
    where
      to : (xs : List A) → T (all p xs) → Every (λ x. T (p x)) xs
      to [] t = tt
      to (x ∷ xs) t = let a : T (p x) × T (all p xs) = both (p x) (all p xs) t in (a.0, to xs a.1)

      from : (xs : List A) → Every (λ x. T (p x)) xs → T (all p xs)
      from [] h = tt
      from (x ∷ xs) h = each (p x) (all p xs) h.0 (from xs h.1)

  pub every_all : (P : A → Type 0) (xs : List A) → ((x : A) → P x) → Every P xs
  every_all P [] h = tt
  every_all P (x ∷ xs) h = (h x, every_all P xs h)

  pub every_take : (P : A → Type 0) (k : ℕ) (xs : List A) → Every P xs → Every P (take k xs)
  every_take P zero xs h = tt
  every_take P (suc k) [] h = tt
  every_take P (suc k) (x ∷ xs) h = (h.0, every_take P k xs h.1)

  pub any_false : (p : A → Bool) (xs : List A) → any p xs ≡ false → Every (λ x. p x ≡ false) xs
  any_false p [] e = tt
  any_false p (x ∷ xs) e =
      let h : (p x ≡ false) × (any p xs ≡ false) = either_false (p x) (any p xs) e in
      (h.0, any_false p xs h.1)

  pub any_none : (p : A → Bool) (xs : List A) → Every (λ x. p x ≡ false) xs → any p xs ≡ false
  any_none p [] h = refl
  any_none p (x ∷ xs) h = ap₂ ◌||◌ h.0 (any_none p xs h.1)

module _ {A B : Type 0} where
  -- two functions with the same values
  pub map_each : (f g : A → B) (xs : List A) → map f xs ≡ map g xs → Every (λ x. f x ≡ g x) xs
  map_each f g [] e = tt
  map_each f g (x ∷ xs) e = (ap (λ ys. get_or ys 0 (f x)) e, map_each f g xs (ap (drop 1) e))

  pub every_map : (P : B → Type 0) (f : A → B) (xs : List A) → Every (λ x. P (f x)) xs → Every P (map f xs)
  every_map P f [] h = tt
  every_map P f (x ∷ xs) h = (h.0, every_map P f xs h.1)

  pub every_image : (P : B → Type 0) (f : A → B) (xs : List A) → ((x : A) → P (f x)) → Every P (map f xs)
  every_image P f xs h = every_map P f xs (every_all (λ x. P (f x)) xs h)

-- ---- members

pub any_mem : (k : ℕ) (xs : List ℕ) → any (eqb k) xs ≡ true → Mem k xs
any_mem k [] e = absurd (false≢true e)
any_mem k (x ∷ xs) e = go (eqb k x) refl e (any_mem k xs)
  where
    go : (t : Bool) → eqb k x ≡ t → (t || any (eqb k) xs) ≡ true → (any (eqb k) xs ≡ true → Mem k xs) → Mem k (x ∷ xs)
    go true q f rest = inl (eqb-true k x q)
    go false q f rest = inr (rest f)

pub mem_any : (k : ℕ) (xs : List ℕ) → Mem k xs → any (eqb k) xs ≡ true
mem_any k [] m = absurd m
mem_any k (x ∷ xs) (inl e) = ap (λ t. t || any (eqb k) xs) (eq-eqb k x e)
mem_any k (x ∷ xs) (inr m) = go (eqb k x) (mem_any k xs m)
  where
    go : (t : Bool) → any (eqb k) xs ≡ true → (t || any (eqb k) xs) ≡ true
    go true e = refl
    go false e = e

-- ---- sums

pub sum_more : (f : ℕ → ℕ) (n : ℕ) → sum_below (n + 1) f ≡ sum_below n f + f n
sum_more f n = rw add-one

pub below_same : (f g : ℕ → ℕ) (n : ℕ) → ((s : ℕ) → s < n → f s ≡ g s) → sum_below n f ≡ sum_below n g
below_same f g zero h = refl
below_same f g (suc n) h = ap₂ ◌+◌ (below_same f g n (λ s l. h s (omega arith))) (h n (omega arith))

-- ---- lists one after the other, and lists compared

pub length-concat : {A B : Type 0} (f : A → List B) (k : ℕ) → ((x : A) → length (f x) ≡ k) → (xs : List A) → length (concat (map f xs)) ≡ k * length xs
length-concat f k h [] = omega arith
length-concat f k h (x ∷ xs) = length-append (f x) (concat (map f xs)) ∙ (omega (arith, h x, length-concat f k h xs))

pub concat-join : {A : Type 0} (xss yss : List (List A)) → concat (xss ++ yss) ≡ concat xss ++ concat yss
concat-join [] yss = refl
concat-join (xs ∷ xss) yss = ap (λ r. xs ++ r) (concat-join xss yss) ∙ sym (append_assoc xs (concat xss) (concat yss))

pub concat_last : {A : Type 0} (xss : List (List A)) (ys : List A) → concat (xss ++ (ys ∷ [])) ≡ concat xss ++ ys
concat_last xss ys = concat-join xss (ys ∷ []) ∙ ap (λ r. concat xss ++ r) (append-nil ys)

-- of the elements that pass a test, one after the other
pub concat-keep : {A B : Type 0} (p : A → Bool) (f : A → List B) (xs : List A) → concat (map f (keep p xs)) ≡ concat (map (λ x. cond (p x) (f x) []) xs)
concat-keep p f [] = refl
concat-keep {B = B} p f (x ∷ xs) = go (p x) (concat-keep p f xs)
  where
    go : (t : Bool) → concat (map f (keep p xs)) ≡ concat (map (λ y. cond (p y) (f y) []) xs)
        → concat (map f (keep_if t x (keep p xs))) ≡ cond t (f x) [] ++ concat (map (λ y. cond (p y) (f y) []) xs)
    go true e = ap (λ (r : List B). f x ++ r) e
    go false e = e

pub same_eq : (xs ys : List ℕ) → same_lists eqb xs ys ≡ true → xs ≡ ys
same_eq [] [] e = refl
same_eq [] (y ∷ ys) e = absurd (false≢true e)
same_eq (x ∷ xs) [] e = absurd (false≢true e)
same_eq (x ∷ xs) (y ∷ ys) e =
    let h : (eqb x y ≡ true) × (same_lists eqb xs ys ≡ true) = both_true (eqb x y) (same_lists eqb xs ys) e in
    ap₂ {C = List ℕ} (λ z r. z ∷ r) (eqb-true x y h.0) (same_eq xs ys h.1)

pub same_refl : (xs : List ℕ) → same_lists eqb xs xs ≡ true
same_refl [] = refl
same_refl (x ∷ xs) = ap₂ ◌&&◌ (eq-eqb x x refl) (same_refl xs)

pub every_set : {A : Type 0} (P : A → Type 0) (xs : List A) (k : ℕ) (x : A) → Every P xs → P x → Every P (set xs k x)
every_set P [] k x h p = tt
every_set P (y ∷ ys) zero x h p = (p, h.1)
every_set P (y ∷ ys) (suc k) x h p = (h.0, every_set P ys k x h.1 p)

-- after a store: the stored value at its place, and elsewhere what was there
pub at_set : {A : Type 0} (P : A → Type 0) (xs : List A) (i k : ℕ) (x d : A) → k < length xs → (k ≡ i → P x) → ((k ≡ i → ⊥) → P (get_or xs k d))
    → P (get_or (set xs i x) k d)
at_set P [] i k x d h stored kept = absurd (omega arith)
at_set P (y ∷ ys) zero zero x d h stored kept = stored refl
at_set P (y ∷ ys) zero (suc k) x d h stored kept = kept (λ e. omega arith)
at_set P (y ∷ ys) (suc i) zero x d h stored kept = kept (λ e. omega arith)
at_set P (y ∷ ys) (suc i) (suc k) x d h stored kept =
    at_set P ys i k x d (le_of_suc-le-suc h) (λ e. stored (ap suc e)) (λ n. kept (λ e. n (omega (arith, e))))
