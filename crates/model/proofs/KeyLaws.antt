-- The order of plans, by worth and then code, on pairs of those two numbers: the better of two is associative and commutative, and a
-- step that adds the same to both sides keeps it. So the best of a list does not depend on how the list is made.
-- Assumes nothing.
use mathlib.Core.Path.{◌≡◌, refl, sym, ap, ◌∙◌, subst}
use mathlib.Core.Bool.{Bool, true, false, cond, ◌&&◌, ◌||◌}
use mathlib.Core.List.{List, [], ◌∷◌, ◌++◌, map}
use mathlib.Core.Option.{Option, none, some}
use Prim.Native.Nat.{ℕ, ◌<◌, ◌≤◌}
use native.Mathlib.Nat.{le_antisymm}
use native.Mathlib.Omega.{arith}
use lib.Dec.{ltb, eqb}
use borrow.Author.Tests.{ltb-true, ltb-false, eqb-true, eqb-false}
use Rattle.model.specs.Cells.{Key, beats, better_key, join, best_key, shift, shift?}

-- what the answer of the test says
pub data Versus (y x : Key) : Bool → Type 0 where
  more : x.worth < y.worth → Versus y x true
  tie_less : x.worth ≡ y.worth → y.code < x.code → Versus y x true
  less : y.worth < x.worth → Versus y x false
  tie_more : x.worth ≡ y.worth → x.code ≤ y.code → Versus y x false

pub lt_of_not : {a b : ℕ} → b ≤ a → (a ≡ b → ⊥) → b < a
lt_of_not h n = omega arith

pub versus : (y x : Key) → Versus y x (beats y x)
versus y x = go (ltb x.worth y.worth) (eqb x.worth y.worth) (ltb y.code x.code) refl refl refl
  where
    go : (a b c : Bool) → ltb x.worth y.worth ≡ a → eqb x.worth y.worth ≡ b → ltb y.code x.code ≡ c
        → Versus y x (a || (b && c))
    go true b c ea eb ec = more (ltb-true _ _ ea)
    go false true true ea eb ec = tie_less (eqb-true _ _ eb) (ltb-true _ _ ec)
    go false true false ea eb ec = tie_more (eqb-true _ _ eb) (ltb-false _ _ ec)
    go false false c ea eb ec = less (lt_of_not (ltb-false _ _ ea) (eqb-false _ _ eb))

-- the facts decide the answer
pub trans : (x y z : Key) → Versus y x true → Versus z y true → Versus z x false → ⊥
trans x y z (more a) (more b) (less c) = omega arith
trans x y z (more a) (more b) (tie_more c e) = omega arith
trans x y z (more a) (tie_less b d) (less c) = omega arith
trans x y z (more a) (tie_less b d) (tie_more c e) = omega arith
trans x y z (tie_less a f) (more b) (less c) = omega arith
trans x y z (tie_less a f) (more b) (tie_more c e) = omega arith
trans x y z (tie_less a f) (tie_less b d) (less c) = omega arith
trans x y z (tie_less a f) (tie_less b d) (tie_more c e) = omega arith

pub not_trans : (x y z : Key) → Versus y x false → Versus z y false → Versus z x true → ⊥
not_trans x y z (less a) (less b) (more c) = omega arith
not_trans x y z (less a) (less b) (tie_less c e) = omega arith
not_trans x y z (less a) (tie_more b d) (more c) = omega arith
not_trans x y z (less a) (tie_more b d) (tie_less c e) = omega arith
not_trans x y z (tie_more a f) (less b) (more c) = omega arith
not_trans x y z (tie_more a f) (less b) (tie_less c e) = omega arith
not_trans x y z (tie_more a f) (tie_more b d) (more c) = omega arith
not_trans x y z (tie_more a f) (tie_more b d) (tie_less c e) = omega arith

pub not_both : (x y : Key) → Versus y x true → Versus x y true → ⊥
not_both x y (more a) (more b) = omega arith
not_both x y (more a) (tie_less b d) = omega arith
not_both x y (tie_less a c) (more b) = omega arith
not_both x y (tie_less a c) (tie_less b d) = omega arith

pub neither : (x y : Key) → Versus y x false → Versus x y false → x ≡ y
neither x y (less a) (less b) = absurd (omega arith)
neither x y (less a) (tie_more b d) = absurd (omega arith)
neither x y (tie_more a c) (less b) = absurd (omega arith)
neither x y (tie_more a c) (tie_more b d) = λ i. record { worth = a i; code = le_antisymm c d i }

pub better_assoc : (x y z : Key) → better_key x (better_key y z) ≡ better_key (better_key x y) z
better_assoc x y z = go (beats y x) (beats z y) (beats z x) refl refl refl
  where
    v : (a b : Key) (t : Bool) → beats a b ≡ t → Versus a b t
    v a b t e = subst (Versus a b) e (versus a b)

    go : (p q r : Bool) → beats y x ≡ p → beats z y ≡ q → beats z x ≡ r
        → better_key x (cond q z y) ≡ better_key (cond p y x) z
    go true true true ep eq er = ap (λ t. cond t z x) er ∙ sym (ap (λ t. cond t z y) eq)
    go true true false ep eq er = absurd (trans x y z (v y x true ep) (v z y true eq) (v z x false er))
    go true false r ep eq er = ap (λ t. cond t y x) ep ∙ sym (ap (λ t. cond t z y) eq)
    go false true r ep eq er = refl
    go false false true ep eq er = absurd (not_trans x y z (v y x false ep) (v z y false eq) (v z x true er))
    go false false false ep eq er = ap (λ t. cond t y x) ep ∙ sym (ap (λ t. cond t z x) er)

pub better_comm : (x y : Key) → better_key x y ≡ better_key y x
better_comm x y = go (beats y x) (beats x y) (versus y x) (versus x y)
  where
    go : (p q : Bool) → Versus y x p → Versus x y q → cond p y x ≡ cond q x y
    go true true a b = absurd (not_both x y a b)
    go true false a b = refl
    go false true a b = refl
    go false false a b = neither x y a b

pub join-none : (x : Option Key) → join x none ≡ x
join-none none = refl
join-none (some x) = refl

pub join_assoc : (x y z : Option Key) → join x (join y z) ≡ join (join x y) z
join_assoc none y z = refl
join_assoc (some x) none z = refl
join_assoc (some x) (some y) none = refl
join_assoc (some x) (some y) (some z) = ap some (better_assoc x y z)

pub join_comm : (x y : Option Key) → join x y ≡ join y x
join_comm none y = sym (join-none y)
join_comm (some x) none = refl
join_comm (some x) (some y) = ap some (better_comm x y)

pub best-append : (xs ys : List Key) → best_key (xs ++ ys) ≡ join (best_key xs) (best_key ys)
best-append [] ys = refl
best-append (x ∷ xs) ys = ap (join (some x)) (best-append xs ys) ∙ join_assoc (some x) (best_key xs) (best_key ys)

shift-beats : (w k : ℕ) (y x : Key) → beats (shift w k y) (shift w k x) ≡ beats y x
shift-beats w k y x = go (beats y x) (versus y x) (beats (shift w k y) (shift w k x)) (versus (shift w k y) (shift w k x))
  where
    go : (p : Bool) → Versus y x p → (q : Bool) → Versus (shift w k y) (shift w k x) q → q ≡ p
    go true (more a) true b = refl
    go true (more a) false (less b) = absurd (omega arith)
    go true (more a) false (tie_more b d) = absurd (omega arith)
    go true (tie_less a c) true b = refl
    go true (tie_less a c) false (less b) = absurd (omega arith)
    go true (tie_less a c) false (tie_more b d) = absurd (omega arith)
    go false (less a) false b = refl
    go false (less a) true (more b) = absurd (omega arith)
    go false (less a) true (tie_less b d) = absurd (omega arith)
    go false (tie_more a c) false b = refl
    go false (tie_more a c) true (more b) = absurd (omega arith)
    go false (tie_more a c) true (tie_less b d) = absurd (omega arith)

cond-shift : (w k : ℕ) (t : Bool) (y x : Key) → cond t (shift w k y) (shift w k x) ≡ shift w k (cond t y x)
cond-shift w k true y x = refl
cond-shift w k false y x = refl

pub shift-join : (w k : ℕ) (x y : Option Key) → join (shift? w k x) (shift? w k y) ≡ shift? w k (join x y)
shift-join w k none y = refl
shift-join w k (some x) none = refl
shift-join w k (some x) (some y) =
    ap some (ap (λ t. cond t (shift w k y) (shift w k x)) (shift-beats w k y x) ∙ cond-shift w k (beats y x) y x)

pub best-shift : (w k : ℕ) (xs : List Key) → best_key (map (shift w k) xs) ≡ shift? w k (best_key xs)
best-shift w k [] = refl
best-shift w k (x ∷ xs) = ap (join (some (shift w k x))) (best-shift w k xs) ∙ shift-join w k (some x) (best_key xs)
