-- The table of refusals: what a result that came through it tells, that no refusal has number 0, and how large its number and its line can be
-- in a table or a result.
-- Assumes nothing.
use mathlib.Core.Path.{◌≡◌, refl, sym, ap, ◌∙◌, subst}
use mathlib.Core.Bool.{Bool, true, false, cond}
use mathlib.Core.List.{List, [], ◌∷◌}
use Prim.Native.Nat.{ℕ, ◌≤◌}
use native.Mathlib.Omega.{arith}
use Rattle.model.specs.declared.Refusal.{Refusal}
use Rattle.model.specs.declared.Refusal.TheVariants.{Unterminated, NotHex, WrongKind, SlotsOrOptionsOutOfRange, WrongLength, LoadsOrFinenessOutOfRange, ReactiveExceedsActive, TrailingBytes, TooManyCells, WorkTooSmall, BufferTooSmall, BudgetExceeded, ForeignSheet, WrongPriceCount, WrongNames, NamedLoadStands, NoPlan, TooManyBooks, OutputTooLong, TooCoarse, SlotsOrFinenessDiffer, TooManyLoads, LimitSumTooLarge}
use Rattle.std.specs.Prelude.{Ok, Err}
use Rattle.model.specs.Lists.{Every}
use Rattle.model.specs.Refusals.{Finding, Result, refused, done, Rule, ◌⇒◌, first, checked, and_then, number_of}

-- ---- results

module _ {A : Type 0} where
  IsDone : Result A → Type 0
  IsDone (refused r number) = ⊥
  IsDone (done x) = Unit {0}

  pub refused-done : (r : Refusal) (number : ℕ) (x : A) → Path (Result A) (refused r number) (done x) → ⊥
  unfolding IsDone
  refused-done r number x e = subst IsDone (sym e) tt

  pub done-same : (x y : A) → Path (Result A) (done x) (done y) → x ≡ y
  done-same x y e = cc

  pub checked-done : (number : ℕ) (f : Finding) (x : Result A) (y : A) → checked number f x ≡ done y → (f ≡ Ok tt) × (x ≡ done y)
  checked-done number (Ok tt) x y e = (refl, e)
  checked-done number (Err r) x y e = absurd (refused-done r number y e)

module _ {A B : Type 0} where
  pub then_done : (x : Result A) (f : A → Result B) (y : B) → and_then x f ≡ done y → (a : A) × (x ≡ done a) × (f a ≡ done y)
  then_done (refused r number) f y e = absurd (refused-done r number y e)
  then_done (done a) f y e = (a, refl, e)

-- ---- the table

-- no row applies
abbrev pub NoneApplies : List Rule → Type 0
NoneApplies rs = Every (λ r. r.applies ≡ false) rs

IsPassed : Finding → Type 0
IsPassed (Ok tt) = Unit {0}
IsPassed (Err r) = ⊥

refused_passed : (r : Refusal) → Path Finding (Err r) (Ok tt) → ⊥
unfolding IsPassed
refused_passed r e = subst IsPassed (sym e) tt

refused-same : (r s : Refusal) → Path Finding (Err r) (Err s) → r ≡ s
refused-same r s e = cc

pub first_passed : (rs : List Rule) → first rs ≡ Ok tt → NoneApplies rs
unfolding first
first_passed [] e = tt
first_passed (r ∷ rs) e = go r.applies refl e (first_passed rs)
  where
    go : (t : Bool) → r.applies ≡ t → cond t (Err r.refusal) (first rs) ≡ Ok tt
        → (first rs ≡ Ok tt → NoneApplies rs) → (r.applies ≡ false) × NoneApplies rs
    go true q e rest = absurd (refused_passed r.refusal e)
    go false q e rest = (q, rest e)

-- a row that applies decides, and one that does not leaves it to the rest
pub first_here : (r : Refusal) (rs : List Rule) (t : Bool) → t ≡ true → first ((t ⇒ r) ∷ rs) ≡ Err r
unfolding first
first_here r rs t e = rw e

pub first_next : (r : Refusal) (rs : List Rule) (t : Bool) → t ≡ false → first ((t ⇒ r) ∷ rs) ≡ first rs
unfolding first
first_next r rs t e = rw e

pub first_last : (r : Refusal) (t : Bool) → t ≡ false → first ((t ⇒ r) ∷ []) ≡ Ok tt
unfolding first
first_last r t e = rw e

pub first-none : (rs : List Rule) → NoneApplies rs → first rs ≡ Ok tt
unfolding first
first-none [] h = refl
first-none (r ∷ rs) h = ap (λ t. cond t (Err r.refusal) (first rs)) h.0 ∙ first-none rs h.1

-- ---- numbers

pub number-some : (r : Refusal) → number_of r ≡ 0 → ⊥
number-some Unterminated e = omega arith
number-some NotHex e = omega arith
number-some WrongKind e = omega arith
number-some SlotsOrOptionsOutOfRange e = omega arith
number-some WrongLength e = omega arith
number-some LoadsOrFinenessOutOfRange e = omega arith
number-some ReactiveExceedsActive e = omega arith
number-some TrailingBytes e = omega arith
number-some TooManyCells e = omega arith
number-some WorkTooSmall e = omega arith
number-some BufferTooSmall e = omega arith
number-some BudgetExceeded e = omega arith
number-some ForeignSheet e = omega arith
number-some WrongPriceCount e = omega arith
number-some WrongNames e = omega arith
number-some NamedLoadStands e = omega arith
number-some NoPlan e = omega arith
number-some TooManyBooks e = omega arith
number-some OutputTooLong e = omega arith
number-some TooCoarse e = omega arith
number-some SlotsOrFinenessDiffer e = omega arith
number-some TooManyLoads e = omega arith
number-some LimitSumTooLarge e = omega arith

-- a refusal, where there is one, has a number of at most n
module _ (n : ℕ) where
  -- of the rows of a table
  abbrev pub RulesMost : List Rule → Type 0
  RulesMost rs = Every (λ x. number_of x.refusal ≤ n) rs

  pub first_most : (rs : List Rule) (r : Refusal) → RulesMost rs → first rs ≡ Err r → number_of r ≤ n
  unfolding first
  first_most [] r h e = absurd (refused_passed r (sym e))
  first_most (x ∷ rs) r h e = go x.applies e (first_most rs r h.1)
    where
      go : (t : Bool) → cond t (Err x.refusal) (first rs) ≡ Err r → (first rs ≡ Err r → number_of r ≤ n) → number_of r ≤ n
      go true q rest = subst (λ y. number_of y ≤ n) (refused-same x.refusal r q) h.0
      go false q rest = rest q

-- of a result: where it is a refusal, its number is at most n and its line at most m
module _ (n m : ℕ) where
  abbrev pub RefusalMost : {A : Type 0} → Result A → Type 0
  RefusalMost (refused r line) = (number_of r ≤ n) × (line ≤ m)
  RefusalMost (done x) = Unit {0}

  module _ {A : Type 0} where
    pub checked-refusal : (line : ℕ) (rs : List Rule) (x : Result A) → line ≤ m → RulesMost n rs → RefusalMost x → RefusalMost (checked line (first rs) x)
    checked-refusal line rs x l h k = go (first rs) (first_most n rs)
      where
        go : (f : Finding) → ((r : Refusal) → RulesMost n rs → f ≡ Err r → number_of r ≤ n) → RefusalMost (checked line f x)
        go (Ok tt) q = k
        go (Err r) q = (q r h refl, l)

  module _ {A B : Type 0} where
    pub then_refusal : (x : Result A) (f : A → Result B) → RefusalMost x → ((a : A) → RefusalMost (f a)) → RefusalMost (and_then x f)
    then_refusal (refused r line) f h k = h
    then_refusal (done a) f h k = k a
