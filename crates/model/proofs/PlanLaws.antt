-- What "the plan" promises: it is a choice of the loads' settings, it is admitted, and no admitted choice is better.
-- A choice that keeps every limit is admitted, so the plan is worth at least as much. Where there is no plan, no choice is admitted.
-- Assumes nothing.
use mathlib.Core.Path.{◌≡◌, refl, sym, ap, ◌∙◌, subst}
use mathlib.Core.Bool.{Bool, true, false, cond}
use mathlib.Core.Logic.{inl, inr, ⊎_elim}
use mathlib.Core.List.{List, [], ◌∷◌, map}
use mathlib.Core.Option.{Option, none, some, none-ne-some, some-ne-none, some-injective}
use Prim.Native.Nat.{suc, ◌≤◌}
use native.Mathlib.Omega.{arith}
use lib.Dec.{T}
use lib.ListN.{length}
use Rattle.model.specs.Lists.{Mem, Every, keep}
use Rattle.model.specs.Book.{Setting, Settings, Problem}
use Rattle.model.specs.Choice.{Choice, IsChoice, choices, with_each, worth_of}
use Rattle.model.specs.Grid.{slots_of, keeps_limits, Admitted, admitted, better, better_of, best, best_admitted, plan, NoBetter, IsPlan}
use Rattle.model.specs.Cells.{Key, beats, better_key, join, best_key, choice_key}
use Rattle.model.proofs.ListLaws.{every_imp, every_keep, every_kept, every_append, every_left, every_right}
use Rattle.model.proofs.KeyLaws.{Versus, versus, more, tie_less, less, tie_more, not_trans, not_both}
use Rattle.model.proofs.RecurrenceLaws.{key?, best_key_lem}
use Rattle.model.proofs.AdmissionLaws.{slots-for, keeps-admitted, admitted-is}

-- ---- choices

-- every choice of the list is one, and every one is in the list
chosen_map : (us vs : Settings) (loads : List Settings) (c : Choice) → ((v : Setting) → Mem v vs → Mem v us) → IsChoice loads c
    → Every (IsChoice (us ∷ loads)) (map (λ v. v ∷ c) vs)
chosen_map us [] loads c f h = tt
chosen_map us (v ∷ vs) loads c f h = ((f v (inl refl), h), chosen_map us vs loads c (λ w m. f w (inr m)) h)

chosen_with : (vs : Settings) (loads : List Settings) (cs : List Choice) → Every (IsChoice loads) cs → Every (IsChoice (vs ∷ loads)) (with_each vs cs)
chosen_with vs loads [] h = tt
chosen_with vs loads (c ∷ cs) h =
    every_append (IsChoice (vs ∷ loads)) (map (λ v. v ∷ c) vs) (with_each vs cs)
    (chosen_map vs vs loads c (λ v m. m) h.0)
    (chosen_with vs loads cs h.1)

pub choices_are : (loads : List Settings) → Every (IsChoice loads) (choices loads)
choices_are [] = (tt, tt)
choices_are (vs ∷ loads) = chosen_with vs loads (choices loads) (choices_are loads)

map_every : (P : Choice → Type 0) (v : Setting) (c : Choice) (vs : Settings) → Mem v vs → Every P (map (λ u. u ∷ c) vs) → P (v ∷ c)
map_every P v c [] m h = absurd m
map_every P v c (u ∷ vs) (inl e) h = subst (λ u. P (u ∷ c)) (sym e) h.0
map_every P v c (u ∷ vs) (inr m) h = map_every P v c vs m h.1

with_every : (P : Choice → Type 0) (v : Setting) (vs : Settings) (cs : List Choice) → Mem v vs → Every P (with_each vs cs) → Every (λ c. P (v ∷ c)) cs
with_every P v vs [] m h = tt
with_every P v vs (c ∷ cs) m h = (
  map_every P v c vs m (every_left P (map (λ u. u ∷ c) vs) (with_each vs cs) h),
  with_every P v vs cs m (every_right P (map (λ u. u ∷ c) vs) (with_each vs cs) h),
)

pub chosen_in : (loads : List Settings) (P : Choice → Type 0) (c : Choice) → IsChoice loads c → Every P (choices loads) → P c
chosen_in [] P [] m h = h.0
chosen_in [] P (v ∷ c) m h = absurd m
chosen_in (vs ∷ loads) P [] m h = absurd m
chosen_in (vs ∷ loads) P (v ∷ c) m h = chosen_in loads (λ d. P (v ∷ d)) c m.1 (with_every P v vs (choices loads) m.0 h)

pub chosen_length : (loads : List Settings) (c : Choice) → IsChoice loads c → length c ≡ length loads
chosen_length [] [] m = refl
chosen_length [] (v ∷ c) m = absurd m
chosen_length (vs ∷ loads) [] m = absurd m
chosen_length (vs ∷ loads) (v ∷ c) m = ap suc (chosen_length loads c m.1)

-- ---- the best of a list

best-sound : (P : Choice → Type 0) (cs : List Choice) (d : Choice) → best cs ≡ some d → Every P cs → P d
best-sound P [] d e h = absurd (none-ne-some d e)
best-sound P (c ∷ cs) d e h = go (best cs) refl e (λ x q. best-sound P cs x q h.1)
  where
    either : (t : Bool) (x : Choice) → P x → P (cond t x c)
    either true x p = p
    either false x p = h.0

    go : (m : Option Choice) → best cs ≡ m → better_of c m ≡ some d → ((x : Choice) → best cs ≡ some x → P x) → P d
    go none q e rest = subst P (some-injective c d e) h.0
    go (some x) q e rest = subst P (some-injective (cond (better x c) x c) d e) (either (better x c) x (rest x q))

v : (a b : Key) (t : Bool) → beats a b ≡ t → Versus a b t
v a b t e = subst (Versus a b) e (versus a b)

not_beats : (a b : Key) → ((t : Bool) → beats a b ≡ t → T t → ⊥) → beats a b ≡ false
not_beats a b f = go (beats a b) refl
  where
    go : (t : Bool) → beats a b ≡ t → t ≡ false
    go true e = absurd (f true e tt)
    go false e = refl

beats_self : (a : Key) → beats a a ≡ false
beats_self a = not_beats a a go
  where
    go : (t : Bool) → beats a a ≡ t → T t → ⊥
    go true e h = not_both a a (v a a true e) (v a a true e)
    go false e h = h

-- what a better one does not beat, a worse one does not
beats-none : (z y k : Key) → beats z y ≡ false → beats y k ≡ false → beats z k ≡ false
beats-none z y k a b = not_beats z k go
  where
    go : (t : Bool) → beats z k ≡ t → T t → ⊥
    go true e h = not_trans k y z (v y k false b) (v z y false a) (v z k true e)
    go false e h = h

better-left : (x y : Key) → beats x (better_key x y) ≡ false
better-left x y = go (beats y x) refl
  where
    go : (t : Bool) → beats y x ≡ t → beats x (cond t y x) ≡ false
    go true e = not_beats x y (at e)
      where
        at : beats y x ≡ true → (t : Bool) → beats x y ≡ t → T t → ⊥
        at e true q h = not_both x y (v y x true e) (v x y true q)
        at e false q h = h
    go false e = beats_self x

better-right : (x y : Key) → beats y (better_key x y) ≡ false
better-right x y = go (beats y x) refl
  where
    go : (t : Bool) → beats y x ≡ t → beats y (cond t y x) ≡ false
    go true e = beats_self y
    go false e = e

best_key_none : (xs : List Key) → best_key xs ≡ none → Every (λ (x : Key). ⊥) xs
best_key_none [] e = tt
best_key_none (x ∷ xs) e = go (best_key xs) e
  where
    go : (m : Option Key) → join (some x) m ≡ none → ⊥ × Every (λ (x : Key). ⊥) xs
    go none q = absurd (some-ne-none x q)
    go (some y) q = absurd (some-ne-none (better_key x y) q)

pub best_most : (xs : List Key) (k : Key) → best_key xs ≡ some k → Every (λ x. beats x k ≡ false) xs
best_most [] k e = tt
best_most (x ∷ xs) k e = go (best_key xs) refl e (best_most xs)
  where
    go : (m : Option Key) → best_key xs ≡ m → join (some x) m ≡ some k
        → ((y : Key) → best_key xs ≡ some y → Every (λ z. beats z y ≡ false) xs)
        → (beats x k ≡ false) × Every (λ z. beats z k ≡ false) xs
    go none q e rest = (
      subst (λ k. beats x k ≡ false) (some-injective x k e) (beats_self x),
      every_imp (λ (z : Key). ⊥) (λ z. beats z k ≡ false) (λ z f. absurd f) xs (best_key_none xs q),
    )
    go (some y) q e rest =
        let p : better_key x y ≡ k = some-injective (better_key x y) k e in (
          subst (λ k. beats x k ≡ false) p (better-left x y),
          every_imp (λ z. beats z y ≡ false) (λ z. beats z k ≡ false)
              (λ z f. beats-none z y k f (subst (λ k. beats y k ≡ false) p (better-right x y))) xs (rest y q),
        )

every_unmap : (P : Key → Type 0) (cs : List Choice) → Every P (map choice_key cs) → Every (λ c. P (choice_key c)) cs
every_unmap P [] h = tt
every_unmap P (c ∷ cs) h = (h.0, every_unmap P cs h.1)

-- ---- the best of the choices that pass a test

module _ (p : Choice → Bool) (loads : List Settings) where
  -- it is one of the choices, and passes
  pub kept-sound : (d : Choice) → best (keep p (choices loads)) ≡ some d → IsChoice loads d × T (p d)
  kept-sound d e =
      best-sound (λ c. IsChoice loads c × T (p c)) (keep p (choices loads)) d e (every_keep (IsChoice loads) p (choices loads) (choices_are loads))

  -- no choice that passes is of greater worth, or of the same worth and a smaller code
  pub kept-best : (d : Choice) → best (keep p (choices loads)) ≡ some d → (c : Choice) → IsChoice loads c → T (p c) → better c d ≡ false
  kept-best d e c m a =
      chosen_in loads (λ x. T (p x) → better x d ≡ false) c m
      (every_kept (λ x. better x d ≡ false) p (choices loads)
      (every_unmap (λ x. beats x (choice_key d) ≡ false) (keep p (choices loads))
      (best_most (map choice_key (keep p (choices loads))) (choice_key d) (sym (best_key_lem (keep p (choices loads))) ∙ ap key? e))))
      a

  -- where there is none, no choice passes
  pub kept-none : best (keep p (choices loads)) ≡ none → (c : Choice) → IsChoice loads c → T (p c) → ⊥
  kept-none e c m a =
      chosen_in loads (λ x. T (p x) → ⊥) c m
      (every_kept (λ x. ⊥) p (choices loads)
      (every_unmap (λ x. ⊥) (keep p (choices loads))
      (best_key_none (map choice_key (keep p (choices loads))) (sym (best_key_lem (keep p (choices loads))) ∙ ap key? e))))
      a

-- the test of the order says what the property does
pub no_better : (d c : Choice) → better d c ≡ false → NoBetter d c
no_better d c = go (better d c) (versus (choice_key d) (choice_key c))
  where
    go : (t : Bool) → Versus (choice_key d) (choice_key c) t → t ≡ false → NoBetter d c
    go true w e = absurd (subst T e tt)
    go false (less a) e = inl a
    go false (tie_more a b) e = inr (sym a, b)

pub not_better : (d c : Choice) → NoBetter d c → better d c ≡ false
not_better d c = go (better d c) (versus (choice_key d) (choice_key c))
  where
    go : (t : Bool) → Versus (choice_key d) (choice_key c) t → NoBetter d c → t ≡ false
    go false w h = refl
    go true (more a) (inl h) = absurd (omega arith)
    go true (more a) (inr h) = absurd (omega (arith, h.0))
    go true (tie_less a f) (inl h) = absurd (omega arith)
    go true (tie_less a f) (inr h) = absurd (omega (arith, h.1))

-- ---- the plan

-- THE PLAN, in document 01's words: the admitted choice of greatest worth; among equals, the smallest code
pub plan-is : (b : Problem) (c : Choice) → plan b ≡ some c → IsPlan b c
unfolding plan best_admitted
plan-is b c e =
    let p : Choice → Bool = admitted (slots_of b) in
    let sound : IsChoice b.loads c × T (admitted (slots_of b) c) = kept-sound p b.loads c e in
    record {
      choice = sound.0;
      admissible = (admitted-is (slots_of b) c).0 sound.1;
      greatest = λ other m h. no_better other c (kept-best p b.loads c e other m ((admitted-is (slots_of b) other).1 h));
    }

-- where there is no plan, no choice is admitted
pub plan-none : (b : Problem) → plan b ≡ none → (c : Choice) → IsChoice b.loads c → Admitted (slots_of b) c → ⊥
unfolding plan best_admitted
plan-none b e c m h = kept-none (admitted (slots_of b)) b.loads e c m ((admitted-is (slots_of b) c).1 h)

-- a choice of the book whose true sums keep every limit is admitted
pub keeps-admissible : (b : Problem) (c : Choice) → IsChoice b.loads c → T (keeps_limits (slots_of b) c) → Admitted (slots_of b) c
keeps-admissible b c m k =
    (admitted-is (slots_of b) c).0
    (keeps-admitted b.ratio (length b.loads) (slots_of b) (slots-for b) c (omega (arith, chosen_length b.loads c m)) k)

-- THE WORTH: a choice whose true sums keep every limit is worth no more than the plan
pub plan-worth : (b : Problem) (d : Choice) → plan b ≡ some d
    → (c : Choice) → IsChoice b.loads c → T (keeps_limits (slots_of b) c) → worth_of c ≤ worth_of d
plan-worth b d e c m k =
    ⊎_elim (λ l. omega arith) (λ q. omega (arith, q.0))
    ((plan-is b d e).greatest c m (keeps-admissible b c m k))
