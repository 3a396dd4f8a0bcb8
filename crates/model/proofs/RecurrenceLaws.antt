-- The best choice by grid pairs: what one more load does to it, and the plan as the best over a table of cells.
-- `G` is a test on lists of grid pairs: "is this cell's", or "is admitted".
-- Assumes nothing.
use mathlib.Core.Path.{◌≡◌, refl, ap, ap₂, ◌∙◌, fun_ext}
use mathlib.Core.Bool.{Bool, true, false, cond, ◌&&◌}
use mathlib.Core.List.{List, [], ◌∷◌, ◌++◌, map, map-append}
use mathlib.Core.Option.{Option, none, some}
use Prim.Native.Nat.{ℕ, ◌+◌, ◌*◌, ◌^◌}
use lib.ListN.{length}
use Rattle.model.specs.Lists.{keep, keep_if}
use Rattle.model.specs.Book.{Power, Setting, Settings}
use Rattle.model.specs.Choice.{Choice, choices, code_of}
use Rattle.model.specs.Grid.{Slot, grid_in, grids_of, admits, admitted, better, better_of, best, best_admitted}
use Rattle.model.specs.Cells.{Key, join, best_key, shift, shift?, setting_grids, choice_key, best_where, best_at, admits_all}
use Rattle.model.proofs.KeyLaws.{best-append, best-shift}
use Rattle.model.proofs.ListLaws.{keep_append, keep-map}
use Rattle.model.proofs.ChoiceLaws.{snoc, extend_each, choices_last, Sized, choices_sized, worth_last, code_last, plus_each, grids_last}

abbrev pub key? : Option Choice → Option Key
key? none = none
key? (some c) = some (choice_key c)

-- the definitions' best choice has the best key
cond_key : (t : Bool) (d c : Choice) → choice_key (cond t d c) ≡ cond t (choice_key d) (choice_key c)
cond_key true d c = refl
cond_key false d c = refl

better_of_key : (c : Choice) (d : Option Choice) → key? (better_of c d) ≡ join (some (choice_key c)) (key? d)
better_of_key c none = refl
better_of_key c (some d) = ap some (cond_key (better d c) d c)

pub best_key_lem : (cs : List Choice) → key? (best cs) ≡ best_key (map choice_key cs)
best_key_lem [] = refl
best_key_lem (c ∷ cs) = better_of_key c (best cs) ∙ ap (join (some (choice_key c))) (best_key_lem cs)

-- ---- one more load

where_append : (p : Choice → Bool) (xs ys : List Choice) → best_where p (xs ++ ys) ≡ join (best_where p xs) (best_where p ys)
where_append p xs ys =
    ap (λ r. best_key (map choice_key r)) (keep_append p xs ys)
    ∙ ap best_key (map-append choice_key (keep p xs) (keep p ys))
    ∙ best-append (map choice_key (keep p xs)) (map choice_key (keep p ys))

-- setting v after n loads
abbrev pub step : ℕ → Setting → Option Key → Option Key
step n v x = shift? v.worth (v.number * 4 ^ n) x

key_last : (n : ℕ) (v : Setting) (c : Choice) → length c ≡ n → choice_key (snoc v c) ≡ shift v.worth (v.number * 4 ^ n) (choice_key c)
key_last n v c e =
    λ i. record { worth = worth_last c v i; code = (code_last c v ∙ ap (λ k. code_of c + v.number * 4 ^ k) e) i }

keys_last : (n : ℕ) (v : Setting) (p : Choice → Bool) (cs : List Choice) → Sized n cs
    → map choice_key (map (snoc v) (keep p cs)) ≡ map (shift v.worth (v.number * 4 ^ n)) (map choice_key (keep p cs))
keys_last n v p [] z = refl
keys_last n v p (c ∷ cs) z = go (p c) (keys_last n v p cs z.1)
  where
    go : (t : Bool) → map choice_key (map (snoc v) (keep p cs)) ≡ map (shift v.worth (v.number * 4 ^ n)) (map choice_key (keep p cs))
        → map choice_key (map (snoc v) (keep_if t c (keep p cs)))
        ≡ map (shift v.worth (v.number * 4 ^ n)) (map choice_key (keep_if t c (keep p cs)))
    go true rest = ap₂ {C = List Key} (λ x r. x ∷ r) (key_last n v c z.0) rest
    go false rest = rest

where_last : (n : ℕ) (p : Choice → Bool) (v : Setting) (cs : List Choice) → Sized n cs
    → best_where p (map (snoc v) cs) ≡ step n v (best_where (λ c. p (snoc v c)) cs)
where_last n p v cs z =
    ap (λ r. best_key (map choice_key r)) (keep-map p (snoc v) cs)
    ∙ ap best_key (keys_last n v (λ c. p (snoc v c)) cs z)
    ∙ best-shift v.worth (v.number * 4 ^ n) (map choice_key (keep (λ c. p (snoc v c)) cs))

-- the best, over the settings v of one more load, of what `old v` gives
abbrev pub best_over : ℕ → (Setting → Option Key) → Settings → Option Key
best_over n old [] = none
best_over n old (v ∷ vs) = join (step n v (old v)) (best_over n old vs)

where_extend : (n : ℕ) (p : Choice → Bool) (vs : Settings) (cs : List Choice) → Sized n cs
    → best_where p (extend_each vs cs) ≡ best_over n (λ v. best_where (λ c. p (snoc v c)) cs) vs
where_extend n p [] cs z = refl
where_extend n p (v ∷ vs) cs z =
    where_append p (map (snoc v) cs) (extend_each vs cs)
    ∙ ap₂ join (where_last n p v cs z) (where_extend n p vs cs z)

-- THE RECURRENCE: after one more load, the best at G is the best, over its settings v, of the best before it at G with v's grid pairs added
pub best_at_last : (slots : List Slot) (G : List Power → Bool) (loads : List Settings) (vs : Settings)
    → best_at slots G (loads ++ (vs ∷ []))
    ≡ best_over (length loads) (λ v. best_at slots (λ g. G (plus_each g (setting_grids slots v))) loads) vs
unfolding best_at
best_at_last slots G loads vs =
    ap (best_where (λ c. G (grids_of slots c))) (choices_last loads vs)
    ∙ where_extend (length loads) (λ c. G (grids_of slots c)) vs (choices loads) (choices_sized loads)
    ∙ ap (λ old. best_over (length loads) old vs)
    (fun_ext (λ v. ap (λ p. best_where p (choices loads)) (fun_ext (λ c. ap G (grids_last slots c v)))))

-- ---- the plan over the cells

pub admitted_grids : (slots : List Slot) (c : Choice) → admitted slots c ≡ admits_all slots (grids_of slots c)
admitted_grids [] c = refl
admitted_grids (s ∷ slots) c = ap (λ t. admits s (grid_in s c) && t) (admitted_grids slots c)

-- the plan's worth and code are the best at "admitted"
pub plan_key : (slots : List Slot) (loads : List Settings) → key? (best_admitted slots loads) ≡ best_at slots (admits_all slots) loads
unfolding best_at best_admitted
plan_key slots loads =
    best_key_lem (keep (admitted slots) (choices loads))
    ∙ ap (λ p. best_where p (choices loads)) (fun_ext (admitted_grids slots))
