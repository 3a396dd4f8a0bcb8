-- The best key of the choices that pass a test, as a property, which at most one key has; and that a cell of the table holds the key of a choice.
-- Assumes nothing.
use mathlib.Core.Path.{◌≡◌, refl, ap, subst}
use mathlib.Core.Bool.{Bool, false}
use mathlib.Core.List.{List}
use mathlib.Core.Option.{Option, none, some}
use Prim.Native.Nat.{ℕ}
use lib.Dec.{T}
use Rattle.model.specs.Lists.{keep}
use Rattle.model.specs.Book.{Settings}
use Rattle.model.specs.Choice.{Choice, IsChoice, choices}
use Rattle.model.specs.Grid.{Slot, grids_of, best}
use Rattle.model.specs.Cells.{Key, beats, choice_key, best_where, best_at, has_cell, cell_best}
use Rattle.model.proofs.KeyLaws.{Versus, versus, neither}
use Rattle.model.proofs.RecurrenceLaws.{key?, best_key_lem}
use Rattle.model.proofs.PlanLaws.{kept-sound, kept-best, kept-none}

-- the best of the keys that have a property
abbrev pub BestOf : (Key → Type 0) → Option Key → Type 0
BestOf P none = (k : Key) → P k → ⊥
BestOf P (some k) = P k × ((x : Key) → P x → beats x k ≡ false)

-- two keys of which none beats the other
pub same-best : (j k : Key) → beats k j ≡ false → beats j k ≡ false → j ≡ k
same-best j k a b = neither j k (subst (Versus k j) a (versus k j)) (subst (Versus j k) b (versus j k))

pub best_one : (P : Key → Type 0) (m n : Option Key) → BestOf P m → BestOf P n → m ≡ n
best_one P none none a b = refl
best_one P none (some k) a b = absurd (a k b.0)
best_one P (some j) none a b = absurd (b j a.0)
best_one P (some j) (some k) a b = ap some (same-best j k (a.1 k b.0) (b.1 j a.0))

-- the keys of the choices that pass a test
abbrev pub KeyWhere : (Choice → Bool) → List Settings → Key → Type 0
KeyWhere p loads k = (c : Choice) × IsChoice loads c × T (p c) × (choice_key c ≡ k)

pub where_best : (p : Choice → Bool) (loads : List Settings) → BestOf (KeyWhere p loads) (best_where p (choices loads))
where_best p loads = subst (BestOf (KeyWhere p loads)) (best_key_lem (keep p (choices loads))) (go (best (keep p (choices loads))) refl)
  where
    go : (m : Option Choice) → best (keep p (choices loads)) ≡ m → BestOf (KeyWhere p loads) (key? m)
    go none e = λ k x. kept-none p loads e x.0 x.1 x.2
    go (some d) e = (
      (d, (kept-sound p loads d e).0, (kept-sound p loads d e).1, refl),
      λ k x. subst (λ y. beats y (choice_key d) ≡ false) x.3 (kept-best p loads d e x.0 x.1 x.2),
    )

-- what a cell holds is the key of a choice
pub cell_coded : (slots : List Slot) (loads : List Settings) (i : ℕ) (k : Key) → cell_best slots loads i ≡ some k
    → (c : Choice) × IsChoice loads c × (choice_key c ≡ k)
unfolding best_at
cell_coded slots loads i k e =
    let x : BestOf (KeyWhere (λ c. has_cell slots i (grids_of slots c)) loads) (some k)
    = subst (BestOf (KeyWhere (λ c. has_cell slots i (grids_of slots c)) loads)) e (where_best (λ c. has_cell slots i (grids_of slots c)) loads) in
    (x.0.0, x.0.1, x.0.3)
