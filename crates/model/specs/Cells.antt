-- What the cells of the table hold: for each list of grid pairs the best choice that has it, by its worth and code. No section of document 01, in
-- which there is no table; that the plan and the trials follow from the cells is shown in proofs/TableLaws.
use Rattle.std.specs.Prelude.{ℕ, zero, suc, ◌+◌, ◌<◌, ◌≤◌, Bool, true, false, cond, ◌&&◌, ◌||◌, List, [], ◌∷◌, map, leb, ltb, eqb}
use Rattle.std.proofs.Math.Option.{Option, none, some}
use Rattle.model.specs.Lists.{keep}
use Rattle.model.specs.Book.{Power, Setting, Settings}
use Rattle.model.specs.Choice.{Choice, choices, worth_of, code_of, power_in}
use Rattle.model.specs.Grid.{Slot, grid_of, grids_of, admits}
use Rattle.model.specs.Trials.{grid_top}
use Rattle.model.specs.Index.{index_of}

-- ---- keys

-- a choice's worth and code
pub record Key : Type 0 where
  pub worth : ℕ
  pub code : ℕ

abbrev pub choice_key : Choice → Key
choice_key c = record { worth = worth_of c; code = code_of c }

-- the order of `better`: y is of greater worth than x, or of the same worth and smaller code (proofs/RecurrenceLaws, `best_key_lem`)
abbrev pub beats : Key → Key → Bool
beats y x = ltb x.worth y.worth || (eqb x.worth y.worth && ltb y.code x.code)

-- the better of two, the first of two that are equal
abbrev pub better_key : Key → Key → Key
better_key x y = cond (beats y x) y x

-- of two that may be missing
abbrev pub join : Option Key → Option Key → Option Key
join none y = y
join (some x) none = some x
join (some x) (some y) = some (better_key x y)

-- the best of a list
abbrev pub best_key : List Key → Option Key
best_key [] = none
best_key (x ∷ xs) = join (some x) (best_key xs)

-- a key whose code passes a test, or none
abbrev pub passing : (ℕ → Bool) → Option Key → Option Key
passing t none = none
passing t (some x) = cond (t x.code) (some x) none

-- the best of f 0 to f (n - 1)
abbrev pub join_upto : ℕ → (ℕ → Option Key) → Option Key
join_upto zero f = none
join_upto (suc n) f = join (join_upto n f) (f n)

-- ---- keys and marks of cells

-- a worth and a code added to a key
abbrev pub shift : ℕ → ℕ → Key → Key
shift w k x = record { worth = x.worth + w; code = x.code + k }

abbrev pub shift? : ℕ → ℕ → Option Key → Option Key
shift? w k none = none
shift? w k (some x) = some (shift w k x)

-- worth at most w, and code below c
abbrev pub Bounded : ℕ → ℕ → Option Key → Type 0
Bounded w c none = Unit {0}
Bounded w c (some x) = (x.worth ≤ w) × (x.code < c)

abbrev pub is_some : Option Key → Bool
is_some none = false
is_some (some x) = true

-- how many of 0 to n - 1 are marked
abbrev pub count_upto : ℕ → (ℕ → Bool) → ℕ
count_upto zero m = 0
count_upto (suc n) m = count_upto n m + cond (m n) 1 0

-- ---- lists of grid pairs

-- the grid pairs of a setting
abbrev pub setting_grid : Slot → Setting → Power
setting_grid s v = grid_of s.step (power_in s.place v)

abbrev pub setting_grids : List Slot → Setting → List Power
setting_grids slots v = map (λ s. setting_grid s v) slots

-- every slot admits its pair, as `admitted` has it of a choice (proofs/RecurrenceLaws, `admitted_grids`)
abbrev pub admits_all : List Slot → List Power → Bool
admits_all [] gs = true
admits_all (s ∷ slots) [] = true
admits_all (s ∷ slots) (g ∷ gs) = admits s g && admits_all slots gs

-- every pair has a ≤ R, as `inRange` has it of a choice (proofs/TableLaws, `range_grids`)
abbrev pub range_all : List Slot → List Power → Bool
range_all [] gs = true
range_all (s ∷ slots) [] = true
range_all (s ∷ slots) (g ∷ gs) = leb g.p (grid_top s) && range_all slots gs

-- ---- what a cell holds

-- the best key of the choices that pass a test
abbrev pub best_where : (Choice → Bool) → List Choice → Option Key
best_where p cs = best_key (map choice_key (keep p cs))

-- the best key among the choices of the loads whose grid pairs pass a test
unfoldable pub best_at : List Slot → (List Power → Bool) → List Settings → Option Key
best_at slots G loads = best_where (λ c. G (grids_of slots c)) (choices loads)

-- the pairs are in range, and theirs is cell i
abbrev pub has_cell : List Slot → ℕ → List Power → Bool
has_cell slots i g = range_all slots g && eqb (index_of slots g) i

-- THE CELL: the best of the choices whose pairs are its own
abbrev pub cell_best : List Slot → List Settings → ℕ → Option Key
cell_best slots loads i = best_at slots (has_cell slots i) loads
