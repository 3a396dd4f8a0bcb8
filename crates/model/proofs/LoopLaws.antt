-- The table and the trials in the form that a loop over the loads wants: before load k + 1 they are those of the first k loads.
-- Assumes nothing.
use mathlib.Core.Path.{◌≡◌, refl, ap}
use mathlib.Core.Bool.{Bool, true, false, cond, ◌&&◌}
use mathlib.Core.List.{List, [], ◌∷◌, map}
use mathlib.Core.Option.{none, some}
use Prim.Native.Nat.{ℕ, suc, ◌+◌, ◌*◌}
use native.Mathlib.Omega.{arith}
use lib.Dec.{T, eqb, leb, le→leb}
use lib.ListN.{length, get_or, take, length-take}
use Rattle.model.specs.Lists.{Every, keep_if}
use Rattle.model.specs.Book.{Settings}
use Rattle.model.specs.Grid.{Slot, grids_of}
use Rattle.model.specs.Trials.{grid_top, cell_count, trials_upto}
use Rattle.model.specs.Valid.{SettingKept, Ready}
use Rattle.model.specs.Cells.{best_key, choice_key, best_at, count_upto, is_some, range_all, cell_best}
use Rattle.model.specs.Index.{index_of}
use Rattle.model.proofs.ListLaws.{each, every_take}
use Rattle.model.proofs.TableLaws.{reached-cells}

pub ready-take : (r n : ℕ) (slots : List Slot) (loads : List Settings) (k : ℕ) → Ready r n slots loads → Ready r n slots (take k loads)
ready-take r n slots loads k h =
    record {
      for = h.for;
      some_ratio = h.some_ratio;
      few = omega (arith, length-take k loads, h.few);
      keeps = every_take (Every (SettingKept r)) k loads h.keeps;
    }

-- before the first load: worth 0 and code 0 in the cell of no power, nothing elsewhere
pub range_none : (slots : List Slot) → T (range_all slots (grids_of slots []))
range_none [] = tt
range_none (s ∷ slots) = each (leb 0 (grid_top s)) (range_all slots (grids_of slots [])) (le→leb 0 (grid_top s) (omega arith)) (range_none slots)

pub cells-none : (slots : List Slot) (i : ℕ)
    → cell_best slots [] i ≡ cond (eqb (index_of slots (grids_of slots [])) i) (some (record { worth = 0; code = 0 })) none
unfolding best_at
cells-none slots i = go (range_all slots (grids_of slots [])) (range_none slots) (eqb (index_of slots (grids_of slots [])) i)
  where
    go : (a : Bool) → T a → (b : Bool) → best_key (map choice_key (keep_if (a && b) [] [])) ≡ cond b (some (record { worth = 0; code = 0 })) none
    go true t true = refl
    go true t false = refl
    go false t b = absurd t

-- its trials: the cells that hold something, times its settings
pub trials-step : (r n : ℕ) (slots : List Slot) (loads : List Settings) → Ready r n slots loads → (k : ℕ)
    → trials_upto slots loads (suc k)
    ≡ trials_upto slots loads k
    + count_upto (cell_count slots) (λ i. is_some (cell_best slots (take k loads) i)) * length (get_or loads k [])
trials-step r n slots loads h k =
    ap (λ m. trials_upto slots loads k + m * length (get_or loads k []))
    (reached-cells r n slots (take k loads) (ready-take r n slots loads k h))
