-- What a setting does, from the last slot to the first: how many rows back, how far the columns move, and the bounds of these.
-- Assumes nothing.
use Prim.Native.Nat.{ℕ, suc, ◌+◌, ◌*◌, ◌-◌, ◌/◌, ◌^◌, ◌<◌, ◌≤◌}
use mathlib.Core.Path.{◌≡◌, refl, sym, ap, ap₂, ◌∙◌, subst}
use mathlib.Core.List.{List, [], ◌∷◌}
use native.Mathlib.Nat.{mul-le-mul, mul-le-mul_left, mul-le-mul_right, div-le_self, zero-add}
use native.Mathlib.Omega.{arith}
use lib.IntN.{nat_abs}
use lib.ListN.{length, get_or, set, drop, length-set, drop_of_length-le}
use lib.Seq.{drop-cons}
use Rattle.model.specs.declared.Load.{Load}
use Rattle.model.specs.Book.{Setting}
use Rattle.model.specs.Choice.{setting_of, least_of, power_in}
use Rattle.model.specs.Grid.{Slot, floor_div}
use Rattle.model.specs.Trials.{width_of, cell_count}
use Rattle.model.specs.Valid.{SettingSmall}
use Rattle.model.specs.Values.{raised, lowered, load_value}
use Rattle.model.specs.Cells.{setting_grid, setting_grids}
use Rattle.model.specs.Index.{row_index, row_count, column_count, column_up, column_down}
use Rattle.model.specs.Bounds.{most_cells}
use Rattle.model.proofs.UptoLaws.{get_d_upto}
use Rattle.model.proofs.ValueLaws.{raised_back, raised-small, raised_parts}
use Rattle.model.proofs.RoundingLaws.{floor_small}
use Rattle.model.specs.Index as index
use Rattle.model.proofs.RowLaws.{digit-plus}
use Rattle.model.proofs.NumberLaws.{setting_small, offered-number}
use Rattle.model.proofs.HeldLaws.{load_active, load_reactive, value_least, value_count}
use Rattle.grid.specs.declared.Grid.{Grid}
use Rattle.grid.specs.declared.SlotGrid.{SlotGrid}
use Rattle.grid.specs.Geometry.{SlotIs, no_slot, entry_at}
use Rattle.grid.proofs.ArrayLaws.{set-down}
use Rattle.grid.proofs.GeometryLaws.{rows_some, columns_some, rows_fit, columns_fit, cells_fit, rows_more, columns_more}
use Rattle.moves.specs.Moves.{ActivesAre, MoveIs, LoadHeld}

-- digits that are at most m, in n places whose values multiply up to c
digit_most : (n x c w d m : ℕ) → x ≤ m * n * c → d ≤ m → 1 ≤ c * w → x * w + d ≤ m * (n + 1) * (c * w)
digit_most n x c w d m h k some =
    omega (arith, mul-le-mul_right w h, mul-le-mul_left m some)

-- from slot t on
pub record Moved (slots : List Slot) (v : Setting) (t back up down : ℕ) (active : List ℕ) : Type 0 where
  pub active_length : length active ≡ 4
  pub back_is : back ≡ row_index (drop t slots) (setting_grids (drop t slots) v)
  pub shift_is : up + column_down (drop t slots) (setting_grids (drop t slots) v) ≡ down + column_up (drop t slots) (setting_grids (drop t slots) v)
  pub actives_are : (i : ℕ) → t ≤ i → i < length slots → get_or active i 0 ≡ (setting_grid (get_or slots i no_slot) v).p
  pub back_most : back ≤ 65536 * (length slots - t) * row_count (drop t slots)
  pub up_most : up ≤ 65536 * (length slots - t) * column_count (drop t slots)
  pub down_most : down ≤ 65536 * (length slots - t) * column_count (drop t slots)

pub moved_none : (slots : List Slot) (v : Setting) (t : ℕ) (active : List ℕ) → t ≡ length slots → length active ≡ 4 → Moved slots v t 0 0 0 active
moved_none slots v t active e four =
    let none : drop t slots ≡ [] = drop_of_length-le slots {i = t} (omega arith) in
    record {
      active_length = four;
      back_is = ap (λ ss. row_index ss (setting_grids ss v)) (sym none);
      shift_is = subst (λ ss. 0 + column_down ss (setting_grids ss v) ≡ 0 + column_up ss (setting_grids ss v)) (sym none) refl;
      actives_are = λ i h l. absurd (omega arith);
      back_most = omega arith;
      up_most = omega arith;
      down_most = omega arith;
    }

-- the numbers of one slot and of a setting there
pub record Digits (s : Slot) (v : Setting) (x : SlotGrid) (a b : ℕ) : Type 0 where
  pub slot_is : SlotIs s x
  pub active_is : a ≡ (setting_grid s v).p
  pub reactive_is : b ≡ raised (setting_grid s v).q

-- what is left of the slots, one slot sooner
left-more : (t n : ℕ) → t < n → n - t ≡ n - suc t + 1
left-more t n l = omega arith

module _ (slots : List Slot) (v : Setting) (small : SettingSmall v) (t : ℕ) (l : t < length slots) (few : length slots ≤ 4)
    (x : SlotGrid) (a b back up down : ℕ) (active : List ℕ) (d : Digits (get_or slots t no_slot) v x a b) (m : Moved slots v (suc t) back up down active) where
  near : nat_abs (setting_grid (get_or slots t no_slot) v).q ≤ 32768
  near = floor_small (power_in (get_or slots t no_slot).place v).q (get_or slots t no_slot).step (small.reactive (get_or slots t no_slot).place)

  pub a_small : a ≤ 65535
  a_small = omega (arith, d.active_is, small.active (get_or slots t no_slot).place, div-le_self (power_in (get_or slots t no_slot).place v).p (get_or slots t no_slot).step)

  pub b-small : b ≤ 65536
  b-small = omega (arith, d.reactive_is, raised-small (setting_grid (get_or slots t no_slot) v).q near)

  back_bound : back * x.top + a ≤ 65536 * (length slots - t) * row_count (drop t slots)
  back_bound =
      let e = rows_more slots t l x d.slot_is in
      let h = digit_most (length slots - suc t) back (row_count (drop (suc t) slots)) x.top a 65536 m.back_most (omega (arith, a_small)) (omega (arith, e, rows_some (drop t slots))) in
      subst (λ n. back * x.top + a ≤ 65536 * n * row_count (drop t slots)) (sym (left-more t (length slots) l))
      (subst (λ n. back * x.top + a ≤ 65536 * (length slots - suc t + 1) * n) e h)

  column_bound : (n y : ℕ) → n ≤ 65536 * (length slots - suc t) * column_count (drop (suc t) slots) → y ≤ 65536 → n * x.width + y ≤ 65536 * (length slots - t) * column_count (drop t slots)
  column_bound n y q k =
      let e = columns_more slots t l x d.slot_is in
      let h = digit_most (length slots - suc t) n (column_count (drop (suc t) slots)) x.width y 65536 q k (omega (arith, e, columns_some (drop t slots))) in
      subst (λ m. n * x.width + y ≤ 65536 * m * column_count (drop t slots)) (sym (left-more t (length slots) l))
      (subst (λ m. n * x.width + y ≤ 65536 * (length slots - suc t + 1) * m) e h)

  -- one slot more
  pub moved_more : Moved slots v t (back * x.top + a) (up * x.width + b) (down * x.width + 32768) (set active t a)
  moved_more =
      let s = get_or slots t no_slot in
      let e = drop-cons slots t no_slot l in
      let rest = drop (suc t) slots in
      record {
        active_length = length-set active t a ∙ m.active_length;
        back_is = ap₂ (λ m n. m * x.top + n) m.back_is d.active_is
            ∙ ap (λ n. row_index rest (setting_grids rest v) * n + (setting_grid s v).p) d.slot_is.top_is
            ∙ ap (λ ss. row_index ss (setting_grids ss v)) (sym e);
        shift_is = subst (λ ss. up * x.width + b + column_down ss (setting_grids ss v) ≡ down * x.width + 32768 + column_up ss (setting_grids ss v)) (sym e)
            (subst (λ w. up * w + b + column_down (s ∷ rest) (setting_grids (s ∷ rest) v) ≡ down * w + 32768 + column_up (s ∷ rest) (setting_grids (s ∷ rest) v)) (sym d.slot_is.width_is)
            (digit-plus up (column_down rest (setting_grids rest v)) down (column_up rest (setting_grids rest v)) (width_of s) b (index.down (setting_grid s v).q) 32768 (index.up (setting_grid s v).q) m.shift_is
            (ap (λ n. n + index.down (setting_grid s v).q) d.reactive_is ∙ raised_parts (setting_grid s v).q near)));
        actives_are = set-down (λ i n. n ≡ (setting_grid (get_or slots i no_slot) v).p) active t (length slots) a 0 (omega (arith, m.active_length)) d.active_is (λ i h k. m.actives_are i h k);
        back_most = back_bound;
        up_most = column_bound up b m.up_most b-small;
        down_most = column_bound down 32768 m.down_most (omega arith);
      }

-- nothing is over 2^38
module _ (slots : List Slot) (v : Setting) (few : length slots ≤ 4) (fits : cell_count slots ≤ most_cells) (t back up down : ℕ) (active : List ℕ) (m : Moved slots v t back up down active) where
  room : (x c : ℕ) → x ≤ 65536 * (length slots - t) * c → c ≤ most_cells → x ≤ 274877906944
  room x c h k =
      let n : 65536 * (length slots - t) ≤ 262144 = omega arith in
      omega (arith, mul-le-mul n k)

  pub back_fits : back ≤ 274877906944
  back_fits = room back (row_count (drop t slots)) m.back_most (rows_fit (drop t slots) (cells_fit slots t fits))

  pub up_fits : up ≤ 274877906944
  up_fits = room up (column_count (drop t slots)) m.up_most (columns_fit (drop t slots) (cells_fit slots t fits))

  pub down_fits : down ≤ 274877906944
  down_fits = room down (column_count (drop t slots)) m.down_most (columns_fit (drop t slots) (cells_fit slots t fits))

-- the actives, place by place
pub actives_in : (active : List ℕ) (v : Setting) (t : ℕ) (slots : List Slot) → ((i : ℕ) → i < length slots → get_or active (t + i) 0 ≡ (setting_grid (get_or slots i no_slot) v).p)
    → ActivesAre active t slots v
actives_in active v t [] h = tt
actives_in active v t (s ∷ slots) h =
    let here : t ≡ t + 0 = omega arith in (
      ap (λ n. get_or active n 0) here ∙ h 0 (omega arith),
      actives_in active v (t + 1) slots (λ i l.
          let next : t + 1 + i ≡ t + suc i = omega arith in
          ap (λ n. get_or active n 0) next ∙ h (suc i) (omega arith)),
    )

-- ---- a load's value

module _ (x : Load) (h : LoadHeld x) where
  pub load_count_lem : x.settings ≡ length h.settings
  load_count_lem = ap (λ (y : Load). y.settings) h.is ∙ value_count h.settings

  pub load_least : x.least ≡ least_of h.settings
  load_least = ap (λ (y : Load). y.least) h.is ∙ value_least h.settings

  pub load_few : x.least + x.settings ≤ 4
  load_few = omega (arith, load_least, load_count_lem, h.labels.few)

  module _ (c : ℕ) (place : c < 4) where
    load_worth : get_or x.worths c 0 ≡ (setting_of h.settings c).worth
    unfolding load_value
    load_worth = ap (λ (y : Load). get_or y.worths c 0) h.is ∙ get_d_upto (λ i. (setting_of h.settings i).worth) 4 c 0 place

    pub load_setting : SettingSmall (setting_of h.settings c)
    load_setting = setting_small h.settings h.small c

    module _ (t : ℕ) (four : t < 4) where
      load_p : get_or x.actives (4 * c + t) 0 ≡ (power_in t (setting_of h.settings c)).p
      load_p = ap (λ (y : Load). get_or y.actives (4 * c + t) 0) h.is ∙ load_active h.settings c t place four

      load_q : get_or x.reactives (4 * c + t) 0 ≡ raised (power_in t (setting_of h.settings c)).q
      load_q = ap (λ (y : Load). get_or y.reactives (4 * c + t) 0) h.is ∙ load_reactive h.settings c t place four

      pub load_q-small : get_or x.reactives (4 * c + t) 0 ≤ 65536
      load_q-small = omega (arith, load_q, raised-small (power_in t (setting_of h.settings c)).q (load_setting.reactive t))

      -- the numbers of setting c in slot t
      pub digits_at : (v : Grid) (s : Slot) (b : ℕ) → SlotIs s (entry_at v t) → s.place ≡ t
          → (b ≡ raised (floor_div (lowered (get_or x.reactives (4 * c + t) 0)) (entry_at v t).step))
          → Digits s (setting_of h.settings c) (entry_at v t) (get_or x.actives (4 * c + t) 0 / (entry_at v t).step) b
      digits_at v s b e place_is f =
          let z = setting_of h.settings c in
          record {
            slot_is = e;
            active_is = ap₂ (λ m n. m / n) load_p e.step_is ∙ ap (λ i. (power_in i z).p / s.step) (sym place_is);
            reactive_is = f
                ∙ ap (λ q. raised (floor_div q (entry_at v t).step)) (ap lowered load_q ∙ raised_back (power_in t z).q (load_setting.reactive t))
                ∙ ap₂ (λ i n. raised (floor_div (power_in i z).q n)) (sym place_is) e.step_is;
          }

  -- all slots passed
  pub moved_all : (c unit k : ℕ) (slots : List Slot) (back up down : ℕ) (active : List ℕ) → x.least ≤ c → c < x.least + x.settings → unit ≡ 4 ^ k → length slots ≤ 4
      → cell_count slots ≤ most_cells → Moved slots (setting_of h.settings c) 0 back up down active
      → MoveIs slots k (setting_of h.settings c) (record { gain = get_or x.worths c 0; digit = c * unit; back = back; up = up; down = down; active = active })
  moved_all c unit k slots back up down active from l e few fits m =
      let v = setting_of h.settings c in
      let number_is : c ≡ v.number = sym (offered-number h.settings h.labels c (omega (arith, load_least), omega (arith, load_least, load_count_lem))) in
      record {
        gain_is = load_worth c (omega (arith, load_few));
        digit_is = ap₂ (λ i n. i * n) number_is e;
        back_is = m.back_is;
        shift_is = m.shift_is;
        actives_are = actives_in active v 0 slots (λ i j. ap (λ n. get_or active n 0) (zero-add i) ∙ m.actives_are i (omega arith) j);
        up_fits = omega (arith, up_fits slots v few fits 0 back up down active m);
        down_fits = omega (arith, down_fits slots v few fits 0 back up down active m);
      }
