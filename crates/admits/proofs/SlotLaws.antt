-- Laws of `nearest`, `admits_pair` and `admits_cell`: one slot's test, the slots one after the other, and the slots of a book.
-- Assumes nothing.
use Prim.Native.Nat.{ℕ, suc, ◌+◌, ◌-◌, ◌*◌, ◌/◌, ◌%◌, ◌<◌, ◌≤◌}
use mathlib.Core.Path.{◌≡◌, sym, ap, ◌∙◌}
use mathlib.Core.Bool.{Bool, true, false, ◌&&◌}
use mathlib.Core.List.{List}
use native.Mathlib.Nat.{div-add-mod', mod-lt, mul_assoc, mul-le-mul, mul-le-mul_right}
use native.Mathlib.Numerals.{add-one}
use native.Mathlib.Omega.{arith}
use lib.Dec.{leb}
use lib.IntN.{sub_ℕ}
use lib.ListN.{length, get_or, drop}
use lib.Seq.{drop-cons, drop-length}
use Rattle.model.specs.Bounds.{most_loads, most_ratio}
use Rattle.model.specs.Choice.{square}
use Rattle.model.specs.Grid.{Slot, slots_of, admits, least_abs}
use Rattle.model.specs.Trials.{grid_top, width_of}
use Rattle.model.specs.Index.{depth_of, pair_at, grid_from}
use Rattle.model.specs.Cells.{admits_all}
use Rattle.model.specs.declared.Book.{Book}
use Rattle.model.specs.Values.{Held, problem_of}
use Rattle.model.proofs.IndexLaws.{width_is}
use Rattle.model.proofs.IntegerLaws.{sub_pos, sub_neg}
use Rattle.grid.specs.declared.Grid.{Grid}
use Rattle.grid.specs.Geometry.{SlotIs, no_slot, entry_at, SlotSound, GridIs}
use Rattle.grid.proofs.SlotLaws.{slots_length, slot_at_lem, laid}
use Rattle.admits.specs.Admits.{most_reach, PairFits, SlotsHeld}

-- ---- the q nearest to 0

module _ (raised depth step spread : ℕ) where
  pub nearest_above : depth ≤ raised → (raised - depth) * step ≡ least_abs step spread (sub_ℕ raised depth)
  nearest_above h = sym (ap (least_abs step spread) (sub_pos raised depth h))

  size_is : raised < depth → suc (depth - suc raised) ≡ depth - raised
  size_is h = omega arith

  pub nearest_below : raised < depth → (depth - raised) * step - spread ≡ least_abs step spread (sub_ℕ raised depth)
  nearest_below h = sym (ap (least_abs step spread) (sub_neg raised depth h) ∙ ap (λ n. n * step - spread) (size_is h))

  pub nearest_zero : raised < depth → (depth - raised) * step < spread → 0 ≡ least_abs step spread (sub_ℕ raised depth)
  nearest_zero h k = let e : 0 ≡ (depth - raised) * step - spread = omega arith in e ∙ nearest_below h

  pub size_above : (raised + depth) * step ≤ most_reach → (raised - depth) * step ≤ most_reach
  size_above h = let l : raised - depth ≤ raised + depth = omega arith in omega (arith, mul-le-mul_right step l)

  pub size_below : (raised + depth) * step ≤ most_reach → (depth - raised) * step ≤ most_reach
  size_below h = let l : depth - raised ≤ raised + depth = omega arith in omega (arith, mul-le-mul_right step l)

-- ---- one slot's numbers

module _ {a raised depth step count limit : ℕ} (f : PairFits a raised depth step count limit) where
  pub spread_small : count * (step - 1) ≤ most_loads * 65535
  spread_small = let l : step - 1 ≤ 65535 = omega (arith, f.step_fits) in mul-le-mul f.count_fits l

-- ---- one slot

-- R × L, and r × (R + N) × L
lengths_small : (s : Slot) {t : ℕ} → SlotSound t s → (grid_top s * s.step ≤ 65535) × (depth_of s * s.step ≤ most_ratio * ((most_loads + 1) * 65535))
lengths_small s h =
    let top : grid_top s * s.step ≤ 65535 = omega (arith, div-add-mod' s.limit s.step, h.limit_small) in
    let loads : s.loads * s.step ≤ most_loads * 65535 = mul-le-mul h.loads_few h.step_small in
    let both : grid_top s * s.step + s.loads * s.step ≤ (most_loads + 1) * 65535 = omega arith in
    (top, omega (arith, mul-le-mul h.ratio_few both, mul_assoc s.ratio (grid_top s) s.step, mul_assoc s.ratio s.loads s.step))

module _ (s : Slot) {t : ℕ} (h : SlotSound t s) (a b : ℕ) where
  pair_fits : PairFits (a % (grid_top s + 1)) (b % width_of s) (depth_of s) s.step s.loads s.limit
  pair_fits =
      let R : ℕ = grid_top s in
      let L : ℕ = s.step in
      let one : 0 < R + 1 = omega arith in
      let wide : 0 < width_of s = omega arith in
      let below : a % (R + 1) ≤ R = omega (arith, mod-lt a one) in
      let across : b % width_of s + depth_of s ≤ 3 * depth_of s = omega (arith, mod-lt b wide, width_is s h.ratio_some) in
      let small = lengths_small s h in
      record {
        active = omega (arith, mul-le-mul_right L below, small);
        reactive = omega (arith, mul-le-mul_right L across, small);
        some_step = h.step_some;
        step_fits = h.step_small;
        count_fits = h.loads_few;
        limit_fits = h.limit_small;
      }

-- ---- the slots from t on

-- the test of the code, of what stands at place t
abbrev pub test_at : Grid → ℕ → List ℕ → ℕ → ℕ → ℕ → Bool
test_at v count limits t a b =
    leb
    (square (a % (entry_at v t).top * (entry_at v t).step)
    + square (least_abs (entry_at v t).step (count * ((entry_at v t).step - 1)) (sub_ℕ (b % (entry_at v t).width) (entry_at v t).depth)))
    (square (get_or limits t 0))

module _ {v : Grid} {count : ℕ} {limits : List ℕ} (h : SlotsHeld v count limits) where
  -- the slots from t on admit what is left of a row and a column
  abbrev pub admits_from : ℕ → ℕ → ℕ → Bool
  admits_from t a b = admits_all (drop t h.laid.slots) (grid_from (drop t h.laid.slots) a b)

  module _ (t : ℕ) (l : t < v.slots) where
    long : t < length h.laid.slots
    long = omega (arith, h.laid.is.slots_are)

    abbrev here : Slot
    here = get_or h.laid.slots t no_slot

    numbers : SlotIs here (entry_at v t)
    numbers = h.laid.is.each t long

    pub top-some : 0 < (entry_at v t).top
    top-some = omega (arith, numbers.top_is)

    pub width_some : 0 < (entry_at v t).width
    width_some = omega (arith, numbers.width_is)

    pub pair_held : (a b : ℕ) → PairFits (a % (entry_at v t).top) (b % (entry_at v t).width) (entry_at v t).depth (entry_at v t).step count (get_or limits t 0)
    pair_held a b =
        rw (numbers.step_is, numbers.top_is, numbers.width_is, numbers.depth_is, h.limits_are t long, ← (h.loads_are t long))
        (pair_fits here (h.laid.sound t long) a b)

    -- the test of the code is that of the slot
    pair_is : (a b : ℕ) → test_at v count limits t a b ≡ admits here (pair_at here (a % (grid_top here + 1)) (b % width_of here))
    pair_is a b =
        rw (numbers.step_is, numbers.top_is, numbers.width_is, numbers.depth_is, h.limits_are t long, ← (h.loads_are t long))

    -- slot t, and then the slots after it
    from_cons : (a b : ℕ) → admits_from t a b
        ≡ admits here (pair_at here (a % (grid_top here + 1)) (b % width_of here)) && admits_from (t + 1) (a / (entry_at v t).top) (b / (entry_at v t).width)
    from_cons a b = rw (drop-cons h.laid.slots t no_slot long, add-one t, numbers.top_is, numbers.width_is)

    module _ {r : Bool} (a b : ℕ) (e : r ≡ test_at v count limits t a b) where
      pub from_stop : r ≡ false → false ≡ admits_from t a b
      from_stop z = sym (from_cons a b ∙ ap (λ t'. t' && admits_from (t + 1) (a / (entry_at v t).top) (b / (entry_at v t).width)) (sym (pair_is a b) ∙ sym e ∙ z))

      pub from_go : r ≡ true → admits_from t a b ≡ admits_from (t + 1) (a / (entry_at v t).top) (b / (entry_at v t).width)
      from_go z = from_cons a b ∙ ap (λ t'. t' && admits_from (t + 1) (a / (entry_at v t).top) (b / (entry_at v t).width)) (sym (pair_is a b) ∙ sym e ∙ z)

  pub from_end : (t a b : ℕ) → v.slots ≤ t → t ≤ v.slots → true ≡ admits_from t a b
  from_end t a b k l = let e : t ≡ length h.laid.slots = omega (arith, h.laid.is.slots_are) in rw (e, drop-length)

-- ---- the slots of a book, with its number of loads and its limits

unfoldable pub slots-held : (v : Book) → Held v → (grid : Grid) → GridIs (slots_of (problem_of v)) grid → SlotsHeld grid v.count v.limits
unfolding laid
slots-held v held grid is =
    record {
      laid = laid v held grid is;
      loads_are = λ t l. ap (λ (s : Slot). s.loads) (slot_at_lem v held t (omega (arith, slots_length v held)));
      limits_are = λ t l. sym (ap (λ (s : Slot). s.limit) (slot_at_lem v held t (omega (arith, slots_length v held))));
    }
