-- What the search asks of a book, and what the search and the scan find.
-- Assumes nothing.
use mathlib.Core.Path.{◌≡◌, refl, sym, ap, ap₂, subst, ◌∙◌}
use mathlib.Core.Logic.{⊎_elim}
use mathlib.Core.Bool.{true, false, cond}
use mathlib.Core.List.{List, [], ◌∷◌}
use mathlib.Core.Option.{Option, none, some, none-ne-some, some-ne-none, some-injective}
use Prim.Native.Nat.{ℕ, zero, suc, ◌+◌, ◌*◌, ◌<◌, ◌≤◌}
use native.Mathlib.Omega.{arith}
use lib.Dec.{ltb}
use lib.ListN.{length, get_or, drop}
use borrow.Author.Tests.{lt-ltb, le-ltb}
use Rattle.std.specs.Prelude as std
use Rattle.std.specs.Prelude.{Ok, Err, Some, None, Result as Outcome}
use Rattle.model.specs.declared.Book.{Book}
use Rattle.model.specs.declared.Refusal.{Refusal}
use Rattle.model.specs.declared.Refusal.TheVariants.{BudgetExceeded}
use Rattle.model.specs.Lists.{Every}
use Rattle.model.specs.Book.{Settings}
use Rattle.model.specs.Choice.{Choice, code_of}
use Rattle.model.specs.Grid.{slots_of, plan}
use Rattle.model.specs.Strict.{strict_plan}
use Rattle.model.specs.Trials.{cells, needed_words, WordsKept, trials, trials_upto}
use Rattle.model.specs.Valid.{Labelled, SettingSmall, SettingBelow, SlotsFor}
use Rattle.model.specs.Values.{Held, problem_of}
use Rattle.model.specs.Cells.{Key, choice_key}
use Rattle.model.proofs.ListLaws.{every_mem, every_of_mem}
use Rattle.model.proofs.NumberLaws.{number_small}
use Rattle.model.proofs.AdmissionLaws.{slots-for}
use Rattle.model.proofs.RecurrenceLaws.{key?}
use Rattle.model.proofs.BestLaws.{cell_coded}
use Rattle.model.proofs.HeldLaws.{held-valid, held-count, held-few, held-slots}
use Rattle.table.specs.declared.Cell.{Cell}
use Rattle.table.specs.Table.{key_of, key_if}
use Rattle.grid.specs.declared.Grid.{Grid}
use Rattle.grid.specs.Geometry.{GridIs, Laid}
use Rattle.grid.proofs.SlotLaws.{laid, slots_length}
use Rattle.stretch.specs.declared.LoadMoves.{LoadMoves}
use Rattle.moves.specs.Moves.{moves_of, LoadIs}
use Rattle.search.specs.Search.{Modelled, LayerIs, Places, Searched, trials_of}
use Rattle.scan.specs.declared.Test.{Test}
use Rattle.scan.specs.declared.Test.TheVariants.{Admission, TrueSums}
use Rattle.scan.specs.Scan.{test_of, best_of_layer, LayerCoded}
use Rattle.scan.proofs.ScanLaws.{last_cell, scan_plan, scan_strict}
use Rattle.found.specs.declared.Planned.{Planned}
use Rattle.found.specs.Found.{plan_by, plan_code, found_for}

-- the last layer lies in the work area
pub layer_room : {ws ws' lows highs : List ℕ} {grid : Grid} {cur : ℕ} → Places ws ws' lows highs grid cur → 4 * grid.cells ≤ length ws
    → 2 * (cur + grid.cells) ≤ length ws'
layer_room {ws} {ws'} {lows} {highs} {grid} {cur} p h =
    let low : cur ≤ grid.cells = ⊎_elim (λ e. omega (arith, e)) (λ e. omega (arith, e)) p.side in
    omega (arith, low, h, p.same_length)

-- a cell with the key of what may be a choice: it is empty and there is none, or it has the choice's code
cell-none : (r : Cell) (m : Option Choice) → key_of r ≡ key? m → r.worth ≡ 0 → m ≡ none
unfolding key_of
cell-none r m e z = go m (ap (λ w. key_if w r.code) (sym z) ∙ e)
  where
    go : (m : Option Choice) → none ≡ key? m → m ≡ none
    go none q = refl
    go (some c) q = absurd (none-ne-some (choice_key c) q)

cell-some : (r : Cell) (m : Option Choice) → key_of r ≡ key? m → (r.worth ≡ 0 → ⊥) → (c : Choice) × (m ≡ some c) × (r.code ≡ code_of c)
unfolding key_of
cell-some r m = go r.worth m
  where
    go : (w : ℕ) (m : Option Choice) → key_if w r.code ≡ key? m → (w ≡ 0 → ⊥) → (c : Choice) × (m ≡ some c) × (r.code ≡ code_of c)
    go zero m e n = absurd (n refl)
    go (suc w) none e n = absurd (some-ne-none _ e)
    go (suc w) (some c) e n = (c, refl, ap (λ (x : Key). x.code) (some-injective _ _ e))

module _ (v : Book) (held : Held v) (grid : Grid) (is : GridIs (slots_of (problem_of v)) grid) where
  cells_are : grid.cells ≡ cells (problem_of v)
  unfolding cells
  cells_are = is.cells_are

  pub words_enough : (ws : List ℕ) → needed_words (problem_of v) ≤ length ws → 4 * grid.cells ≤ length ws
  words_enough ws h = omega (arith, h, cells_are)

  pub words_kept : (ws ws' lows highs : List ℕ) (cur : ℕ) → Places ws ws' lows highs grid cur
      → drop (4 * grid.cells) ws' ≡ drop (4 * grid.cells) ws → WordsKept (needed_words (problem_of v)) ws ws'
  words_kept ws ws' lows highs cur p e =
      record { same_length = p.same_length; kept = subst (λ x. drop (4 * x) ws' ≡ drop (4 * x) ws) cells_are e }

-- ---- what the search asks of a book

settings_below : (vs : Settings) → Labelled vs → Every SettingSmall vs → Every (SettingBelow 65535) vs
settings_below vs a s =
    every_of_mem (SettingBelow 65535) vs (λ v m. (omega (arith, (every_mem SettingSmall v vs m s).worth), omega (arith, number_small vs v a m)))

pub loads_below : (loads : List Settings) → Every Labelled loads → Every (Every SettingSmall) loads → Every (Every (SettingBelow 65535)) loads
loads_below [] a s = tt
loads_below (vs ∷ loads) a s = (settings_below vs a.0 s.0, loads_below loads a.1 s.1)

-- the moves of loads on a grid that is laid out are those of the book's slots
pub moves_are : (v : Book) (held : Held v) (grid : Grid) (is : GridIs (slots_of (problem_of v)) grid) (moves : List LoadMoves)
    → ((l : Laid grid) (k : ℕ) → k < v.count → LoadIs l.slots k (get_or (problem_of v).loads k []) (moves_of moves k))
    → (k : ℕ) → k < v.count → LoadIs (slots_of (problem_of v)) k (get_or (problem_of v).loads k []) (moves_of moves k)
unfolding laid
moves_are v held grid is moves made = made (laid v held grid is)

module _ (v : Book) (held : Held v) (grid : Grid) (is : GridIs (slots_of (problem_of v)) grid) (moves : List LoadMoves)
    (loads : (k : ℕ) → k < v.count → LoadIs (slots_of (problem_of v)) k (get_or (problem_of v).loads k []) (moves_of moves k)) where
  unfoldable pub model : Modelled grid v.count moves
  model =
      let b = problem_of v in
      let valid = held-valid v held in
      record {
        r = b.ratio;
        slots = slots_of b;
        loads = b.loads;
        ready =
            record {
              for = subst (λ n. SlotsFor b.ratio n (slots_of b)) (sym (held-count v held)) (slots-for b);
              some_ratio = valid.ratio_some;
              few = omega (arith, held-count v held);
              keeps = valid.loads.keeps;
            };
        loads_are = sym (held-count v held);
        loads_fit = held-few v held;
        some_load = omega (arith, held-count v held, valid.loads_some);
        some_slot = omega (arith, slots_length v held, held-slots v held, valid.slots_some);
        small = loads_below b.loads valid.loads.labels valid.loads.small;
        grid_is = is;
        each = loads;
      }

  trials_are : trials_of model v.count ≡ trials (problem_of v)
  unfolding trials model
  trials_are = ap (trials_upto (slots_of (problem_of v)) (problem_of v).loads) (held-count v held)

  -- each cell of the last layer holds the code of one of the book's choices
  pub layer_coded : (ws lows highs : List ℕ) (cur : ℕ) → LayerIs ws lows highs grid v.count moves model v.count cur
      → LayerCoded (problem_of v) ws lows highs grid cur
  unfolding model
  layer_coded ws lows highs cur layer row col l k key e =
      let x = cell_coded (slots_of (problem_of v)) (problem_of v).loads (row * grid.width + col) key (sym (last_cell model ws lows highs cur layer row col l k) ∙ e) in
      record { choice = x.0; of_book = x.1; is = ap (λ (y : Key). y.code) (sym x.2) }

  -- the best of its cells that pass a planner's test is that planner's plan
  layer-plan : (ws lows highs : List ℕ) (cur : ℕ) → LayerIs ws lows highs grid v.count moves model v.count cur
      → (test : Test) → best_of_layer (test_of test (problem_of v)) ws lows highs grid cur ≡ key? (plan_by test (problem_of v))
  unfolding plan strict_plan model
  layer-plan ws lows highs cur layer Admission = scan_plan model ws lows highs cur layer
  layer-plan ws lows highs cur layer TrueSums = scan_strict model ws lows highs cur layer (problem_of v) (held-valid v held) refl refl

  module _ (test : Test) where
    -- within the budget
    abbrev within : Outcome Planned Refusal
    within = Ok (record { trials = trials (problem_of v); code = plan_code (plan_by test (problem_of v)) })

    -- over it
    pub found-over : (ws lows highs : List ℕ) (cur ts : ℕ) → Searched ws lows highs grid v.count moves model v.budget cur ts → v.budget < ts
        → Path (Outcome Planned Refusal) (Err BudgetExceeded) (found_for test (problem_of v))
    unfolding problem_of found_for
    found-over ws lows highs cur ts s h =
        let e : ltb v.budget (trials (problem_of v)) ≡ true = lt-ltb _ _ (subst (λ x. v.budget < x) trials_are (s.over h)) in
        sym (ap (λ t. cond t (Err BudgetExceeded) within) e)

    module _ (ws lows highs : List ℕ) (cur : ℕ) (r : Cell) (found : key_of r ≡ best_of_layer (test_of test (problem_of v)) ws lows highs grid cur)
        (ts : ℕ) (s : Searched ws lows highs grid v.count moves model v.budget cur ts) (h : ts ≤ v.budget) where
      -- within the budget the trials are the book's
      counted : ts ≡ trials (problem_of v)
      counted = (s.within h).0 ∙ trials_are

      found-within : (code : std.Option ℕ) → code ≡ plan_code (plan_by test (problem_of v))
          → Path (Outcome Planned Refusal) (Ok (record { trials = ts; code = code })) (found_for test (problem_of v))
      unfolding problem_of found_for
      found-within code e =
          let q : ltb v.budget (trials (problem_of v)) ≡ false = le-ltb _ _ (subst (λ x. x ≤ v.budget) counted h) in
          ap₂ (λ n k. Ok (record { trials = n; code = k })) counted e
          ∙ sym (ap (λ t. cond t (Err BudgetExceeded) within) q)

      key_is : key_of r ≡ key? (plan_by test (problem_of v))
      key_is = found ∙ layer-plan ws lows highs cur (s.within h).1 test

      pub found-missing : r.worth ≡ 0 → Path (Outcome Planned Refusal) (Ok (record { trials = ts; code = None })) (found_for test (problem_of v))
      found-missing z = found-within None (sym (ap plan_code (cell-none r (plan_by test (problem_of v)) key_is z)))

      pub found-plan : (r.worth ≡ 0 → ⊥) → Path (Outcome Planned Refusal) (Ok (record { trials = ts; code = Some r.code })) (found_for test (problem_of v))
      found-plan n =
          let c = cell-some r (plan_by test (problem_of v)) key_is n in
          found-within (Some r.code) (ap Some c.2 ∙ sym (ap plan_code c.1))
