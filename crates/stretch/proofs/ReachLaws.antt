-- Laws of `covers`, `part_of`, `span_of` and `reach_of`: which columns of a row, and which rows, a load can reach.
-- Assumes nothing.
use Prim.Native.Nat.{ℕ, suc, ◌+◌, ◌-◌, ◌/◌, ◌%◌, ◌<◌, ◌≤◌}
use mathlib.Core.Path.{◌≡◌, sym, ◌∙◌, subst}
use mathlib.Core.List.{List}
use mathlib.Core.Bool.{Bool, true, false, ◌&&◌}
use mathlib.Core.Logic.{⊎_elim}
use native.Mathlib.Nat.{sub-zero, le_antisymm}
use native.Mathlib.Omega.{arith}
use borrow.Author.Tests.{le-leb, lt-leb}
use lib.Dec.{leb}
use lib.ListN.{get_or}
use Rattle.model.specs.Bounds.{most_cells}
use Rattle.model.proofs.IntegerLaws.{split}
use Rattle.stretch.specs.declared.SettingMove.{SettingMove}
use Rattle.grid.specs.declared.Grid.{Grid}
use Rattle.grid.specs.declared.SlotGrid.{SlotGrid}
use Rattle.grid.specs.Geometry.{no_sizes}
use Rattle.stretch.specs.declared.LoadMoves.{LoadMoves}
use Rattle.stretch.specs.declared.Stretch.{Stretch}
use Rattle.stretch.specs.Stretch.{covers_from, tried, move_of, GridFits, StretchesFit, MoveFits, Clipped, Offers, Part, Joined, Spans}

-- `covers`: none of the slots passed, a slot that fails, one more passed, all passed
pub covers_none : (sizes : List SlotGrid) (active : List ℕ) (slots row : ℕ) → covers_from sizes active 0 slots row ≡ covers_from sizes active 0 (slots - 0) row
covers_none sizes active slots row = rw sub-zero

module _ (sizes : List SlotGrid) (active : List ℕ) (slots t rest : ℕ) {b : Bool} (h : b ≡ covers_from sizes active t (slots - t) rest) where
  step : t < slots
      → b ≡ (leb (get_or active t 0) (rest % (get_or sizes t no_sizes).top) && covers_from sizes active (t + 1) (slots - (t + 1)) (rest / (get_or sizes t no_sizes).top))
  unfolding covers_from
  step l = let e : slots - t ≡ suc (slots - (t + 1)) = omega arith in rw e at h

  pub covers_less : t < slots → rest % (get_or sizes t no_sizes).top < get_or active t 0 → false ≡ b
  covers_less l k = sym (step l ∙ simp (lt-leb (get_or active t 0) (rest % (get_or sizes t no_sizes).top) k))

  pub covers_more : t < slots → get_or active t 0 ≤ rest % (get_or sizes t no_sizes).top → b ≡ covers_from sizes active (t + 1) (slots - (t + 1)) (rest / (get_or sizes t no_sizes).top)
  covers_more l k = step l ∙ simp (le-leb (get_or active t 0) (rest % (get_or sizes t no_sizes).top) k)

  pub covers_all_lem : slots ≤ t → true ≡ b
  unfolding covers_from
  covers_all_lem k = let e : slots - t ≡ 0 = omega arith in sym (rw e at h)

-- `part_of`: a row too low, a source row of which nothing is held, the columns that the shift leaves, a row that does not cover the setting's active powers
module _ (lows highs : List ℕ) (grid : Grid) (row : ℕ) (mv : SettingMove) where
  pub part_low : MoveFits grid mv → row < mv.back → Part lows highs grid row mv (record { low = 0; high = 0 })
  part_low fit h = record {
    end = omega arith;
    only = λ col l k. absurd (omega arith);
    all = λ col l o. absurd (let b = fit.back_fits row o.covered in omega arith);
  }

  pub part_empty : get_or highs (row - mv.back) 0 ≤ get_or lows (row - mv.back) 0 → Part lows highs grid row mv (record { low = 0; high = 0 })
  part_empty h = record {
    end = omega arith;
    only = λ col l k. absurd (omega arith);
    all = λ col l o. absurd (omega (arith, o.from_low, o.to_high));
  }

  pub clip_fits : GridFits grid → StretchesFit lows highs grid → MoveFits grid mv → row < grid.rows
      → (get_or lows (row - mv.back) 0 ≤ most_cells) × (get_or highs (row - mv.back) 0 ≤ most_cells) × (mv.up ≤ 1099511627776) × (mv.down ≤ 1099511627776)
  clip_fits g s fit l =
      let k : row - mv.back < grid.rows = omega arith in
      omega (arith, s.low_fits (row - mv.back) k, s.high_fits (row - mv.back) k)

  module _ {b : Bool} (e : b ≡ covers_from grid.sizes mv.active 0 grid.slots row) where
    pub part_yes : {r : Stretch} → b ≡ true → Clipped (get_or lows (row - mv.back) 0) (get_or highs (row - mv.back) 0) mv.up mv.down grid.width r
        → Part lows highs grid row mv r
    unfolding tried
    part_yes h q = record {
      end = q.end;
      only = λ col l k. record { covered = sym e ∙ h; from_low = q.from_low col l k; to_high = q.to_high col l k };
      all = λ col l o. q.all col l o.from_low o.to_high;
    }

    pub part_no : b ≡ false → Part lows highs grid row mv (record { low = 0; high = 0 })
    unfolding tried
    part_no h = record {
      end = omega arith;
      only = λ col l k. absurd (omega arith);
      all = λ col l o. absurd (let z : ◌≡◌ {A = ℕ} 0 1 = cc (e, h, o.covered) in omega arith);
    }

-- `span_of`: no setting yet, one more, all
module _ (lows highs : List ℕ) (grid : Grid) (row : ℕ) (load : LoadMoves) where
  pub spans_none : Spans lows highs grid row load 0 (record { low = 0; high = 0 })
  spans_none = record { end = omega arith; each = λ m l. absurd (omega arith) }

  pub spans_more : {n : ℕ} {s part r : Stretch} → Spans lows highs grid row load n s → Part lows highs grid row (move_of load n) part → Joined s part r
      → Spans lows highs grid row load (n + 1) r
  spans_more {n} q p j = record {
    end = j.end grid.width q.end.0 q.end.1 p.end.0 p.end.1;
    each = λ m l col k o. ⊎_elim
        (λ (h : m < n). let i = q.each m h col k o in j.first col i.0 i.1)
        (λ (h : n ≤ m).
        let e : m ≡ n = omega arith in
        let i = p.all col k (subst (λ (x : ℕ). Offers lows highs grid row (move_of load x) col) e o) in
        j.second col i.0 i.1)
        (split m n);
  }

  pub spans_all : {n : ℕ} {s : Stretch} → n ≤ load.count → load.count ≤ n → Spans lows highs grid row load n s → Spans lows highs grid row load load.count s
  spans_all h k q = rw (le_antisymm h k) at q

-- `reach_of`: one setting more
module _ (load : LoadMoves) (used rows : ℕ) where
  pub far-more : {n q r : ℕ} → ((m : ℕ) → m < n → (row : ℕ) → r ≤ row → row < rows → used + (move_of load m).back ≤ row)
      → r ≤ q → ((row : ℕ) → q ≤ row → row < rows → used + (move_of load n).back ≤ row)
      → (m : ℕ) → m < n + 1 → (row : ℕ) → q ≤ row → row < rows → used + (move_of load m).back ≤ row
  far-more {n} h l f m k row a b = ⊎_elim
      (λ (o : m < n). h m o row (omega arith) b)
      (λ (o : n ≤ m). let e : n ≡ m = omega arith in subst (λ (x : ℕ). used + (move_of load x).back ≤ row) e (f row a b))
      (split m n)
