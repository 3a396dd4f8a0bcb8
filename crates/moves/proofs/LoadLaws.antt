-- The settings of a load of a book, and what all of them do.
-- Assumes nothing.
use Prim.Native.Nat.{ℕ, ◌+◌, ◌*◌, ◌^◌, ◌<◌, ◌≤◌}
use mathlib.Core.Path.{◌≡◌, sym, ap, ◌∙◌, subst}
use mathlib.Core.List.{List, []}
use native.Mathlib.Nat.{pow-succ', pow-le-pow_right, mul_comm}
use native.Mathlib.Numerals.{add-one}
use native.Mathlib.Omega.{arith}
use lib.ListN.{length, get_or}
use Rattle.model.specs.declared.Book.{Book}
use Rattle.model.specs.declared.Load.{Load}
use Rattle.model.specs.Lists.{Every}
use Rattle.model.specs.Grid.{Slot}
use Rattle.model.specs.Valid.{SettingSmall}
use Rattle.model.specs.Values.{Held, problem_of}
use Rattle.model.specs.Choice.{no_setting, setting_of, least_of}
use Rattle.model.specs.Bounds.{most_loads}
use Rattle.model.proofs.ListLaws.{every_at}
use Rattle.model.proofs.NumberLaws.{numbered_at, at_place}
use Rattle.model.proofs.ValidLaws.{load_labelled}
use Rattle.model.proofs.HeldLaws.{held-valid, held-count, held_at}
use Rattle.stretch.specs.declared.SettingMove.{SettingMove}
use Rattle.stretch.specs.Stretch.{no_move}
use Rattle.moves.specs.Moves.{MoveIs, LoadIs, LoadHeld}
use Rattle.moves.proofs.MoveLaws.{load_count_lem, load_least}

-- all settings passed
pub load_all : (x : Load) (h : LoadHeld x) (slots : List Slot) (k : ℕ) (moves : List SettingMove)
    → ((i : ℕ) → i < x.settings → MoveIs slots k (setting_of h.settings (x.least + i)) (get_or moves i no_move))
    → LoadIs slots k h.settings (record { count = x.settings; moves = moves })
load_all x h slots k moves f =
    record {
      count_is = load_count_lem x h;
      count_fits = omega (arith, h.labels.few);
      ascending = λ m n l j. omega (arith, number m (omega arith), number n j);
      each = λ n l. subst (λ v. MoveIs slots k v (get_or moves n no_move))
          (ap (λ i. setting_of h.settings (i + n)) (load_least x h) ∙ at_place h.settings h.labels n l)
          (f n (omega (arith, load_count_lem x h)));
    }
  where
    number : (i : ℕ) → i < length h.settings → least_of h.settings + i ≡ (get_or h.settings i no_setting).number
    number i l = numbered_at (least_of h.settings) h.settings h.labels.numbered i l

-- the settings of load k + 1 of a book's value
unfoldable pub load_held : (v : Book) (h : Held v) (k : ℕ) (d : Load) → k < v.count → LoadHeld (get_or v.loads k d)
load_held v h k d l =
    record {
      settings = get_or (problem_of v).loads k [];
      is = held_at v h k d l;
      labels = load_labelled (held-valid v h) k (omega (arith, held-count v h));
      small = every_at (Every SettingSmall) (problem_of v).loads [] (held-valid v h).loads.small k (omega (arith, held-count v h));
    }

-- what an option counts in the code
pub unit-small : (unit k : ℕ) → unit ≡ 4 ^ k → k < most_loads → unit ≤ 70368744177664
unit-small unit k e l =
    let four : 0 < 4 = omega arith in
    let few : k ≤ 23 = omega arith in
    subst (λ n. n ≤ 70368744177664) (sym e) (pow-le-pow_right four few)

pub unit-more : (unit k : ℕ) → unit ≡ 4 ^ k → unit * 4 ≡ 4 ^ (k + 1)
unit-more unit k e = ap (λ n. n * 4) e ∙ mul_comm (4 ^ k) 4 ∙ sym (pow-succ' 4 k) ∙ ap (λ n. 4 ^ n) (sym (add-one k))
