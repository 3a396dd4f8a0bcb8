-- The result for a book that was read, from the choices on the two sheets.
-- Assumes nothing.
use Prim.Native.Nat.{ℕ, zero, suc, ◌<◌, ◌≤◌}
use mathlib.Core.Path.{◌≡◌, refl, sym, ap, ap₂, ◌∙◌}
use mathlib.Core.Bool.{not, ◌&&◌}
use mathlib.Core.Logic.{◌⊎◌, inl, inr}
use mathlib.Core.List.{List}
use native.Mathlib.Omega.{arith}
use lib.Dec.{eqb}
use lib.ListN.{length, get_or, get_or-eq_default}
use borrow.Author.Tests.{le-ltb}
use Rattle.model.specs.declared.Refusal.TheVariants.{ForeignSheet}
use Rattle.model.specs.Refusals.{Result, refused, and_then}
use Rattle.model.specs.Book.{Setting, Problem}
use Rattle.model.specs.Choice.{Choice, running_on, no_setting}
use Rattle.model.specs.SheetReader.{sheet_choice}
use Rattle.model.specs.Order.{OrderData, loads_order, sheets_order}
use Rattle.model.specs.Valid.{ValidBook}
use Rattle.model.specs.Values.{Picked, choice_of}
use Rattle.model.proofs.IntegerLaws.{split}
use Rattle.sheet.proofs.WriteLaws.{number_at, choice-length}
use Rattle.std.specs.Prelude.{None}
use Rattle.chosen.specs.declared.OnSheet.{OnSheet}
use Rattle.chosen.specs.Chosen.{Stated, ChoiceOn}
use Rattle.chosen.proofs.SheetChoiceLaws.{then_foreign, then_read}
use Rattle.starts.specs.Places.{running_in}
use Rattle.starts.proofs.PlaceLaws.{runs_at}

module _ (b : Problem) (valid : ValidBook b) where
  abbrev n : ℕ
  n = length b.loads

  -- the loads that run on a choice, by the numbers in its array
  running_is : (picks : List ℕ) → Picked b picks → running_in n picks ≡ running_on (choice_of b picks)
  running_is picks picked = λ i k. each k i
    where
      at : (k : ℕ) → (k < n) ⊎ (n ≤ k) → running_in n picks (suc k) ≡ running_on (choice_of b picks) (suc k)
      at k (inl l) = runs_at n picks k l ∙ ap (λ x. not (eqb x 0)) (sym (number_at b picks valid picked k l))
      at k (inr l) =
          ap (λ t. t && not (eqb (get_or picks k 0) 0)) (le-ltb k n l)
          ∙ sym (ap (λ (v : Setting). not (eqb v.number 0))
          (get_or-eq_default (choice_of b picks) no_setting (omega (arith, choice-length b picks valid picked))))

      each : (k : ℕ) → running_in n picks k ≡ running_on (choice_of b picks) k
      each zero = refl
      each (suc k) = at k (split k n)

  module _ (running planned names : List ℕ) (room : ℕ) where
    abbrev result : Result OrderData
    result = sheets_order running planned names room b

    -- for the choice on the running sheet
    abbrev from : Choice → Result OrderData
    from old = and_then (sheet_choice planned b) (λ new. loads_order n names room (running_on old) (running_on new))

    pub running_foreign : ChoiceOn running b None → refused ForeignSheet 0 ≡ result
    unfolding sheets_order
    running_foreign foreign = then_foreign running b from foreign

    module _ (v : OnSheet) (on : Stated running b v) where
      abbrev both : Choice → Result OrderData
      both new = loads_order n names room (running_on (choice_of b v.picks)) (running_on new)

      pub planned-foreign : ChoiceOn planned b None → refused ForeignSheet 0 ≡ result
      unfolding sheets_order
      planned-foreign foreign = then_foreign planned b both foreign ∙ then_read running b from v on

      pub sheets_read : (w : OnSheet) → Stated planned b w → loads_order n names room (running_in n v.picks) (running_in n w.picks) ≡ result
      unfolding sheets_order
      sheets_read w next =
          ap₂ (loads_order n names room) (running_is v.picks on.picked) (running_is w.picks next.picked)
          ∙ then_read planned b both w next
          ∙ then_read running b from v on
