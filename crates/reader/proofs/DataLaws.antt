-- The sheet reader's data, from the choice on the sheet.
-- Assumes nothing.
use Prim.Native.Nat.{ℕ}
use mathlib.Core.Path.{◌≡◌, ap, ◌∙◌}
use mathlib.Core.List.{List}
use Rattle.model.specs.declared.Refusal.TheVariants.{ForeignSheet}
use Rattle.model.specs.Refusals.{refused, done}
use Rattle.model.specs.Book.{Problem}
use Rattle.model.specs.SheetReader.{trials_on, sheet_data}
use Rattle.model.specs.Values.{choice_of}
use Rattle.model.proofs.SheetLaws.{data_of}
use Rattle.std.specs.Prelude.{None}
use Rattle.chosen.specs.declared.OnSheet.{OnSheet}
use Rattle.chosen.specs.Chosen.{Stated, ChoiceOn}
use Rattle.chosen.proofs.SheetChoiceLaws.{then_foreign, then_read}

module _ (sheet : List ℕ) (b : Problem) where
  pub data_foreign : ChoiceOn sheet b None → refused ForeignSheet 0 ≡ sheet_data sheet b
  unfolding sheet_data
  data_foreign = then_foreign sheet b (λ c. done (data_of c (trials_on sheet)))

  pub data_read : (v : OnSheet) → Stated sheet b v → done (data_of (choice_of b v.picks) v.trials) ≡ sheet_data sheet b
  unfolding sheet_data
  data_read v on =
      ap (λ t. done (data_of (choice_of b v.picks) t)) on.trials ∙ then_read sheet b (λ c. done (data_of c (trials_on sheet))) v on
