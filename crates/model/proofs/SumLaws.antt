-- The sums of a choice are small where its settings are, as those of a valid book's choices are.
-- Assumes nothing.
use mathlib.Core.List.{[], ◌∷◌}
use Prim.Native.Nat.{ℕ, ◌*◌, ◌≤◌}
use native.Mathlib.Omega.{arith}
use lib.IntN.{nat_abs}
use lib.ListN.{length}
use Rattle.model.specs.Lists.{Every}
use Rattle.model.specs.Bounds.{most_loads}
use Rattle.model.specs.Book.{Power, Setting, Problem}
use Rattle.model.specs.Choice.{Choice, IsChoice, power_in, sum_in}
use Rattle.model.specs.Valid.{SettingSmall, ValidBook}
use Rattle.model.proofs.ListLaws.{every_mem}
use Rattle.model.proofs.ChoiceLaws.{choice_every}
use Rattle.model.proofs.PlanLaws.{chosen_length}
use Rattle.model.proofs.RaisedLaws.{abs_plus}

-- a sum of n powers
pub record PowerSmall (n : ℕ) (x : Power) : Type 0 where
  pub active : x.p ≤ 65535 * n
  pub reactive : nat_abs x.q ≤ 32768 * n

pub power_small : (v : Setting) → SettingSmall v → (s : ℕ) → PowerSmall 1 (power_in s v)
power_small v h s = omega (arith, h.active s, h.reactive s)

pub sum-small : (c : Choice) → Every SettingSmall c → (s : ℕ) → PowerSmall (length c) (sum_in s c)
sum-small [] h s = omega arith
sum-small (v ∷ c) h s =
    omega (arith, sum-small c h.1 s, h.0.active s, h.0.reactive s, abs_plus (power_in s v).q (sum_in s c).q)

module _ (b : Problem) (valid : ValidBook b) (c : Choice) (chosen : IsChoice b.loads c) where
  pub choice-small : Every SettingSmall c
  choice-small = choice_every (Every SettingSmall) SettingSmall (λ vs v h n. every_mem SettingSmall v vs n h) b.loads c valid.loads.small chosen

  pub choice-few : length c ≤ most_loads
  choice-few = omega (arith, chosen_length b.loads c chosen, valid.loads_few)
