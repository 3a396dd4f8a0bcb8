-- What is known of a value that holds a valid book, and of the settings that it holds.
-- Assumes nothing.
use mathlib.Core.Path.{◌≡◌, refl, sym, ap, subst, ◌∙◌}
use mathlib.Core.List.{[], map}
use Prim.Native.Nat.{ℕ, ◌+◌, ◌*◌, ◌<◌, ◌≤◌}
use native.Mathlib.Omega.{arith}
use lib.ListN.{length, get_or}
use Rattle.model.specs.declared.Book.{Book}
use Rattle.model.specs.declared.Load.{Load}
use Rattle.model.specs.Lists.{Every, upto}
use Rattle.model.specs.Bounds.{most_loads, most_limit}
use Rattle.model.specs.Book.{Settings, Problem, Power}
use Rattle.model.specs.Choice.{setting_of, least_of, power_in}
use Rattle.model.specs.Valid.{ValidBook, SettingSmall}
use Rattle.model.specs.Values.{Held, load_value, book_value, problem_of, power_of, raised}
use Rattle.model.proofs.ListLaws.{every_get_d}
use Rattle.model.proofs.UptoLaws.{get_d_upto}
use Rattle.model.proofs.ValueLaws.{held_kept, power_at_lem}

-- ---- the book

-- what the logic reads past the end of the loads
abbrev pub no_load : Load
no_load = record { settings = 0; worths = []; actives = []; reactives = []; least = 0 }

module _ (v : Book) (h : Held v) where
  pub held-valid : ValidBook (problem_of v)
  held-valid = subst ValidBook (sym (held_kept v h)) h.valid

  held-is : v ≡ book_value (problem_of v)
  held-is = h.is ∙ ap book_value (sym (held_kept v h))

  pub held-count : v.count ≡ length (problem_of v).loads
  unfolding book_value
  held-count = ap (λ (x : Book). x.count) held-is

  pub held-few : v.count ≤ most_loads
  held-few = omega (arith, held-count, held-valid.loads_few)

  pub held-slots : v.slots ≡ length (problem_of v).limits
  unfolding book_value
  held-slots = ap (λ (x : Book). x.slots) held-is

  pub held_four : v.slots ≤ 4
  held_four = omega (arith, held-slots, held-valid.slots_few)

  pub held-limit : (s : ℕ) → s < 4 → get_or v.limits s 0 ≡ get_or (problem_of v).limits s 0
  unfolding book_value
  held-limit s l = ap (λ (x : Book). get_or x.limits s 0) held-is ∙ get_d_upto (λ i. get_or (problem_of v).limits i 0) 4 s 0 l

  pub held-limit-small : (s : ℕ) → s < 4 → get_or v.limits s 0 ≤ most_limit
  held-limit-small s l =
      omega (arith, held-limit s l, every_get_d (λ x. x ≤ most_limit) (problem_of v).limits 0 (omega arith) held-valid.limits_small s)

  pub held_load : (k : ℕ) (d : Load) → k < most_loads → get_or v.loads k d ≡ load_value (get_or (problem_of v).loads k [])
  unfolding book_value
  held_load k d l =
      ap (λ (x : Book). get_or x.loads k d) held-is ∙ get_d_upto (λ i. load_value (get_or (problem_of v).loads i [])) most_loads k d l

  pub held_at : (k : ℕ) (d : Load) → k < v.count → get_or v.loads k d ≡ load_value (get_or (problem_of v).loads k [])
  held_at k d l = held_load k d (omega (arith, held-few))

-- ---- settings

pub value_least : (vs : Settings) → (load_value vs).least ≡ least_of vs
unfolding load_value
value_least vs = refl

pub value_count : (vs : Settings) → (load_value vs).settings ≡ length vs
unfolding load_value
value_count vs = refl

pub loads-small : (b : Problem) → ValidBook b → (k : ℕ) → Every SettingSmall (get_or b.loads k [])
loads-small b valid k = every_get_d (Every SettingSmall) b.loads [] tt valid.loads.small k

module _ (vs : Settings) (c s : ℕ) (places : c < 4) (four : s < 4) where
  load_entry : (f : Power → ℕ) → get_or (map (λ i. f (power_of vs i)) (upto 16)) (4 * c + s) 0 ≡ f (power_in s (setting_of vs c))
  load_entry f = get_d_upto (λ i. f (power_of vs i)) 16 (4 * c + s) 0 (omega arith) ∙ ap f (power_at_lem vs c s four)

  pub load_active : get_or (load_value vs).actives (4 * c + s) 0 ≡ (power_in s (setting_of vs c)).p
  unfolding load_value
  load_active = load_entry (λ x. x.p)

  pub load_reactive : get_or (load_value vs).reactives (4 * c + s) 0 ≡ raised (power_in s (setting_of vs c)).q
  unfolding load_value
  load_reactive = load_entry (λ x. raised x.q)
