-- The sums of a choice: their entries and bounds, and what adding and exchanging a setting make of them.
-- Assumes nothing.
use mathlib.Core.Path.{◌≡◌, refl, sym, ap, ap₂, ◌∙◌}
use mathlib.Core.List.{List, [], ◌∷◌, map}
use Prim.Native.Nat.{ℕ, zero, suc, ◌+◌, ◌*◌, ◌/◌, ◌%◌, ◌<◌, ◌≤◌}
use native.Mathlib.Nat.{le_of_suc-le-suc}
use native.Mathlib.Numerals.{add-one}
use native.Mathlib.Omega.{arith}
use lib.ListN.{length, get_or, set, length-append, length-set, get_or-replicate}
use Rattle.model.specs.Lists.{Mem, Every, upto}
use Rattle.model.specs.Bounds.{most_loads}
use Rattle.model.specs.Book.{Power, Setting, Settings, Problem}
use Rattle.model.specs.Choice.{Choice, IsChoice, no_setting, setting_of, least_of, plus, power_in, sum_in}
use Rattle.model.specs.Valid.{SettingSmall, ValidBook}
use Rattle.model.specs.Values.{raised_by, load_value}
use Rattle.model.proofs.ListLaws.{every_at, every_set}
use Rattle.model.proofs.UptoLaws.{get_d_upto, upto_is}
use Rattle.model.proofs.ChoiceLaws.{snoc, plus_comm, sum_last}
use Rattle.model.proofs.PlanLaws.{chosen_length}
use Rattle.model.proofs.QuickLaws.{sum-set}
use Rattle.model.proofs.RaisedLaws.{raised_one, raised-plus, raised_most}
use Rattle.model.proofs.SumLaws.{PowerSmall, power_small, sum-small, choice-small, choice-few}
use Rattle.model.proofs.NumberLaws.{setting_small, offers_one, offered_mem}
use Rattle.model.proofs.ValidLaws.{load_labelled}
use Rattle.model.proofs.HeldLaws.{load_active, load_reactive, loads-small, value_least}
use Rattle.sums.specs.Sums.{sums_value, shifted_in, shifted, no_powers, added, exchanged, Small, SumsSmall, CanShift, CanAdd, CanExchange}

-- ---- what an array holds for a sum x of n powers: P, or Q + 32,768 n

record Additive (entry : ℕ → Power → ℕ) : Type 0 where
  pub add : (n : ℕ) (x y : Power) → PowerSmall n x → PowerSmall 1 y → entry (n + 1) (plus x y) ≡ entry n x + entry 1 y
  pub most : (n : ℕ) (x : Power) → PowerSmall n x → entry n x ≤ 65536 * n

abbrev active_of : ℕ → Power → ℕ
active_of n x = x.p

abbrev reactive_of : ℕ → Power → ℕ
reactive_of n x = raised_by n x.q

active_adds : Additive active_of
active_adds = record { add = λ n x y h k. refl; most = λ n x h. omega arith }

reactive_adds : Additive reactive_of
reactive_adds =
    record {
      add = λ n x y h k. raised-plus n 1 x.q y.q h.reactive k.reactive;
      most = λ n x h. raised_most n x.q h.reactive;
    }

-- the array of a choice's sums
abbrev entries_of : (ℕ → Power → ℕ) → Choice → List ℕ
entries_of entry c = map (λ s. entry (length c) (sum_in s c)) (upto 4)

entry_at : (entry : ℕ → Power → ℕ) (c : Choice) (s : ℕ) → s < 4 → get_or (entries_of entry c) s 0 ≡ entry (length c) (sum_in s c)
entry_at entry c s four = get_d_upto (λ i. entry (length c) (sum_in i c)) 4 s 0 four

module _ {entry : ℕ → Power → ℕ} (adds : Additive entry) (c : Choice) (small : Every SettingSmall c) where
  entries_small : length c ≤ most_loads → Small 4 (entries_of entry c)
  entries_small few s h = omega (arith, entry_at entry c s h, adds.most (length c) (sum_in s c) (sum-small c small s))

  entry_more : (v : Setting) → SettingSmall v → (s : ℕ)
      → entry (length c + 1) (plus (sum_in s c) (power_in s v)) ≡ entry (length c) (sum_in s c) + entry 1 (power_in s v)
  entry_more v w s = adds.add (length c) (sum_in s c) (power_in s v) (sum-small c small s) (power_small v w s)

  entry_first : (v : Setting) → SettingSmall v → (s : ℕ)
      → entry (suc (length c)) (plus (power_in s v) (sum_in s c)) ≡ entry (length c) (sum_in s c) + entry 1 (power_in s v)
  entry_first v w s = ap₂ entry (sym (add-one (length c))) (plus_comm (power_in s v) (sum_in s c)) ∙ entry_more v w s

-- no setting's entry is more than the sum's
entry_part : {entry : ℕ → Power → ℕ} → Additive entry → (c : Choice) → Every SettingSmall c → (k : ℕ) (d : Setting) (s : ℕ) → k < length c
    → entry 1 (power_in s (get_or c k d)) ≤ entry (length c) (sum_in s c)
entry_part adds [] small k d s h = absurd (omega arith)
entry_part adds (v ∷ c) small zero d s h = omega (arith, entry_first adds c small.1 v small.0 s)
entry_part adds (v ∷ c) small (suc k) d s h =
    omega (arith, entry_first adds c small.1 v small.0 s, entry_part adds c small.1 k d s (le_of_suc-le-suc h))

-- an array of a load's powers
record PowersOf (entry : ℕ → Power → ℕ) (vs : Settings) (powers : List ℕ) : Type 0 where
  pub adds : Additive entry
  pub small : Every SettingSmall vs
  pub at : (j s : ℕ) → j < 4 → s < 4 → get_or powers (4 * j + s) 0 ≡ entry 1 (power_in s (setting_of vs j))

-- ---- the array shifted

none_at : (s : ℕ) → s < 4 → get_or no_powers (4 * 0 + s) 0 ≡ 0
none_at s h = get_or-replicate 16 (4 * 0 + s) 0 0 (omega arith)

module _ {entry : ℕ → Power → ℕ} {vs : Settings} {powers : List ℕ} (l : PowersOf entry vs powers) (c : Choice) (small : Every SettingSmall c) where
  powers_small : Small 16 powers
  powers_small k h =
      let j = k / 4 in
      let s = k % 4 in
      let place : 4 * j + s ≡ k = omega arith in
      let most = l.adds.most 1 (power_in s (setting_of vs j)) (power_small (setting_of vs j) (setting_small vs l.small j) s) in
      omega (arith, ap (λ i. get_or powers i 0) place, l.at j s (omega arith) (omega arith))

  can_shift : (j : ℕ) (less : List ℕ) (i : ℕ) → length c ≤ most_loads → j < 4 → i < 4
      → ((s : ℕ) → s < 4 → get_or less (4 * i + s) 0 ≤ get_or (entries_of entry c) s 0) → CanShift (entries_of entry c) powers j less i
  can_shift j less i few place source counted =
      record { sums_small = entries_small l.adds c small few; powers_small = powers_small; place = place; source = source; counted = counted }

  -- the array of c', whose entries and setting i of `less` are as much as those of c and setting j
  shifted_to : (j : ℕ) (less : List ℕ) (i : ℕ) (c' : Choice) → j < 4
      → ((s : ℕ) → s < 4 → entry (length c') (sum_in s c') + get_or less (4 * i + s) 0 ≡ entry (length c + 1) (plus (sum_in s c) (power_in s (setting_of vs j))))
      → shifted (entries_of entry c) powers j less i ≡ entries_of entry c'
  unfolding shifted
  shifted_to j less i c' place same =
      upto_is (shifted_in (entries_of entry c) powers j less i) (entries_of entry c') 0
      (λ s h. omega (arith, entry_at entry c s h, entry_at entry c' s h, l.at j s place h, same s h, entry_more l.adds c small (setting_of vs j) (setting_small vs l.small j) s))

  can_shift-more : (j : ℕ) → length c ≤ most_loads → j < 4 → CanShift (entries_of entry c) powers j no_powers 0
  can_shift-more j few place = can_shift j no_powers 0 few place (omega arith) (λ s h. omega (arith, none_at s h))

  shifted-more : (j : ℕ) → j < 4 → shifted (entries_of entry c) powers j no_powers 0 ≡ entries_of entry (snoc (setting_of vs j) c)
  shifted-more j place =
      let v = setting_of vs j in
      shifted_to j no_powers 0 (snoc v c) place
      (λ s h. omega (arith, none_at s h, ap₂ entry (length-append c (v ∷ [])) (sum_last s c v)))

  -- load k + 1 has setting i
  module _ (k i : ℕ) (inside : k < length c) (four : i < 4) (has : get_or c k no_setting ≡ setting_of vs i) where
    has_at : (s : ℕ) → s < 4 → get_or powers (4 * i + s) 0 ≡ entry 1 (power_in s (get_or c k no_setting))
    has_at s h = l.at i s four h ∙ ap (λ v. entry 1 (power_in s v)) (sym has)

    can_shift-set : length c ≤ most_loads → CanShift (entries_of entry c) powers 1 powers i
    can_shift-set few =
        can_shift 1 powers i few (omega arith) four
        (λ s h. omega (arith, has_at s h, entry_at entry c s h, entry_part l.adds c small k no_setting s inside))

    shifted-set : shifted (entries_of entry c) powers 1 powers i ≡ entries_of entry (set c k (setting_of vs 1))
    shifted-set =
        let v = setting_of vs 1 in
        let u = get_or c k no_setting in
        let w = every_set SettingSmall c k v small (setting_small vs l.small 1) in
        shifted_to 1 powers i (set c k v) (omega arith)
        (λ s h.
        let same : entry (length (set c k v) + 1) (plus (sum_in s (set c k v)) (power_in s u)) ≡ entry (length c + 1) (plus (sum_in s c) (power_in s v))
        = ap₂ (λ n x. entry (n + 1) x) (length-set c k v) (sum-set s c k v no_setting inside) in
        omega (arith, same, has_at s h, entry_more l.adds (set c k v) w u (every_at SettingSmall c no_setting small k inside) s))

-- ---- the values that hold the sums and a load

module _ (c : Choice) (s : ℕ) (four : s < 4) where
  pub sums-active : get_or (sums_value c).actives s 0 ≡ (sum_in s c).p
  unfolding sums_value
  sums-active = entry_at active_of c s four

  pub sums-reactive : get_or (sums_value c).reactives s 0 ≡ raised_by (length c) (sum_in s c).q
  unfolding sums_value
  sums-reactive = entry_at reactive_of c s four

actives_of : (vs : Settings) → Every SettingSmall vs → PowersOf active_of vs (load_value vs).actives
actives_of vs sized = record { adds = active_adds; small = sized; at = load_active vs }

reactives_of : (vs : Settings) → Every SettingSmall vs → PowersOf reactive_of vs (load_value vs).reactives
reactives_of vs sized =
    record { adds = reactive_adds; small = sized; at = λ j s p h. load_reactive vs j s p h ∙ raised_one (power_in s (setting_of vs j)).q }

pub sums_small : (c : Choice) → Every SettingSmall c → length c ≤ most_loads → SumsSmall (sums_value c)
unfolding sums_value
sums_small c small few = record { active = entries_small active_adds c small few; reactive = entries_small reactive_adds c small few }

pub can_add : (c : Choice) (vs : Settings) (j : ℕ) → Every SettingSmall c → length c ≤ most_loads → Every SettingSmall vs → j < 4
    → CanAdd (sums_value c) (load_value vs) j
unfolding sums_value
can_add c vs j small few sized place =
    record { active = can_shift-more (actives_of vs sized) c small j few place; reactive = can_shift-more (reactives_of vs sized) c small j few place }

pub added_last : (c : Choice) (vs : Settings) (j : ℕ) → Every SettingSmall c → Every SettingSmall vs → j < 4
    → added (sums_value c) (load_value vs) j ≡ sums_value (snoc (setting_of vs j) c)
unfolding added sums_value
added_last c vs j small sized place =
    cc (shifted-more (actives_of vs sized) c small j place, shifted-more (reactives_of vs sized) c small j place)

-- load k + 1 has its least setting
module _ (c : Choice) (vs : Settings) (k : ℕ) (small : Every SettingSmall c) (sized : Every SettingSmall vs) (inside : k < length c)
    (few : least_of vs < 4) (has : get_or c k no_setting ≡ setting_of vs (least_of vs)) where
  can_exchange : length c ≤ most_loads → CanExchange (sums_value c) (load_value vs)
  unfolding sums_value
  can_exchange n =
      record {
        active = rw (value_least vs) (can_shift-set (actives_of vs sized) c small k (least_of vs) inside few has n);
        reactive = rw (value_least vs) (can_shift-set (reactives_of vs sized) c small k (least_of vs) inside few has n);
      }

  exchanged-set : exchanged (sums_value c) (load_value vs) ≡ sums_value (set c k (setting_of vs 1))
  unfolding exchanged sums_value
  exchanged-set =
      cc (value_least vs, shifted-set (actives_of vs sized) c small k (least_of vs) inside few has, shifted-set (reactives_of vs sized) c small k (least_of vs) inside few has)

-- ---- choices of a valid book

set-choice : (loads : List Settings) (c : Choice) (k : ℕ) (v : Setting) → IsChoice loads c → k < length loads → Mem v (get_or loads k [])
    → IsChoice loads (set c k v)
set-choice [] c k v m h n = absurd (omega arith)
set-choice (vs ∷ loads) [] k v m h n = absurd m
set-choice (vs ∷ loads) (u ∷ c) zero v m h n = (n, m.1)
set-choice (vs ∷ loads) (u ∷ c) (suc k) v m h n = (m.0, set-choice loads c k v m.1 (le_of_suc-le-suc h) n)

module _ (b : Problem) (valid : ValidBook b) where
  module _ (c : Choice) (chosen : IsChoice b.loads c) where
    pub choice-sums : SumsSmall (sums_value c)
    choice-sums = sums_small c (choice-small b valid c chosen) (choice-few b valid c chosen)

    -- load k + 1 has its least setting
    module _ (k : ℕ) (inside : k < length b.loads) (has : get_or c k no_setting ≡ setting_of (get_or b.loads k []) (least_of (get_or b.loads k []))) where
      least-few : least_of (get_or b.loads k []) < 4
      least-few = omega (arith, (load_labelled valid k inside).least)

      pub choice_can_exchange : CanExchange (sums_value c) (load_value (get_or b.loads k []))
      choice_can_exchange =
          can_exchange c (get_or b.loads k []) k (choice-small b valid c chosen) (loads-small b valid k) (omega (arith, chosen_length b.loads c chosen)) least-few has
          (choice-few b valid c chosen)

      pub choice-exchanged : exchanged (sums_value c) (load_value (get_or b.loads k [])) ≡ sums_value (set c k (setting_of (get_or b.loads k []) 1))
      choice-exchanged =
          exchanged-set c (get_or b.loads k []) k (choice-small b valid c chosen) (loads-small b valid k) (omega (arith, chosen_length b.loads c chosen)) least-few has

      pub choice-set : IsChoice b.loads (set c k (setting_of (get_or b.loads k []) 1))
      choice-set =
          set-choice b.loads c k (setting_of (get_or b.loads k []) 1) chosen inside
          (offered_mem (get_or b.loads k []) (load_labelled valid k inside) 1 (offers_one (get_or b.loads k []) (load_labelled valid k inside)))
