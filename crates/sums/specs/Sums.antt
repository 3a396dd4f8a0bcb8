-- What a value of the declared type Sums holds, and what the functions on it do (src/lib.rt).
use Rattle.std.specs.Prelude.{ℕ, ◌+◌, ◌-◌, ◌*◌, ◌<◌, ◌≤◌, List, map, length, get_or, replicate}
use Rattle.model.specs.declared.Load.{Load}
use Rattle.model.specs.Lists.{upto}
use Rattle.model.specs.Bounds.{most_slots, most_settings, most_powers}
use Rattle.model.specs.Choice.{Choice, sum_in}
use Rattle.model.specs.Values.{raised_by}
use Rattle.sums.specs.declared.Sums.{Sums}

-- the value that holds the true sums of a choice, slot by slot
unfoldable pub sums_value : Choice → Sums
sums_value c =
    record {
      actives = map (λ s. (sum_in s c).p) (upto most_slots);
      reactives = map (λ s. raised_by (length c) (sum_in s c).q) (upto most_slots);
    }

-- the sums of P, or of Q, with setting c of a load's `powers` more and setting `from` of `less` less: in slot s, and in each slot
abbrev pub shifted_in : List ℕ → List ℕ → ℕ → List ℕ → ℕ → ℕ → ℕ
shifted_in sums powers c less from s = get_or sums s 0 + get_or powers (most_slots * c + s) 0 - get_or less (most_slots * from + s) 0

unfoldable pub shifted : List ℕ → List ℕ → ℕ → List ℕ → ℕ → List ℕ
shifted sums powers c less from = map (shifted_in sums powers c less from) (upto most_slots)

abbrev pub no_powers : List ℕ
no_powers = replicate most_powers 0

-- the sums with setting c of one load more
unfoldable pub added : Sums → Load → ℕ → Sums
added v l c =
    record {
      actives = shifted v.actives l.actives c no_powers 0;
      reactives = shifted v.reactives l.reactives c no_powers 0;
    }

-- the sums with setting 1 of a load in place of its least setting
unfoldable pub exchanged : Sums → Load → Sums
exchanged v l =
    record {
      actives = shifted v.actives l.actives 1 l.actives l.least;
      reactives = shifted v.reactives l.reactives 1 l.reactives l.least;
    }

-- ---- what the functions require

-- the first n entries are below 2^31: no sum of two and no sum of two squares of them wraps
abbrev pub Small : ℕ → List ℕ → Type 0
Small n xs = (k : ℕ) → k < n → get_or xs k 0 < 2_147_483_648

pub record SumsSmall (v : Sums) : Type 0 where
  pub active : Small most_slots v.actives
  pub reactive : Small most_slots v.reactives

-- the sums count what is taken away
pub record CanShift (sums powers : List ℕ) (c : ℕ) (less : List ℕ) (from : ℕ) : Type 0 where
  pub sums_small : Small most_slots sums
  pub powers_small : Small most_powers powers
  pub place : c < most_settings
  pub source : from < most_settings
  pub counted : (s : ℕ) → s < most_slots → get_or less (most_slots * from + s) 0 ≤ get_or sums s 0

pub record CanAdd (v : Sums) (l : Load) (c : ℕ) : Type 0 where
  pub active : CanShift v.actives l.actives c no_powers 0
  pub reactive : CanShift v.reactives l.reactives c no_powers 0

pub record CanExchange (v : Sums) (l : Load) : Type 0 where
  pub active : CanShift v.actives l.actives 1 l.actives l.least
  pub reactive : CanShift v.reactives l.reactives 1 l.reactives l.least
