-- The grid, admission and the plan (document 01, "Choice, sums and grid"; document 02, M-104 and M-105). None of these asks for the ratio of M-108, which a slot
-- has for its cells (Trials).
use Rattle.std.specs.Prelude.{ℕ, suc, ◌+◌, ◌*◌, ◌-◌, ◌/◌, ◌<◌, ◌≤◌, max, ◌≡◌, ◌⊎◌, Bool, cond, ◌&&◌, ◌||◌, List, [], ◌∷◌, map, leb, ltb, eqb, ℤ, pos, negsuc, neg_ℤ, ◌+ℤ◌, length}
use Rattle.std.proofs.Math.Option.{Option, none, some}
use Rattle.model.specs.Lists.{keep, all, Every}
use Rattle.model.specs.Book.{Power, no_power, Settings, Problem}
use Rattle.model.specs.Choice.{Choice, IsChoice, choices, worth_of, code_of, plus, power_in, sum_in, square, squareℤ, apparent_squared}

-- a slot: its place from 0, its limit S, its step L, and of the book the number N of loads and the ratio r
pub record Slot : Type 0 where
  pub place : ℕ
  pub limit : ℕ
  pub step : ℕ
  pub loads : ℕ
  pub ratio : ℕ

-- "For a slot with limit S, the step L is S div (N × d), but at least 1"
abbrev pub step_for : ℕ → ℕ → ℕ → ℕ
step_for n d s = max 1 (s / (n * d))

-- the slot at place i of a book with n loads, fineness d and ratio r, whose limit is s
abbrev pub slot_at : ℕ → ℕ → ℕ → ℕ → ℕ → Slot
slot_at n d r i s = record { place = i; limit = s; step = step_for n d s; loads = n; ratio = r }

abbrev pub slots_from : ℕ → ℕ → ℕ → ℕ → List ℕ → List Slot
slots_from n d r i [] = []
slots_from n d r i (s ∷ ss) = slot_at n d r i s ∷ slots_from n d r (suc i) ss

-- the slots of a book
unfoldable pub slots_of : Problem → List Slot
slots_of b = slots_from (length b.loads) b.fineness b.ratio 0 b.limits

-- the true sums keep P² + Q² ≤ S² in every slot
abbrev pub keeps_limits : List Slot → Choice → Bool
keeps_limits slots c = all (λ s. leb (apparent_squared (sum_in s.place c)) (square s.limit)) slots

-- ---- the grid

-- "The grid value of a power is that power divided by L, rounded toward minus infinity"
abbrev pub floor_div : ℤ → ℕ → ℤ
floor_div (pos n) l = pos (n / l)
floor_div (negsuc n) l = negsuc (n / l)

-- a grid pair (a, b): a stands in p, b in q
abbrev pub GridPair : Type 0
GridPair = Power

-- the grid values of a setting's P and Q
abbrev pub grid_of : ℕ → Power → GridPair
grid_of l x = record { p = x.p / l; q = floor_div x.q l }

-- "For a choice, a and b are the sums of the grid values of the chosen P and Q, each rounded first"; M-104: "Sums, grid values and H count the standing
-- pair where c is 0"
abbrev pub grid_in : Slot → Choice → GridPair
grid_in s [] = no_power
grid_in s (v ∷ c) = plus (grid_of s.step (power_in s.place v)) (grid_in s c)

-- the grid pairs of a choice, one for each slot
abbrev pub grids_of : List Slot → Choice → List GridPair
grids_of slots c = map (λ s. grid_in s c) slots

-- ---- admission

-- "Put e = N × (L - 1)"
abbrev pub spread_of : Slot → ℕ
spread_of s = s.loads * (s.step - 1)

abbrev pub times : ℤ → ℕ → ℤ
times (pos n) l = pos (n * l)
times (negsuc n) l = neg_ℤ (pos (suc n * l))

-- "The slot is admitted when some pair of whole numbers (p, q) with aL ≤ p ≤ aL + e and bL ≤ q ≤ bL + e has p² + q² ≤ S²":
-- p is aL + i, and q is bL + j
pub record Admissible (s : Slot) (g : GridPair) : Type 0 where
  pub i : ℕ
  pub j : ℕ
  pub i_fits : i ≤ spread_of s
  pub j_fits : j ≤ spread_of s
  pub inside : square (g.p * s.step + i) + squareℤ (times g.q s.step +ℤ pos j) ≤ square s.limit

-- |q| of "the q nearest to 0"
abbrev pub least_abs : ℕ → ℕ → ℤ → ℕ
least_abs l e (pos n) = n * l
least_abs l e (negsuc n) = suc n * l - e

-- "As a ≥ 0, only p = aL and the q nearest to 0 need be tried": the test of `Admissible` (proofs/AdmissionLaws, `admits-is`)
abbrev pub admits : Slot → GridPair → Bool
admits s g = leb (square (g.p * s.step) + square (least_abs s.step (spread_of s) g.q)) (square s.limit)

-- "A choice is admitted when all its slots are", and the test of it (proofs/AdmissionLaws, `admitted-is`)
abbrev pub Admitted : List Slot → Choice → Type 0
Admitted slots c = Every (λ s. Admissible s (grid_in s c)) slots

abbrev pub admitted : List Slot → Choice → Bool
admitted slots c = all (λ s. admits s (grid_in s c)) slots

-- ---- the plan

-- d is of greater worth than c, or of the same worth and smaller code
abbrev pub better : Choice → Choice → Bool
better d c = ltb (worth_of c) (worth_of d) || (eqb (worth_of c) (worth_of d) && ltb (code_of d) (code_of c))

abbrev pub better_of : Choice → Option Choice → Option Choice
better_of c none = some c
better_of c (some d) = some (cond (better d c) d c)

-- "of greatest worth; among equals, the smallest code"
abbrev pub best : List Choice → Option Choice
best [] = none
best (c ∷ cs) = better_of c (best cs)

-- the same order as a property: d is of less worth than c, or of the same worth and no smaller code
abbrev pub NoBetter : Choice → Choice → Type 0
NoBetter d c = (worth_of d < worth_of c) ⊎ ((worth_of d ≡ worth_of c) × (code_of c ≤ code_of d))

-- the best of the admitted choices of some loads
unfoldable pub best_admitted : List Slot → List Settings → Option Choice
best_admitted slots loads = best (keep (admitted slots) (choices loads))

-- "The plan is the admitted choice of greatest worth; among equals, the smallest code"; M-105: "best .. among the choices that run every such load", as a book
-- has no others (MustRun, `ChoicesRun`)
unfoldable pub plan : Problem → Option Choice
plan b = best_admitted (slots_of b) b.loads

-- the same sentence as a property, without a test or an order of trying (proofs/PlanLaws, `plan-is`)
pub record IsPlan (b : Problem) (c : Choice) : Type 0 where
  pub choice : IsChoice b.loads c
  pub admissible : Admitted (slots_of b) c
  pub greatest : (other : Choice) → IsChoice b.loads other → Admitted (slots_of b) other → NoBetter other c
