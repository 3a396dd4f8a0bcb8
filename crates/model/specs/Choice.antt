-- Choices, their worth, code and true sums (document 01, "Choice, sums and grid"; document 02, M-104 and M-105).
use Rattle.std.specs.Prelude.{ℕ, zero, suc, ◌+◌, ◌*◌, ◌/◌, ◌%◌, Bool, cond, not, List, [], ◌∷◌, ◌++◌, map, eqb, ℤ, pos, negsuc, ◌+ℤ◌, get_or}
use Rattle.std.proofs.Math.Option.{Option, none, some}
use Rattle.model.specs.Lists.{Mem}
use Rattle.model.specs.Book.{Power, no_power, Setting, Settings}

-- "A choice gives each load k (1 to N, in book order) a number c": here the setting of that number, one that the load offers
abbrev pub Choice : Type 0
Choice = List Setting

-- one setting of each load, in book order
abbrev pub IsChoice : List Settings → Choice → Type 0
IsChoice [] [] = Unit {0}
IsChoice [] (v ∷ c) = ⊥
IsChoice (vs ∷ loads) [] = ⊥
IsChoice (vs ∷ loads) (v ∷ c) = Mem v vs × IsChoice loads c

-- each setting of a load before each choice of the loads after it
abbrev pub with_each : Settings → List Choice → List Choice
with_each vs [] = []
with_each vs (c ∷ cs) = map (λ v. v ∷ c) vs ++ with_each vs cs

-- all choices, by ascending code
abbrev pub choices : List Settings → List Choice
choices [] = [] ∷ []
choices (vs ∷ loads) = with_each vs (choices loads)

-- "Its worth is the sum of the worths of the chosen options"
abbrev pub worth_of : Choice → ℕ
worth_of [] = 0
worth_of (v ∷ c) = v.worth + worth_of c

-- "Its code is the sum of c × 4^(k-1)"
abbrev pub code_of : Choice → ℕ
code_of [] = 0
code_of (v ∷ c) = v.number + 4 * code_of c

-- n digits to the base 4, the lowest first: the numbers c of n loads, from a code
abbrev pub decode : ℕ → ℕ → List ℕ
decode zero x = []
decode (suc n) x = x % 4 ∷ decode n (x / 4)

-- the setting with a number, if the load has it
abbrev pub setting_numbered : ℕ → Settings → Option Setting
setting_numbered n [] = none
setting_numbered n (v ∷ vs) = cond (eqb v.number n) (some v) (setting_numbered n vs)

-- what stands for a setting that a load does not have
abbrev pub no_setting : Setting
no_setting = record { number = 0; worth = 0; powers = [] }

abbrev pub setting_or : Option Setting → Setting
setting_or none = no_setting
setting_or (some v) = v

-- setting c of a load, which is the one with that number, wherever it stands in the list
unfoldable pub setting_of : Settings → ℕ → Setting
setting_of vs c = setting_or (setting_numbered c vs)

-- for document 02 (M-101, M-103): load k's number c, its level where it runs; there is no load 0
abbrev pub level_on : Choice → ℕ → ℕ
level_on c zero = 0
level_on c (suc k) = (get_or c k no_setting).number

-- load k runs: its c is not 0
abbrev pub running_on : Choice → ℕ → Bool
running_on c k = not (eqb (level_on c k) 0)

-- the first setting of a load; every load that is read has one
abbrev pub first_setting : Settings → Setting
first_setting vs = get_or vs 0 no_setting

-- the least number that a load's settings have, as they go by ascending number: 0, or 1 for a load that must run
abbrev pub least_of : Settings → ℕ
least_of vs = (first_setting vs).number

abbrev pub plus : Power → Power → Power
plus x y = record { p = x.p + y.p; q = x.q +ℤ y.q }

-- the power of a setting in a slot; slots are counted from 0
abbrev pub power_in : ℕ → Setting → Power
power_in slot v = get_or v.powers slot no_power

-- "Its sums in a slot, also called its true sums, are those of the chosen P and Q, unrounded"; document 02, M-104: "Sums, grid values and H count the
-- standing pair where c is 0"
abbrev pub sum_in : ℕ → Choice → Power
sum_in slot [] = no_power
sum_in slot (v ∷ c) = plus (power_in slot v) (sum_in slot c)

abbrev pub square : ℕ → ℕ
square x = x * x

abbrev pub squareℤ : ℤ → ℕ
squareℤ (pos n) = n * n
squareℤ (negsuc n) = suc n * suc n

-- P² + Q², the square of the apparent power
abbrev pub apparent_squared : Power → ℕ
apparent_squared x = square x.p + squareℤ x.q
