-- Refusals, their numbers, and "The first that applies is given" (document 01, "Refusals by number"; from 14 on document 02).
use Rattle.std.specs.Prelude.{ℕ, Bool, cond, List, [], ◌∷◌, Ok, Err, ⊤}
use Rattle.std.specs.Prelude as std
use Rattle.model.specs.declared.Refusal.{Refusal}
use Rattle.model.specs.declared.Refusal.TheVariants.{Unterminated, NotHex, WrongKind, SlotsOrOptionsOutOfRange, WrongLength, LoadsOrFinenessOutOfRange, ReactiveExceedsActive, TrailingBytes, TooManyCells, WorkTooSmall, BufferTooSmall, BudgetExceeded, ForeignSheet, WrongPriceCount, WrongNames, NamedLoadStands, NoPlan, TooManyBooks, OutputTooLong, TooCoarse, SlotsOrFinenessDiffer, TooManyLoads, LimitSumTooLarge}

-- the number; document 01's word, or document 02's request, stands beside it
abbrev pub number_of : Refusal → ℕ
number_of Unterminated = 1  -- torn
number_of NotHex = 2  -- smudged
number_of WrongKind = 3  -- stray
number_of SlotsOrOptionsOutOfRange = 4  -- crowded
number_of WrongLength = 5  -- misshapen
number_of LoadsOrFinenessOutOfRange = 6  -- beyond; M-108: the ratio too
number_of ReactiveExceedsActive = 7  -- slack; M-108: by the ratio
number_of TrailingBytes = 8  -- trailing
number_of TooManyCells = 9  -- oversize
number_of WorkTooSmall = 10  -- cramped
number_of BufferTooSmall = 11  -- no sheet
number_of BudgetExceeded = 12  -- spent
number_of ForeignSheet = 13  -- foreign
number_of WrongPriceCount = 14  -- M-100
number_of WrongNames = 15  -- M-101
number_of NamedLoadStands = 16  -- M-101
number_of NoPlan = 17  -- M-104
number_of TooManyBooks = 18  -- M-107
number_of OutputTooLong = 19  -- M-107
number_of TooCoarse = 20  -- M-109
number_of SlotsOrFinenessDiffer = 21  -- M-110
number_of TooManyLoads = 22  -- M-110
number_of LimitSumTooLarge = 23  -- M-110

-- a row of the table: whether it applies, and the refusal
pub record Rule : Type 0 where
  pub applies : Bool
  pub refusal : Refusal

infix 20 ◌⇒◌
abbrev pub ◌⇒◌ : Bool → Refusal → Rule
b ⇒ r = record { applies = b; refusal = r }

-- what the table says: none applies, or the first that does
abbrev pub Finding : Type 0
Finding = std.Result ⊤ Refusal

-- "The first that applies is given, and none that doesn't apply"
unfoldable pub first : List Rule → Finding
first [] = Ok tt
first (r ∷ rs) = cond r.applies (Err r.refusal) (first rs)

-- a result, or a refusal with the number of its line
pub data Result (A : Type 0) : Type 0 where
  refused : Refusal → ℕ → Result A
  done : A → Result A

module _ {A : Type 0} where
  -- a refusal that was found on a line, or else the result
  abbrev pub checked : ℕ → Finding → Result A → Result A
  checked number (Ok tt) x = x
  checked number (Err r) x = refused r number

module _ {A B : Type 0} where
  -- go on with a result
  abbrev pub and_then : Result A → (A → Result B) → Result B
  and_then (refused r number) f = refused r number
  and_then (done x) f = f x
