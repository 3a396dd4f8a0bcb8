-- What the values of the declared types Load and Book hold (src/lib.rt).
use Rattle.std.specs.Prelude.{ℕ, suc, ◌+◌, ◌-◌, ◌*◌, ◌/◌, ◌%◌, ◌<◌, ◌≤◌, ◌≡◌, List, [], map, ℤ, pos, negsuc, length, get_or, take, replicate, Ok, Err}
use Rattle.std.specs.Prelude as std
use Rattle.std.proofs.Math.IntN.{sub_ℕ}
use Rattle.model.specs.declared.Book.{Book}
use Rattle.model.specs.declared.Load.{Load}
use Rattle.model.specs.declared.Refused.{Refused}
use Rattle.model.specs.Lists.{upto_from, upto}
use Rattle.model.specs.Bounds.{most_slots, most_loads, most_settings, most_powers}
use Rattle.model.specs.Refusals.{Result, refused, done}
use Rattle.model.specs.Book.{Power, Setting, Settings, Problem}
use Rattle.model.specs.Choice.{Choice, IsChoice, code_of, decode, setting_of, least_of, power_in}
use Rattle.model.specs.Valid.{ValidBook}

-- Q + 32,768, which is not negative for a Q of 16 bits
unfoldable pub raised : ℤ → ℕ
raised (pos n) = n + 32768
raised (negsuc n) = 32767 - n

-- the Q that is held as n
abbrev pub lowered : ℕ → ℤ
lowered n = sub_ℕ n 32768

-- q + 32,768 n, which is not negative for the sum of n reactive powers of 16 bits
unfoldable pub raised_by : ℕ → ℤ → ℕ
raised_by n (pos k) = k + 32768 * n
raised_by n (negsuc k) = 32768 * n - suc k

-- the power at place 4 c + s of a load's arrays: of setting c in slot s
unfoldable pub power_of : Settings → ℕ → Power
power_of vs k = power_in (k % most_slots) (setting_of vs (k / most_slots))

-- the value that holds a load's settings; where it has no setting of that number, and past the last slot, stand no worth and no power
unfoldable pub load_value : Settings → Load
load_value vs =
    record {
      settings = length vs;
      worths = map (λ c. (setting_of vs c).worth) (upto most_settings);
      actives = map (λ k. (power_of vs k).p) (upto most_powers);
      reactives = map (λ k. raised (power_of vs k).q) (upto most_powers);
      least = least_of vs;
    }

-- the value that holds a book; past the last load stand loads with no settings
unfoldable pub book_value : Problem → Book
book_value b =
    record {
      slots = length b.limits;
      count = length b.loads;
      fineness = b.fineness;
      ratio = b.ratio;
      budget = b.budget;
      limits = map (λ s. get_or b.limits s 0) (upto most_slots);
      loads = map (λ k. load_value (get_or b.loads k [])) (upto most_loads);
    }

-- a book with nothing in it
unfoldable pub fresh_book : Book
fresh_book =
    record { slots = 0; count = 0; fineness = 0; ratio = 0; budget = 0; limits = replicate most_slots 0; loads = replicate most_loads (load_value []) }

-- what the book reader gives: the value that holds the book, or the refusal and its line
abbrev pub reading_of : Result Problem → std.Result Book Refused
reading_of (refused r line) = Err (record { refusal = r; line = line })
reading_of (done b) = Ok (book_value b)

-- a value that holds a valid book
pub record Held (v : Book) : Type 0 where
  pub b : Problem
  pub valid : ValidBook b
  pub is : v ≡ book_value b

-- the setting of load k + 1 whose number c stands at place k of an array
abbrev pub pick_of : Problem → List ℕ → ℕ → Setting
pick_of b picks k = setting_of (get_or b.loads k []) (get_or picks k 0)

-- the choice whose numbers stand in an array
unfoldable pub choice_of : Problem → List ℕ → Choice
choice_of b picks = map (pick_of b picks) (upto (length b.loads))

-- the choice that has a code
abbrev pub choice_coded : Problem → ℕ → Choice
choice_coded b code = choice_of b (decode (length b.loads) code)

-- a choice of the book has this code
pub record IsCode (b : Problem) (code : ℕ) : Type 0 where
  pub choice : Choice
  pub of_book : IsChoice b.loads choice
  pub is : code ≡ code_of choice

-- c is the number of one of a load's settings, as these go from its least on
abbrev pub Offers : Settings → ℕ → Type 0
Offers vs c = (least_of vs ≤ c) × (c < least_of vs + length vs)

-- each is the number of a setting of its load
abbrev pub Picked : Problem → List ℕ → Type 0
Picked b picks = (k : ℕ) → k < length b.loads → Offers (get_or b.loads k []) (get_or picks k 0)

-- ---- the settings and the book that a value holds: nothing of a book that was read is lost (proofs/ValueLaws, `book-kept`)

-- setting c of a load's value, in t slots
abbrev pub setting_in : ℕ → Load → ℕ → Setting
setting_in t l c =
    record {
      number = c;
      worth = get_or l.worths c 0;
      powers = map (λ s. record { p = get_or l.actives (most_slots * c + s) 0; q = lowered (get_or l.reactives (most_slots * c + s) 0) }) (upto t);
    }

abbrev pub settings_in : ℕ → Load → Settings
settings_in t l = map (setting_in t l) (upto_from l.least l.settings)

unfoldable pub problem_of : Book → Problem
problem_of v =
    record {
      fineness = v.fineness;
      ratio = v.ratio;
      budget = v.budget;
      limits = take v.slots v.limits;
      loads = map (settings_in v.slots) (take v.count v.loads);
    }
