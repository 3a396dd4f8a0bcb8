-- The order of starting (document 02, M-101): "From the running sheet and the new sheet of one book, a new part writes the loads that start (standing in
-- the first, running in the second), a byte each, in order". Loads go by their numbers, from 1 to n.
use Rattle.std.specs.Prelude.{ℕ, zero, suc, ◌+◌, ◌-◌, ◌*◌, ◌^◌, ◌<◌, ◌≤◌, ◌≡◌, Bool, true, false, cond, not, ◌&&◌, ◌||◌, List, [], ◌∷◌, ◌++◌, eqb, length, get_or, take}
use Rattle.std.specs.Int.Bits.{bit_and}
use Rattle.std.specs.Int.Count.{ones}
use Rattle.model.specs.declared.OrderAnswer.{OrderAnswer}
use Rattle.model.specs.declared.Refusal.TheVariants.{WrongNames, NamedLoadStands}
use Rattle.model.specs.Lists.{within, upto_from, Mem, keep, any, is_empty}
use Rattle.model.specs.Bounds.{most_loads}
use Rattle.model.specs.Refusals.{Result, refused, done, Rule, ◌⇒◌, first, checked, and_then}
use Rattle.model.specs.Answers.{Output, bytes_only, Writes, room_rule}
use Rattle.model.specs.Book.{Problem, read_book}
use Rattle.model.specs.Choice.{Choice, running_on}
use Rattle.model.specs.SheetReader.{sheet_choice}

-- ---- the loads that start

-- which loads run; `old` are those of the running sheet, and `new` those of the new one
abbrev pub Running : Type 0
Running = ℕ → Bool

-- "standing in the first, running in the second"; a change of level is no start
abbrev pub starts : Running → Running → ℕ → Bool
starts old new k = not (old k) && new k

-- the loads that start, by ascending number; with `old` and `new` exchanged, those that stop
unfoldable pub starting : ℕ → Running → Running → List ℕ
starting n old new = keep (starts old new) (upto_from 1 n)

-- ---- "It reports starts and stops, each counted as the ones in a mask of 24 loads"

-- the mask of n loads from load k on: the lowest bit is load k's
abbrev pub mask_from : Running → ℕ → ℕ → ℕ
mask_from on k zero = 0
mask_from on k (suc n) = cond (on k) 1 0 + 2 * mask_from on (suc k) n

-- of all loads: bit k - 1 is load k's
unfoldable pub running_mask : ℕ → Running → ℕ
running_mask n on = mask_from on 1 n

-- the loads in one mask of 24 and not in another
unfoldable pub and_not : ℕ → ℕ → ℕ
and_not x y = bit_and x (2 ^ most_loads - 1 - y)

-- starts; with `old` and `new` exchanged, stops
unfoldable pub start_count : ℕ → Running → Running → ℕ
start_count n old new = ones (and_not (running_mask n new) (running_mask n old))

-- the ones are as many as the loads that start (proofs/MaskLaws, `starts-counted`)
abbrev pub StartsCounted : Type 0
StartsCounted = (n : ℕ) (old new : Running) → n ≤ most_loads → start_count n old new ≡ length (starting n old new)

-- ---- names

-- "A list of N bytes names for each load one of a higher book number that has to run ahead of it, 0 for none": what load k names
abbrev pub named : List ℕ → ℕ → ℕ
named names zero = 0
named names (suc k) = get_or names k 0

-- "a name other than 0 isn't above the load's own number or exceeds N"
abbrev pub bad_name : ℕ → List ℕ → ℕ → Bool
bad_name n names k = not (eqb (named names k) 0) && not (within (suc k) n (named names k))

-- 15: "the list isn't N bytes long", or some name is bad
unfoldable pub wrong_names : ℕ → List ℕ → Bool
wrong_names n names = not (eqb (length names) n) || any (bad_name n names) (upto_from 1 n)

-- load k names a load, and that stands in the new sheet
abbrev pub blocked : Running → List ℕ → ℕ → Bool
blocked new names k = not (eqb (named names k) 0) && not (new (named names k))

-- 16: "a starting load's named load stands in the new sheet"
unfoldable pub some_blocked : ℕ → Running → Running → List ℕ → Bool
some_blocked n old new names = any (blocked new names) (starting n old new)

-- ---- the order

-- "those left", once the loads in `started` have been started
unfoldable pub left : ℕ → Running → Running → List ℕ → List ℕ
left n old new started = keep (λ k. not (any (eqb k) started)) (starting n old new)

-- those "that name none, or whose named load runs in the first sheet or has been started"
unfoldable pub ready : Running → List ℕ → List ℕ → ℕ → Bool
ready old names started k = eqb (named names k) 0 || old (named names k) || any (eqb (named names k)) started

module _ (n : ℕ) (old new : Running) (names : List ℕ) where
  -- those of them that may start now, by ascending number
  abbrev pub startable : List ℕ → List ℕ
  startable started = keep (ready old names started) (left n old new started)

  -- a step: "each time, of those .. the lowest number first"; it starts none where there is none
  unfoldable pub start_next : List ℕ → List ℕ
  start_next started = started ++ take 1 (startable started)

  -- so many steps
  unfoldable pub started_after : ℕ → List ℕ
  started_after zero = []
  started_after (suc i) = start_next (started_after i)

  -- a step for each load that starts
  unfoldable pub start_order : List ℕ
  start_order = started_after (length (starting n old new))

-- a step finds a load while any is left: a name is that of a higher load, and no load that starts is blocked (proofs/StartLaws, `step_finds`)
abbrev pub StepFinds : Type 0
StepFinds = (n : ℕ) (old new : Running) (names started : List ℕ) → wrong_names n names ≡ false → some_blocked n old new names ≡ false
    → is_empty (left n old new started) ≡ false → is_empty (startable n old new names started) ≡ false

-- ---- the part's result

-- "15 when .., and 16 when ..; they come in this order after 13, then 11 if the order doesn't fit the buffer", which has room for so many bytes
abbrev pub order_rules : ℕ → Running → Running → List ℕ → ℕ → List Rule
order_rules n old new names room =
    (wrong_names n names ⇒ WrongNames)
    ∷ (some_blocked n old new names ⇒ NamedLoadStands)
    ∷ room_rule (length (start_order n old new names)) room
    ∷ []

-- what is written and reported
pub record OrderData : Type 0 where
  pub order : List ℕ
  pub starts : ℕ
  pub stops : ℕ

abbrev pub order_data : ℕ → Running → Running → List ℕ → OrderData
order_data n old new names = record { order = start_order n old new names; starts = start_count n old new; stops = start_count n new old }

-- for n loads; "numbers from 14 on carry line 0", as 11 does
unfoldable pub loads_order : ℕ → List ℕ → ℕ → Running → Running → Result OrderData
loads_order n names room old new = checked 0 (first (order_rules n old new names room)) (done (order_data n old new names))

-- "after 13": for the running sheet, then for the new one
unfoldable pub sheets_order : List ℕ → List ℕ → List ℕ → ℕ → Problem → Result OrderData
sheets_order running planned names room b =
    and_then (sheet_choice running b) (λ old_choice.
    and_then (sheet_choice planned b) (λ new_choice.
    loads_order (length b.loads) names room (running_on old_choice) (running_on new_choice)))

-- the result of a book, the two sheets and the names, for a buffer with room for so many bytes
unfoldable pub order_result : List ℕ → List ℕ → List ℕ → List ℕ → ℕ → Result OrderData
order_result book running planned names room = and_then (read_book book) (sheets_order running planned names room)

-- the order is written "a byte each"
abbrev pub order_output : Result OrderData → Result Output
order_output (refused r line) = refused r line
order_output (done x) = done (bytes_only x.order)

-- "any new number in an answer is 0 on refusal"
abbrev pub starts_in : Result OrderData → ℕ
starts_in (refused r line) = 0
starts_in (done x) = x.starts

abbrev pub stops_in : Result OrderData → ℕ
stops_in (refused r line) = 0
stops_in (done x) = x.stops

-- what a call with this result answers and leaves
pub record WritesOrder (result : Result OrderData) (before after : List ℕ) (r : OrderAnswer) : Type 0 where
  pub writes : Writes (order_output result) before after r.answer
  pub starts : r.starts ≡ starts_in result
  pub stops : r.stops ≡ stops_in result

-- ---- what every order keeps

-- how often a number stands in a list
abbrev pub how_often : ℕ → List ℕ → ℕ
how_often k xs = length (keep (eqb k) xs)

-- load k is not ready: it names a load that stands in the running sheet and is not among those started
pub record Waits (old : Running) (names started : List ℕ) (k : ℕ) : Type 0 where
  pub names_one : named names k ≡ 0 → ⊥
  pub stands : old (named names k) ≡ false
  pub not_started : Mem (named names k) started → ⊥

pub record Ordered (n : ℕ) (old new : Running) (names order : List ℕ) : Type 0 where
  -- "a rearrangement of exactly the starting loads": each number stands in it as often as among them, which is at most once
  pub rearranged : (k : ℕ) → how_often k order ≡ how_often k (starting n old new)
  pub once : (k : ℕ) → how_often k order ≤ 1
  -- a load comes after its named load, where that starts too
  pub behind : (i : ℕ) → i < length order → starts old new (named names (get_or order i 0)) ≡ true → Mem (named names (get_or order i 0)) (take i order)
  -- "the lowest number first": a lower load that comes later was not ready before
  pub lowest : (i j : ℕ) → i < j → j < length order → get_or order j 0 < get_or order i 0 → Waits old names (take i order) (get_or order j 0)

-- "For every two sheets that get an order", of the bytes that a call was given, those in the buffer after it, and its answer
pub record OrderKept (book running planned names buffer : List ℕ) (r : OrderAnswer) : Type 0 where
  pub b : Problem
  pub reads : read_book book ≡ done b
  pub old_choice : Choice
  pub runs_now : sheet_choice running b ≡ done old_choice
  pub new_choice : Choice
  pub runs_next : sheet_choice planned b ≡ done new_choice
  pub ordered : Ordered (length b.loads) (running_on old_choice) (running_on new_choice) names (take r.answer.bytes buffer)
  -- the numbers of loads that start and that stop
  pub starts : r.starts ≡ length (starting (length b.loads) (running_on old_choice) (running_on new_choice))
  pub stops : r.stops ≡ length (starting (length b.loads) (running_on new_choice) (running_on old_choice))
