-- M-103: the length of the mill's view, and of the supply company's that its lines are the sheet's, and what one call and two calls
-- tell.
-- Assumes nothing.
use Prim.Native.Nat.{ℕ, ◌+◌, ◌*◌, ◌^◌, ◌<◌, ◌≤◌}
use mathlib.Core.Path.{◌≡◌, refl, sym, ap, ap₂, ◌∙◌, subst}
use mathlib.Core.List.{List, [], ◌∷◌, ◌++◌, map, append_assoc}
use native.Mathlib.Omega.{arith}
use lib.IntN.{nat_abs}
use lib.ListN.{length, drop, length-append}
use lib.Seq.{drop_at}
use Rattle.model.specs.declared.Answer.{Answer}
use Rattle.model.specs.Lists.{upto, Every, concat}
use Rattle.model.specs.Bounds.{most_limit}
use Rattle.model.specs.Frames.{digits, unsigned}
use Rattle.model.specs.Refusals.{Result, done, and_then}
use Rattle.model.specs.Answers.{Output, Writes}
use Rattle.model.specs.Book.{Power, Problem, read_book}
use Rattle.model.specs.Choice.{Choice, IsChoice, level_on}
use Rattle.model.specs.Sheet.{lf, first_line, SumsAndLimit, sums_and_limit, sums_and_limits, slot_line, slot_lines, sheet_bytes}
use Rattle.model.specs.SheetReader.{sheet_choice}
use Rattle.model.specs.Valid.{ValidBook}
use Rattle.model.specs.Views.{Accepted, accepted_for, accepted, running_loads, number_and_level, mill_line, sums_and_limits_on, supply_view, supply_result, LinesOnSheet, NothingElse, SupplyCall, view_of, SameSeen, OtherSeen}
use Rattle.model.proofs.ListLaws.{every_get_d, every_image, length-concat}
use Rattle.model.proofs.FrameLaws.{length_digits, digits_front, word_below, word_back}
use Rattle.model.proofs.RefusalLaws.{done-same, then_done}
use Rattle.model.proofs.AnswerLaws.{writes-same, bytes_left, room_left}
use Rattle.model.proofs.SheetLaws.{length-first, length_slot, choice-only}
use Rattle.model.proofs.SumLaws.{sum-small, choice-small, choice-few}
use Rattle.model.proofs.ValidLaws.{book-valid}

-- ---- the mill's view

length_load : (k level : ℕ) → length (number_and_level k level) ≡ 4
unfolding number_and_level
length_load k level = simp (length-append, length_digits)

-- 11 bytes, and 4 for each load that runs
pub mill_length : (c : Choice) → length (mill_line c) ≡ 11 + 4 * length (running_loads c)
unfolding mill_line
mill_length c =
    let load : ℕ → List ℕ = λ k. number_and_level k (level_on c k) in
    let loads : length (concat (map load (running_loads c))) ≡ 4 * length (running_loads c)
    = length-concat load 4 (λ k. length_load k (level_on c k)) (running_loads c) in
    simp (length-append, length_digits) (omega arith)

-- ---- a book and a sheet that are accepted

-- the book is valid, and the sheet is that of the choice and some trials
record Known (sheet : List ℕ) (x : Accepted) : Type 0 where
  pub valid : ValidBook x.b
  pub chosen : IsChoice x.b.loads x.choice
  pub trials : ℕ
  pub bytes : sheet ≡ sheet_bytes x.b x.choice trials

accepted-known : (book sheet : List ℕ) (x : Accepted) → accepted book sheet ≡ done x → Known sheet x
unfolding accepted
accepted-known book sheet x e =
    let read = then_done (read_book book) (accepted_for sheet) x e in
    let b = read.0 in
    let on = then_done (sheet_choice sheet b) (λ c. done (record { b = b; choice = c })) x read.2 in
    let s = choice-only sheet b on.0 on.1 in
    subst (Known sheet) (done-same (record { b = b; choice = on.0 }) x on.2)
    (record {
      valid = book-valid book b read.1;
      chosen = subst (IsChoice b.loads) s.1 s.0.of_book;
      trials = s.0.trials;
      bytes = s.0.bytes ∙ ap (λ c. sheet_bytes b c s.0.trials) s.1;
    })

pub lines_on_sheet : LinesOnSheet
unfolding sheet_bytes
lines_on_sheet book sheet x e =
    let k = accepted-known book sheet x e in
    ap (drop (19 + 2 * length x.choice)) k.bytes
    ∙ drop_at (first_line x.choice k.trials) (slot_lines (sums_and_limits_on x)) (19 + 2 * length x.choice) (length-first x.choice k.trials)

-- ---- one call of the supply company's view

pub nothing_else : (book sheet before after : List ℕ) (a : Answer) → Writes (supply_result book sheet (length before)) before after a
    → NothingElse book sheet before after a
unfolding supply_result
nothing_else book sheet before after a w x e = writes-same (ap (λ r. and_then r (λ y. supply_view (sums_and_limits_on y) (length before))) e) w

alone : (x : SupplyCall) → Writes (supply_view (sums_and_limits_on x.known) (length x.before)) x.before x.after x.answer
alone x = nothing_else x.book x.sheet x.before x.after x.answer x.writes x.known x.accepts

-- ---- two calls: equal sums and limits

pub same_seen : SameSeen
same_seen x y e n = go (supply_view (sums_and_limits_on x.known) (length x.before)) (alone x) (writes-same (sym (ap₂ supply_view e n)) (alone y))
  where
    go : (r : Result Output) → Writes r x.before x.after x.answer → Writes r y.before y.after y.answer
        → (x.answer ≡ y.answer) × (view_of x ≡ view_of y)
    go r v w = (v.answers ∙ sym w.answers, bytes_left r v ∙ sym (bytes_left r w))

-- ---- two calls: the lines tell the sums and limits

-- sums and a limit that their digits hold
record SumSmall (x : SumsAndLimit) : Type 0 where
  pub active : x.sum.p < 16 ^ 8
  pub reactive : nat_abs x.sum.q < 2 ^ 31
  pub limit : x.limit < 16 ^ 4

-- what stands after a line's kind, after P and after Q, where zs follows the line
abbrev after-reactive : SumsAndLimit → List ℕ → List ℕ
after-reactive z zs = digits 4 z.limit ++ (lf ++ zs)

abbrev after-active : SumsAndLimit → List ℕ → List ℕ
after-active z zs = digits 8 (unsigned 32 z.sum.q) ++ after-reactive z zs

abbrev after_kind : SumsAndLimit → List ℕ → List ℕ
after_kind z zs = digits 8 z.sum.p ++ after-active z zs

line_front : (x y : SumsAndLimit) (xs ys : List ℕ) → SumSmall x → SumSmall y → slot_line x ++ xs ≡ slot_line y ++ ys → (x ≡ y) × (xs ≡ ys)
unfolding slot_line
line_front x y xs ys h k e =
    let kind = digits_front 2 5 5 (after_kind x xs) (after_kind y ys) (omega arith) (omega arith) (sym (parted x xs) ∙ e ∙ parted y ys) in
    let p = digits_front 8 x.sum.p y.sum.p (after-active x xs) (after-active y ys) h.active k.active kind.1 in
    let w = digits_front 8 (unsigned 32 x.sum.q) (unsigned 32 y.sum.q) (after-reactive x xs) (after-reactive y ys)
    (word_below x.sum.q h.reactive) (word_below y.sum.q k.reactive) p.1 in
    let l = digits_front 4 x.limit y.limit (lf ++ xs) (lf ++ ys) h.limit k.limit w.1 in
    let q = word_back x.sum.q y.sum.q h.reactive k.reactive w.0 in
    (same x y p.0 q l.0, ap (drop 1) l.1)
  where
    parted : (z : SumsAndLimit) (zs : List ℕ) → slot_line z ++ zs ≡ digits 2 5 ++ after_kind z zs
    parted z zs = simp append_assoc

    same : (x y : SumsAndLimit) → x.sum.p ≡ y.sum.p → x.sum.q ≡ y.sum.q → x.limit ≡ y.limit → x ≡ y
    same x y p q l = ap₂ {C = SumsAndLimit} (λ (a : Power) n. record { sum = a; limit = n }) (ap₂ {C = Power} (λ a b. record { p = a; q = b }) p q) l

lines_back : (xs ys : List SumsAndLimit) → Every SumSmall xs → Every SumSmall ys → slot_lines xs ≡ slot_lines ys → xs ≡ ys
unfolding slot_lines
lines_back [] [] h k e = refl
lines_back [] (y ∷ ys) h k e = absurd (omega (arith, ap length e, length-append (slot_line y) (slot_lines ys), length_slot y))
lines_back (x ∷ xs) [] h k e = absurd (omega (arith, ap length e, length-append (slot_line x) (slot_lines xs), length_slot x))
lines_back (x ∷ xs) (y ∷ ys) h k e =
    let both = line_front x y (slot_lines xs) (slot_lines ys) h.0 k.0 e in
    ap₂ {C = List SumsAndLimit} (λ z zs. z ∷ zs) both.0 (lines_back xs ys h.1 k.1 both.1)

sums_small : (b : Problem) (c : Choice) → ValidBook b → IsChoice b.loads c → Every SumSmall (sums_and_limits b c)
unfolding sums_and_limits
sums_small b c valid chosen =
    every_image SumSmall (sums_and_limit b c) (upto (length b.limits)) (λ s.
    let small = sum-small c (choice-small b valid c chosen) s in
    let few = choice-few b valid c chosen in
    record {
      active = omega (arith, small.active);
      reactive = omega (arith, small.reactive);
      limit = omega (arith, every_get_d (λ l. l ≤ most_limit) b.limits 0 (omega arith) valid.limits_small s);
    })

pub other_seen : OtherSeen
unfolding supply_view
other_seen x y u v differ e =
    differ (lines_back (sums_and_limits_on x.known) (sums_and_limits_on y.known) (small x) (small y) (sym (lines x u) ∙ e ∙ lines y v))
  where
    small : (z : SupplyCall) → Every SumSmall (sums_and_limits_on z.known)
    small z =
        let k = accepted-known z.book z.sheet z.known z.accepts in
        sums_small z.known.b z.known.choice k.valid k.chosen

    lines : (z : SupplyCall) → z.answer.number ≡ 0 → view_of z ≡ slot_lines (sums_and_limits_on z.known)
    lines z zero = room_left (slot_lines (sums_and_limits_on z.known)) (length z.before) (alone z) zero
