-- What a book that was read is known to have: its counts and sizes, and |Q| ≤ r × P in every setting; and that no refusal of the reader has a number above 8,
-- and how large its line can be.
-- Assumes nothing.
use mathlib.Core.Path.{◌≡◌, refl, sym, ap, ◌∙◌, subst}
use mathlib.Core.Bool.{Bool, false, true, cond, not, ◌&&◌, false≢true}
use mathlib.Core.List.{List, [], ◌∷◌, map}
use Prim.Native.Nat.{ℕ, zero, suc, ◌+◌, ◌*◌, ◌<◌, ◌≤◌}
use native.Mathlib.Omega.{arith}
use lib.Dec.{ltb}
use lib.IntN.{nat_abs}
use lib.ListN.{length, get_or}
use borrow.Author.Tests.{lt-ltb, ltb-true, ltb-false, not-false}
use Rattle.std.specs.Prelude.{Ok}
use Rattle.model.specs.Lists.{within, upto_from, upto, keep_if, any, is_empty, Every}
use Rattle.model.specs.Bounds.{most_slots, most_loads, most_fineness, most_ratio, most_limit, most_sheet}
use Rattle.model.specs.Frames.{field, line_length, line_of, after_line}
use Rattle.model.specs.Refusals.{Result, done, first, checked, and_then}
use Rattle.model.specs.Book.{Power, no_power, Setting, Settings, Problem, slot_count, load_count, fineness_in, ratio_digits, ratio_in, problem, option_count, standing_pairs, must_run, option_start, power_at, option_on, options, standing_power, standing, settings, line_rule, header_rules, reactive_exceeds, some_exceeds, load_rules, end_rules, read_loads, read_book}
use Rattle.model.specs.Choice.{least_of}
use Rattle.model.specs.MustRun.{least_number}
use Rattle.model.specs.Sheet.{sheet_length}
use Rattle.model.specs.Valid.{SettingKept, Numbered, Labelled, SettingSmall, ValidLoads, ValidBook}
use Rattle.model.proofs.ListLaws.{both_true, within-is, every_at, every_imp, every_image, every_get_d, any_false}
use Rattle.model.proofs.UptoLaws.{length-upto}
use Rattle.model.proofs.FrameLaws.{field_below, signed-small}
use Rattle.model.proofs.RefusalLaws.{done-same, checked-done, then_done, NoneApplies, first_passed, first-none, RulesMost, RefusalMost, checked-refusal, then_refusal}
use Rattle.model.proofs.NumberLaws.{numbered-least, labelled_from}

-- ---- the settings that a line gives

kept_setting : (r : ℕ) (v : Setting) → Every (λ x. reactive_exceeds r x ≡ false) v.powers → SettingKept r v
kept_setting r v h =
    every_get_d (λ x. nat_abs x.q ≤ r * x.p) v.powers no_power (omega arith)
    (every_imp (λ x. reactive_exceeds r x ≡ false) (λ x. nat_abs x.q ≤ r * x.p) (λ x e. ltb-false (r * x.p) (nat_abs x.q) e) v.powers h)

kept-settings : (r : ℕ) (vs : Settings) → some_exceeds r vs ≡ false → Every (SettingKept r) vs
unfolding some_exceeds
kept-settings r vs e =
    every_imp (λ v. any (reactive_exceeds r) v.powers ≡ false) (SettingKept r) (λ v q. kept_setting r v (any_false (reactive_exceeds r) v.powers q)) vs
    (any_false (λ v. any (reactive_exceeds r) v.powers) vs e)

numbered-options : (f : ℕ → Setting) → ((j : ℕ) → (f j).number ≡ suc j) → (i n : ℕ) → Numbered (suc i) (map f (upto_from i n))
numbered-options f h i zero = tt
numbered-options f h i (suc n) = (h i, numbered-options f h (suc i) n)

pub options-numbered : (t : ℕ) (line : List ℕ) → Numbered 1 (options t line)
options-numbered t line = numbered-options (option_on t line) (λ j. refl) 0 (option_count line)

pub options-length : (t : ℕ) (line : List ℕ) → length (options t line) ≡ option_count line
options-length t line = length-upto (option_on t line) (option_count line)

-- by cases: a load that must run has its options, any other has standing before them
pub settings_by : (P : Bool → Settings → Type 0) (t : ℕ) (line : List ℕ) → (must_run line ≡ true → P true (options t line))
    → (must_run line ≡ false → P false (standing t line ∷ options t line)) → P (must_run line) (settings t line)
settings_by P t line required free = go (must_run line) refl
  where
    go : (b : Bool) → must_run line ≡ b → P b (keep_if (not b) (standing t line) (options t line))
    go true e = required e
    go false e = free e

-- how many they are, and which number is the first
pub length-settings : (t : ℕ) (line : List ℕ) → least_number line + length (settings t line) ≡ option_count line + 1
unfolding least_number
length-settings t line =
    settings_by (λ b vs. cond b 1 0 + length vs ≡ option_count line + 1) t line
    (λ e. omega (arith, options-length t line)) (λ e. omega (arith, options-length t line))

pub least-settings : (t : ℕ) (line : List ℕ) → 1 ≤ option_count line → least_of (settings t line) ≡ least_number line
unfolding least_number
least-settings t line h =
    settings_by (λ b vs. least_of vs ≡ cond b 1 0) t line
    (λ e. numbered-least 1 (options t line) (options-numbered t line) (omega (arith, options-length t line))) (λ e. refl)

labelled_settings : (t : ℕ) (line : List ℕ) → within 1 3 (option_count line) ≡ true → Labelled (settings t line)
labelled_settings t line e =
    let n : (1 ≤ option_count line) × (option_count line ≤ 3) = within-is 1 3 (option_count line) e in
    let l : length (options t line) ≡ option_count line = options-length t line in
    settings_by (λ b. Labelled) t line
    (λ q. labelled_from 1 (options t line) (options-numbered t line) (omega arith) (omega (arith, n.0)) (omega (arith, n.1)))
    (λ q. labelled_from 0 (standing t line ∷ options t line) (refl, options-numbered t line) (omega arith) (omega (arith, n.0)) (omega (arith, n.1)))

-- a property of standing and of the options
every_setting : (P : Setting → Type 0) (t : ℕ) (line : List ℕ) → P (standing t line) → ((j : ℕ) → P (option_on t line j)) → Every P (settings t line)
every_setting P t line a h =
    let each : Every P (options t line) = every_image P (option_on t line) (upto (option_count line)) h in
    settings_by (λ b. Every P) t line (λ e. each) (λ e. (a, each))

pub sized_settings : (t : ℕ) (line : List ℕ) → Every (λ v. length v.powers ≡ t) (settings t line)
sized_settings t line =
    every_setting (λ v. length v.powers ≡ t) t line (length-upto (standing_power t line) t)
    (λ j. length-upto (λ s. power_at line (option_start t (standing_pairs t line) j + 4 + 8 * s)) t)

-- a power on a line is small, and so is none
record Small (x : Power) : Type 0 where
  pub active : x.p < 65536
  pub reactive : nat_abs x.q ≤ 32768

small-none : Small no_power
small-none = record { active = omega arith; reactive = omega arith }

small_at : (line : List ℕ) (at : ℕ) → Small (power_at line at)
small_at line at = record { active = field_below line at 4; reactive = signed-small (field line (at + 4) 4) (field_below line (at + 4) 4) }

small_setting : (c w : ℕ) (f : ℕ → Power) (t : ℕ) → w < 65536 → ((s : ℕ) → Small (f s))
    → SettingSmall (record { number = c; worth = w; powers = map f (upto t) })
small_setting c w f t h k =
    let each : (slot : ℕ) → Small (get_or (map f (upto t)) slot no_power) = every_get_d Small (map f (upto t)) no_power small-none (every_image Small f (upto t) k) in
    record { worth = h; active = λ slot. (each slot).active; reactive = λ slot. (each slot).reactive }

small-standing : (t : ℕ) (line : List ℕ) (s : ℕ) → Small (standing_power t line s)
unfolding standing_power
small-standing t line s = go (ltb s (standing_pairs t line))
  where
    go : (b : Bool) → Small (cond b (power_at line (4 + 8 * s)) no_power)
    go true = small_at line (4 + 8 * s)
    go false = small-none

pub small-settings : (t : ℕ) (line : List ℕ) → Every SettingSmall (settings t line)
small-settings t line =
    every_setting SettingSmall t line (small_setting 0 0 (standing_power t line) t (omega arith) (small-standing t line))
    (λ j. let at = option_start t (standing_pairs t line) j in
    small_setting (suc j) (field line at 4) (λ s. power_at line (at + 4 + 8 * s)) t (field_below line at 4) (λ s. small_at line (at + 4 + 8 * s)))

-- ---- the loads

good_none : (t r : ℕ) → ValidLoads 0 t r []
good_none t r = record { count = refl; keeps = tt; labels = tt; powers = tt; small = tt }

good_more : (n t r : ℕ) (line : List ℕ) (loads : List Settings) → NoneApplies (load_rules t r line) → ValidLoads n t r loads
    → ValidLoads (suc n) t r (settings t line ∷ loads)
unfolding load_rules
good_more n t r line loads rules g =
    record {
      count = ap suc g.count;
      keeps = (kept-settings r (settings t line) rules.1.1.1.1.0, g.keeps);
      labels = (labelled_settings t line (not-false (within 1 3 (option_count line)) rules.1.1.0), g.labels);
      powers = (sized_settings t line, g.powers);
      small = (small-settings t line, g.small);
    }

has_line_lem : (bytes : List ℕ) → (line_rule bytes).applies ≡ false → line_length bytes < length bytes
has_line_lem bytes e = ltb-true (line_length bytes) (length bytes) (not-false (ltb (line_length bytes) (length bytes)) e)

line_due : (bytes : List ℕ) → line_length bytes < length bytes → (line_rule bytes).applies ≡ false
line_due bytes h = ap not (lt-ltb (line_length bytes) (length bytes) h)

-- how the loads that were read came from the lines: there is a first, none of the rules applies to it, and the others are read from what is after it
pub record LoadsRead (t r left number : ℕ) (bytes : List ℕ) (loads : List Settings) : Type 0 where
  pub ends : line_length bytes < length bytes
  pub rules : NoneApplies (load_rules t r (line_of bytes))
  pub others : List Settings
  pub rest : read_loads t r left (suc number) (after_line bytes) ≡ done others
  pub same : settings t (line_of bytes) ∷ others ≡ loads

pub loads_read : (t r left number : ℕ) (bytes : List ℕ) (loads : List Settings) → read_loads t r (suc left) number bytes ≡ done loads
    → LoadsRead t r left number bytes loads
unfolding read_loads
loads_read t r left number bytes loads e =
    let rest : Result (List Settings) = read_loads t r left (suc number) (after_line bytes) in
    let more : List Settings → Result (List Settings) = λ ls. done (settings t (line_of bytes) ∷ ls) in
    let c : (first (line_rule bytes ∷ load_rules t r (line_of bytes)) ≡ Ok tt) × (and_then rest more ≡ done loads)
    = checked-done number (first (line_rule bytes ∷ load_rules t r (line_of bytes))) (and_then rest more) loads e in
    let d : (ls : List Settings) × (rest ≡ done ls) × (more ls ≡ done loads) = then_done rest more loads c.1 in
    let none : NoneApplies (line_rule bytes ∷ load_rules t r (line_of bytes)) = first_passed (line_rule bytes ∷ load_rules t r (line_of bytes)) c.0 in
    record {
      ends = has_line_lem bytes none.0;
      rules = none.1;
      others = d.0;
      rest = d.1;
      same = done-same (settings t (line_of bytes) ∷ d.0) loads d.2;
    }

-- and the other way round
pub loads_back : (t r left number : ℕ) (bytes : List ℕ) (loads : List Settings) → LoadsRead t r left number bytes loads
    → read_loads t r (suc left) number bytes ≡ done loads
unfolding read_loads
loads_back t r left number bytes loads h =
    let rest : Result (List Settings) = read_loads t r left (suc number) (after_line bytes) in
    let more : List Settings → Result (List Settings) = λ ls. done (settings t (line_of bytes) ∷ ls) in
    ap (λ f. checked number f (and_then rest more)) (first-none (line_rule bytes ∷ load_rules t r (line_of bytes)) (line_due bytes h.ends, h.rules))
    ∙ ap (λ x. and_then x more) h.rest
    ∙ ap (λ ls. done ls) h.same

empty-is : (bytes : List ℕ) → not (is_empty bytes) ≡ false → [] ≡ bytes
empty-is [] e = refl
empty-is (b ∷ bs) e = absurd (false≢true (sym e))

-- where no line is left there is no load, and no byte
pub loads-none : (t r number : ℕ) (bytes : List ℕ) (loads : List Settings) → read_loads t r 0 number bytes ≡ done loads → ([] ≡ bytes) × ([] ≡ loads)
unfolding read_loads
loads-none t r number bytes loads e =
    let c : (first (end_rules bytes) ≡ Ok tt) × (Path (Result (List Settings)) (done []) (done loads)) = checked-done number (first (end_rules bytes)) (done []) loads e in
    (empty-is bytes (first_passed (end_rules bytes) c.0).0, done-same [] loads c.1)

pub loads-valid : (t r left number : ℕ) (bytes : List ℕ) (loads : List Settings) → read_loads t r left number bytes ≡ done loads → ValidLoads left t r loads
loads-valid t r zero number bytes loads e = subst (ValidLoads 0 t r) (loads-none t r number bytes loads e).1 (good_none t r)
loads-valid t r (suc left) number bytes loads e =
    let h : LoadsRead t r left number bytes loads = loads_read t r left number bytes loads e in
    subst (ValidLoads (suc left) t r) h.same
    (good_more left t r (line_of bytes) h.others h.rules (loads-valid t r left (suc number) (after_line bytes) h.others h.rest))

-- ---- the book

-- what a header line that is not refused states
pub record HeaderRanges (line : List ℕ) : Type 0 where
  pub slots : (1 ≤ slot_count line) × (slot_count line ≤ most_slots)
  pub loads : (1 ≤ load_count line) × (load_count line ≤ most_loads)
  pub fineness : (1 ≤ fineness_in line) × (fineness_in line ≤ most_fineness)
  pub ratio : (1 ≤ ratio_in line) × (ratio_in line ≤ most_ratio)

pub header_ranges : (line : List ℕ) → NoneApplies (header_rules line) → HeaderRanges line
unfolding header_rules
header_ranges line rules =
    let n : Bool = within 1 most_loads (load_count line) in
    let d : Bool = within 1 most_fineness (fineness_in line) in
    let r : Bool = within 1 most_ratio (ratio_in line) in
    let w : ((n && d) ≡ true) × (r ≡ true) = both_true (n && d) r (not-false (n && d && r) rules.1.1.1.1.0) in
    let v : (n ≡ true) × (d ≡ true) = both_true n d w.0 in
    record {
      slots = within-is 1 most_slots (slot_count line) (not-false (within 1 most_slots (slot_count line)) rules.1.1.0);
      loads = within-is 1 most_loads (load_count line) v.0;
      fineness = within-is 1 most_fineness (fineness_in line) v.1;
      ratio = within-is 1 most_ratio (ratio_in line) w.1;
    }

-- how a book that was read came from its bytes
pub record BookRead (bytes : List ℕ) (b : Problem) : Type 0 where
  pub ends : line_length bytes < length bytes
  pub rules : NoneApplies (header_rules (line_of bytes))
  pub loads : read_loads (slot_count (line_of bytes)) (ratio_in (line_of bytes)) (load_count (line_of bytes)) 2 (after_line bytes) ≡ done b.loads
  pub same : problem (line_of bytes) b.loads ≡ b

pub book_read : (bytes : List ℕ) (b : Problem) → read_book bytes ≡ done b → BookRead bytes b
unfolding read_book
book_read bytes b e =
    let line : List ℕ = line_of bytes in
    let rest : Result (List Settings) = read_loads (slot_count line) (ratio_in line) (load_count line) 2 (after_line bytes) in
    let whole : List Settings → Result Problem = λ ls. done (problem line ls) in
    let c : (first (line_rule bytes ∷ header_rules line) ≡ Ok tt) × (and_then rest whole ≡ done b)
    = checked-done 1 (first (line_rule bytes ∷ header_rules line)) (and_then rest whole) b e in
    let d : (ls : List Settings) × (rest ≡ done ls) × (whole ls ≡ done b) = then_done rest whole b c.1 in
    let none : NoneApplies (line_rule bytes ∷ header_rules line) = first_passed (line_rule bytes ∷ header_rules line) c.0 in
    subst (BookRead bytes) (done-same (problem line d.0) b d.2)
    (record {
      ends = has_line_lem bytes none.0;
      rules = none.1;
      loads = d.1;
      same = refl;
    })

-- and the other way round
pub book_back : (bytes : List ℕ) (b : Problem) → BookRead bytes b → read_book bytes ≡ done b
unfolding read_book
book_back bytes b h =
    let line : List ℕ = line_of bytes in
    let rest : Result (List Settings) = read_loads (slot_count line) (ratio_in line) (load_count line) 2 (after_line bytes) in
    let whole : List Settings → Result Problem = λ ls. done (problem line ls) in
    ap (λ f. checked 1 f (and_then rest whole)) (first-none (line_rule bytes ∷ header_rules line) (line_due bytes h.ends, h.rules))
    ∙ ap (λ x. and_then x whole) h.loads
    ∙ ap (λ p. done p) h.same

module _ (bytes : List ℕ) (b : Problem) (e : read_book bytes ≡ done b) where
  good : ValidLoads (load_count (line_of bytes)) (slot_count (line_of bytes)) (ratio_in (line_of bytes)) b.loads
  good =
      loads-valid (slot_count (line_of bytes)) (ratio_in (line_of bytes)) (load_count (line_of bytes)) 2 (after_line bytes) b.loads (book_read bytes b e).loads

  -- N, T and r are the header's
  pub loads-count : length b.loads ≡ load_count (line_of bytes)
  loads-count = good.count

  pub slots-count : length b.limits ≡ slot_count (line_of bytes)
  slots-count =
      ap (λ (x : Problem). length x.limits) (sym (book_read bytes b e).same)
      ∙ length-upto (λ s. field (line_of bytes) (16 + ratio_digits (line_of bytes) + 4 * s) 4) (slot_count (line_of bytes))

  pub ratio-is : b.ratio ≡ ratio_in (line_of bytes)
  ratio-is = ap (λ (x : Problem). x.ratio) (sym (book_read bytes b e).same)

  pub book-valid : ValidBook b
  book-valid =
      let line : List ℕ = line_of bytes in
      let read : BookRead bytes b = book_read bytes b e in
      let h : HeaderRanges line = header_ranges line read.rules in
      let fine : fineness_in line ≡ b.fineness = ap (λ (x : Problem). x.fineness) read.same in
      record {
        loads = subst (λ r. ValidLoads (length b.loads) (length b.limits) r b.loads) (sym ratio-is)
            (subst (λ k. ValidLoads k (length b.limits) (ratio_in line) b.loads) (sym loads-count)
            (subst (λ k. ValidLoads (load_count line) k (ratio_in line) b.loads) (sym slots-count) good));
        slots_some = omega (arith, slots-count, h.slots.0);
        slots_few = omega (arith, slots-count, h.slots.1);
        loads_some = omega (arith, loads-count, h.loads.0);
        loads_few = omega (arith, loads-count, h.loads.1);
        fine_some = omega (arith, h.fineness.0);
        fine_few = omega (arith, h.fineness.1);
        ratio_some = omega (arith, ratio-is, h.ratio.0);
        ratio_few = omega (arith, ratio-is, h.ratio.1);
        budget_small = omega (arith, ap (λ (x : Problem). x.budget) read.same, field_below line (8 + ratio_digits line) 8);
        limits_small = subst (λ (x : Problem). Every (λ s. s ≤ most_limit) x.limits) read.same
            (every_image (λ s. s ≤ most_limit) (λ s. field line (16 + ratio_digits line + 4 * s) 4) (upto (slot_count line))
            (λ s. omega (arith, field_below line (16 + ratio_digits line + 4 * s) 4)));
      }

pub load_labelled : {b : Problem} → ValidBook b → (k : ℕ) → k < length b.loads → Labelled (get_or b.loads k [])
load_labelled {b} valid k l = every_at Labelled b.loads [] valid.loads.labels k l

-- ---- the reader's refusals are 1 to 8, and their lines at most 257, as N has two digits

load_rules_most : (t r : ℕ) (line : List ℕ) → RulesMost 8 (load_rules t r line)
unfolding load_rules
load_rules_most t r line = (omega arith, (omega arith, (omega arith, (omega arith, (omega arith, tt)))))

header_rules_most : (line : List ℕ) → RulesMost 8 (header_rules line)
unfolding header_rules
header_rules_most line = (omega arith, (omega arith, (omega arith, (omega arith, (omega arith, tt)))))

loads_bounded : (m t r left number : ℕ) (bytes : List ℕ) → number + left ≤ m → RefusalMost 8 m (read_loads t r left number bytes)
unfolding read_loads
loads_bounded m t r zero number bytes h = checked-refusal 8 m number (end_rules bytes) (done []) (omega (arith, h)) (omega arith, tt) tt
loads_bounded m t r (suc left) number bytes h =
    let rest : Result (List Settings) = read_loads t r left (suc number) (after_line bytes) in
    let more : List Settings → Result (List Settings) = λ ls. done (settings t (line_of bytes) ∷ ls) in
    checked-refusal 8 m number (line_rule bytes ∷ load_rules t r (line_of bytes)) (and_then rest more) (omega (arith, h)) (omega arith, load_rules_most t r (line_of bytes))
    (then_refusal 8 m rest more (loads_bounded m t r left (suc number) (after_line bytes) (omega (arith, h))) (λ ls. tt))

pub book_bounded : (bytes : List ℕ) → RefusalMost 8 257 (read_book bytes)
unfolding read_book
book_bounded bytes =
    let line : List ℕ = line_of bytes in
    let rest : Result (List Settings) = read_loads (slot_count line) (ratio_in line) (load_count line) 2 (after_line bytes) in
    let whole : List Settings → Result Problem = λ ls. done (problem line ls) in
    checked-refusal 8 257 1 (line_rule bytes ∷ header_rules line) (and_then rest whole) (omega arith) (omega arith, header_rules_most line)
    (then_refusal 8 257 rest whole
    (loads_bounded 257 (slot_count line) (ratio_in line) (load_count line) 2 (after_line bytes) (omega (arith, field_below line 4 2))) (λ ls. tt))

-- no sheet has more than 159 bytes
pub sheet-few : (b : Problem) → ValidBook b → sheet_length b ≤ most_sheet
sheet-few b v = omega (arith, v.slots_few, v.loads_few)
