-- Load lines: where things stand on them, their settings by number, |Q| > r × P in some of them, and Q plus 32,768.
-- Assumes nothing.
use mathlib.Core.Path.{◌≡◌, refl, sym, ap, ap₂, ◌∙◌}
use mathlib.Core.Bool.{Bool, true, false, cond, ◌||◌}
use mathlib.Core.Logic.{◌⊎◌, inl, inr}
use mathlib.Core.List.{List, [], ◌∷◌, map}
use mathlib.Core.Option.{none, some}
use Prim.Native.Nat.{ℕ, zero, suc, ◌+◌, ◌-◌, ◌*◌, ◌%◌, ◌<◌, ◌≤◌}
use native.Mathlib.Nat.{mul-le-mul_right, suc-mul, le_trans}
use native.Mathlib.Numerals.{add-one}
use native.Mathlib.Omega.{arith}
use lib.Dec.{eqb}
use lib.IntN.{ℤ, pos, negsuc, nat_abs, sub_ℕ}
use lib.ListN.{length, get_or, get_or-eq_default}
use borrow.Author.Tests.{lt-ltb, le-ltb, ne_eqb, eqb-true, not-false}
use Rattle.std.specs.Prelude.{Ok}
use Rattle.model.specs.Lists.{upto_from, upto, any, Every}
use Rattle.model.specs.Frames.{field, signed}
use Rattle.model.specs.Refusals.{first}
use Rattle.model.specs.Book.{Power, no_power, Setting, Settings, option_count, standing_pairs, must_run, option_start, power_at, option_at, option_on, options, standing_power, standing, settings, reactive_exceeds, some_exceeds, load_rules}
use Rattle.model.specs.Choice.{setting_numbered, no_setting, setting_or, setting_of, power_in}
use Rattle.model.specs.Valid.{Numbered}
use Rattle.model.specs.Values.{raised}
use Rattle.model.proofs.IntegerLaws.{split, sub_neg}
use Rattle.model.proofs.RefusalLaws.{first_passed}
use Rattle.model.proofs.UptoLaws.{length-upto, get_d_upto, from_is, upto_is}
use Rattle.model.proofs.NumberLaws.{none_found, numbered_of}
use Rattle.model.proofs.LengthLaws.{pairs_most}
use Rattle.model.proofs.ValidLaws.{options-numbered, options-length, settings_by, sized_settings}
use Rattle.hexadecimal.proofs.RangeLaws.{in_range_lem}
use Rattle.loadline.specs.LoadLine.{LoadLine}

-- a line that is not refused
pub load_line : (t r : ℕ) (line : List ℕ) → t ≤ 4 → first (load_rules t r line) ≡ Ok tt → LoadLine t (standing_pairs t line) (option_count line) line
unfolding load_rules
load_line t r line h e =
    let n = first_passed (load_rules t r line) e in
    record {
      slots = h;
      carried = refl;
      some = (in_range_lem 1 3 (option_count line) n.1.1.0).0;
      options = (in_range_lem 1 3 (option_count line) n.1.1.0).1;
      stated = refl;
      long = eqb-true _ _ (not-false _ n.1.1.1.0);
    }

-- ---- places on a load line

pairs_few : (t pairs o : ℕ) (line : List ℕ) → LoadLine t pairs o line → pairs ≤ t
pairs_few t pairs o line h = omega (arith, h.carried, pairs_most t line)

pub option_next : (t pairs j : ℕ) → option_start t pairs (j + 1) ≡ option_start t pairs j + (4 + 8 * t)
unfolding option_start
option_next t pairs j = rw (add-one j, suc-mul j (4 + 8 * t)) (omega arith)

option_mono : (t pairs i j : ℕ) → i ≤ j → option_start t pairs i ≤ option_start t pairs j
unfolding option_start
option_mono t pairs i j h = omega (arith, mul-le-mul_right (4 + 8 * t) h)

pub option-product : (t j : ℕ) → t ≤ 4 → j ≤ 3 → j * (4 + 8 * t) ≤ 108
option-product t j p q = le_trans (mul-le-mul_right (4 + 8 * t) q) (omega arith)

pub option-small : (t pairs j : ℕ) → t ≤ 4 → pairs ≤ t → j ≤ 3 → option_start t pairs j ≤ 144
unfolding option_start
option-small t pairs j p few q = omega (arith, option-product t j p q)

-- what is asked of an option whose start is wanted
pub option_ranges : (t pairs j o : ℕ) (line : List ℕ) → LoadLine t pairs o line → j ≤ o → (t ≤ 4) × (pairs ≤ t) × (j ≤ 3)
option_ranges t pairs j o line h p = (h.slots, pairs_few t pairs o line h, omega (arith, h.options))

-- the line reaches to the end of option j + 1, and of what it carries for standing
pub holds_option : (t pairs j o : ℕ) (line : List ℕ) → LoadLine t pairs o line → j < o → option_start t pairs (j + 1) ≤ length line
holds_option t pairs j o line h p = rw h.long (option_mono t pairs (j + 1) o (omega arith))

-- so its worth and powers lie within the line, and where they stand is small
pub option_within : (t pairs j o : ℕ) (line : List ℕ) → LoadLine t pairs o line → j < o → (option_start t pairs j + (4 + 8 * t) ≤ length line) × (option_start t pairs j ≤ 144)
option_within t pairs j o line h p =
    let r : (t ≤ 4) × (pairs ≤ t) × (j ≤ 3) = option_ranges t pairs j o line h (omega arith) in
    (omega (arith, holds_option t pairs j o line h p, option_next t pairs j), option-small t pairs j r.0 r.1 r.2)

pub line_holds : (t pairs o : ℕ) (line : List ℕ) → LoadLine t pairs o line → 4 + 8 * pairs ≤ length line
unfolding option_start
line_holds t pairs o line h = rw h.long (omega arith)

-- ---- the settings of a load line

-- no option has number 0
no_option : (t : ℕ) (line : List ℕ) → setting_numbered 0 (options t line) ≡ none
no_option t line = none_found 1 (options t line) 0 (options-numbered t line) (inl (omega arith))

-- from number 1 on the settings are the options
after-standing : (t c : ℕ) (line : List ℕ) → 1 ≤ c → setting_numbered c (settings t line) ≡ setting_numbered c (options t line)
after-standing t c line p =
    settings_by (λ b vs. setting_numbered c vs ≡ setting_numbered c (options t line)) t line (λ e. refl)
    (λ e. ap (λ x. cond x (some (standing t line)) (setting_numbered c (options t line))) (ne_eqb 0 c (λ q. omega arith)))

pub setting_option : (t c : ℕ) (line : List ℕ) → 1 ≤ c → c ≤ option_count line
    → setting_of (settings t line) c ≡ option_at t line c (option_start t (standing_pairs t line) (c - 1))
unfolding setting_of
setting_option t c line p q =
    let e : c ≡ 1 + (c - 1) = omega arith in
    let n : suc (c - 1) ≡ c = omega arith in
    ap setting_or (after-standing t c line p)
    ∙ ap (setting_of (options t line)) e
    ∙ numbered_of 1 (options t line) (options-numbered t line) (c - 1) (omega (arith, options-length t line))
    ∙ get_d_upto (option_on t line) (option_count line) (c - 1) no_setting (omega arith)
    ∙ ap (λ i. option_at t line i (option_start t (standing_pairs t line) (c - 1))) n

pub setting_past : (t c : ℕ) (line : List ℕ) → option_count line < c → setting_of (settings t line) c ≡ no_setting
unfolding setting_of
setting_past t c line h =
    ap setting_or (after-standing t c line (omega arith)
    ∙ none_found 1 (options t line) c (options-numbered t line) (inr (omega (arith, options-length t line))))

-- setting 0 has no worth: standing has none, and where a load must run there is no setting 0
pub worth-standing : (t c : ℕ) (line : List ℕ) → c < 1 → (setting_of (settings t line) c).worth ≡ 0
unfolding setting_of
worth-standing t c line h =
    let z : c ≡ 0 = omega arith in
    ap (λ j. (setting_or (setting_numbered j (settings t line))).worth) z
    ∙ settings_by (λ b vs. (setting_or (setting_numbered 0 vs)).worth ≡ 0) t line (λ e. ap (λ v. (setting_or v).worth) (no_option t line)) (λ e. refl)

-- past the pairs that a line carries standing draws nothing
pub standing-none : (t s : ℕ) (line : List ℕ) → standing_pairs t line ≤ s → standing_power t line s ≡ no_power
unfolding standing_power
standing-none t s line h = ap (λ b. cond b (power_at line (4 + 8 * s)) no_power) (le-ltb s (standing_pairs t line) h)

pub standing_at : (t s : ℕ) (line : List ℕ) → s < standing_pairs t line → standing_power t line s ≡ power_at line (4 + 8 * s)
unfolding standing_power
standing_at t s line h = ap (λ b. cond b (power_at line (4 + 8 * s)) no_power) (lt-ltb s (standing_pairs t line) h)

-- a load that must run has no pairs for standing on its line
must_run_pairs : (t : ℕ) (line : List ℕ) → must_run line ≡ true → standing_pairs t line ≡ 0
unfolding must_run standing_pairs
must_run_pairs t line e = ap (λ k. cond (eqb k 6) t 0) (eqb-true (field line 0 2) 7 e)

-- the power of setting c in slot s: none past the last option and past the last slot
module _ (t c s : ℕ) (line : List ℕ) where
  pub power_standing : c < 1 → power_in s (setting_of (settings t line) c) ≡ standing_power t line s
  unfolding setting_of
  power_standing h =
      let z : c ≡ 0 = omega arith in
      ap (λ j. power_in s (setting_of (settings t line) j)) z
      ∙ settings_by (λ b vs. power_in s (setting_or (setting_numbered 0 vs)) ≡ standing_power t line s) t line
      (λ e. ap (λ v. power_in s (setting_or v)) (no_option t line) ∙ sym (standing-none t s line (omega (arith, must_run_pairs t line e)))) (λ e. in_slot (split s t))
    where
      in_slot : (s < t) ⊎ (t ≤ s) → get_or (map (standing_power t line) (upto t)) s no_power ≡ standing_power t line s
      in_slot (inl l) = get_d_upto (standing_power t line) t s no_power l
      in_slot (inr l) =
          get_or-eq_default (map (standing_power t line) (upto t)) no_power {n = s} (omega (arith, length-upto (standing_power t line) t))
          ∙ sym (standing-none t s line (omega (arith, pairs_most t line)))

  pub power_past : option_count line < c → power_in s (setting_of (settings t line) c) ≡ no_power
  power_past h = ap (power_in s) (setting_past t c line h)

  module _ (p : 1 ≤ c) (q : c ≤ option_count line) where
    -- the power in slot i
    abbrev placed : ℕ → Power
    placed i = power_at line (option_start t (standing_pairs t line) (c - 1) + 4 + 8 * i)

    pub power_no_slot : t ≤ s → power_in s (setting_of (settings t line) c) ≡ no_power
    power_no_slot h =
        ap (power_in s) (setting_option t c line p q) ∙ get_or-eq_default (map placed (upto t)) no_power (omega (arith, length-upto placed t))

    pub power_option : s < t → power_in s (setting_of (settings t line) c) ≡ placed s
    power_option h = ap (power_in s) (setting_option t c line p q) ∙ get_d_upto placed t s no_power h

-- ---- |Q| > r × P, by the numbers of settings and slots

-- in some of t slots
abbrev pub exceeds_in : ℕ → ℕ → Setting → Bool
exceeds_in r t v = any (reactive_exceeds r) (map (λ s. power_in s v) (upto t))

-- settings numbered from i on, by their numbers
by_numbers : (i : ℕ) (vs : Settings) → Numbered i vs → vs ≡ map (setting_of vs) (upto_from i (length vs))
by_numbers i vs h = sym (from_is (setting_of vs) i vs no_setting (numbered_of i vs h))

module _ (r t : ℕ) where
  exceeds_in_lem : (v : Setting) → length v.powers ≡ t → any (reactive_exceeds r) v.powers ≡ exceeds_in r t v
  exceeds_in_lem v e =
      ap (any (reactive_exceeds r)) (sym (upto_is (λ s. power_in s v) v.powers no_power (λ k l. refl)))
      ∙ ap (λ n. any (reactive_exceeds r) (map (λ s. power_in s v) (upto n))) e

  exceeds_each : (vs : Settings) → Every (λ v. length v.powers ≡ t) vs → any (λ v. any (reactive_exceeds r) v.powers) vs ≡ any (exceeds_in r t) vs
  exceeds_each [] h = refl
  exceeds_each (v ∷ vs) h = ap₂ ◌||◌ (exceeds_in_lem v h.0) (exceeds_each vs h.1)

  -- what draws nothing exceeds nowhere
  exceeds_none : (i n : ℕ) → any (reactive_exceeds r) (map (λ s. power_in s no_setting) (upto_from i n)) ≡ false
  exceeds_none i zero = refl
  exceeds_none i (suc n) = ap₂ ◌||◌ (le-ltb (r * 0) 0 (omega arith)) (exceeds_none (suc i) n)

  -- by the numbers from 0 on, also where no setting has number 0
  pub exceeds_is : (line : List ℕ) → some_exceeds r (settings t line) ≡ any (exceeds_in r t) (map (setting_of (settings t line)) (upto (option_count line + 1)))
  unfolding some_exceeds setting_of
  exceeds_is line =
      exceeds_each (settings t line) (sized_settings t line)
      ∙ settings_by (λ b vs. any (exceeds_in r t) vs ≡ any (exceeds_in r t) (map (setting_of vs) (upto (option_count line + 1)))) t line
      (λ e. ap (any (exceeds_in r t)) (by_numbers 1 (options t line) (options-numbered t line))
      ∙ ap (λ x. x || any (exceeds_in r t) (map (setting_of (options t line)) (upto_from 1 (length (options t line)))))
      (sym (ap (λ v. exceeds_in r t (setting_or v)) (no_option t line) ∙ exceeds_none 0 t))
      ∙ numbers (options t line))
      (λ e. ap (any (exceeds_in r t)) (by_numbers 0 (standing t line ∷ options t line) (refl, options-numbered t line)) ∙ numbers (standing t line ∷ options t line))
    where
      numbers : (vs : Settings)
          → any (exceeds_in r t) (map (setting_of vs) (upto (suc (length (options t line))))) ≡ any (exceeds_in r t) (map (setting_of vs) (upto (option_count line + 1)))
      numbers vs =
          let e : suc (length (options t line)) ≡ option_count line + 1 = omega (arith, options-length t line) in
          ap (λ k. any (exceeds_in r t) (map (setting_of vs) (upto k))) e

-- ---- Q plus 32,768

pub raised-signed : (w : ℕ) → w < 65536 → raised (signed 16 w) ≡ (w + 32768) % 65536
unfolding raised signed
raised-signed w h = go (split w 32768)
  where
    go : (w < 32768) ⊎ (32768 ≤ w) → raised (signed 16 w) ≡ (w + 32768) % 65536
    go (inl l) = ap (λ t. raised (cond t (pos w) (sub_ℕ w 65536))) (lt-ltb w 32768 l) ∙ (omega arith)
    go (inr l) = ap (λ t. raised (cond t (pos w) (sub_ℕ w 65536))) (le-ltb w 32768 l) ∙ ap raised (sub_neg w 65536 h) ∙ (omega arith)

-- its distance from 32,768 is |Q|
abbrev pub offset : ℤ → ℕ
offset z = (raised z - 32768) + (32768 - raised z)

pub abs_raised : (z : ℤ) → nat_abs z ≤ 32768 → offset z ≡ nat_abs z
unfolding raised
abs_raised (pos n) h = omega arith
abs_raised (negsuc n) h = omega arith
