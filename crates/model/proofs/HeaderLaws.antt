-- A header of kind `08` that is written is read: before load lines that are read, it gives the book.
-- Assumes nothing.
use mathlib.Core.Path.{◌≡◌, refl, sym, ap, ap₂, ◌∙◌, subst}
use mathlib.Core.Bool.{true, cond, not, ◌&&◌, ◌||◌}
use mathlib.Core.List.{List, [], ◌∷◌, ◌++◌, map, append_assoc, append-nil}
use Prim.Native.Nat.{ℕ, suc, ◌+◌, ◌*◌, ◌^◌, ◌<◌, ◌≤◌}
use native.Mathlib.Nat.{zero-add}
use native.Mathlib.Numerals.{add-one}
use native.Mathlib.Omega.{arith}
use lib.Dec.{eqb}
use lib.ListN.{length, take, drop, length-append}
use lib.Seq.{take_at, drop-append-add}
use borrow.Author.Tests.{le-ltb, eq-eqb}
use Rattle.model.specs.Lists.{within, upto, Every, all, any, concat}
use Rattle.model.specs.Bounds.{most_slots, most_loads, most_fineness, most_ratio, most_limit}
use Rattle.model.specs.Frames.{is_digit, digits, field, line_length, line_of, after_line}
use Rattle.model.specs.Refusals.{done}
use Rattle.model.specs.Book.{Problem, header_kinds, slot_count, load_count, fineness_in, states_ratio, ratio_digits, ratio_in, budget_in, limits_in, problem, header_rules, read_loads, read_book}
use Rattle.model.specs.Sheet.{lf}
use Rattle.model.specs.Demand.{T, N}
use Rattle.model.specs.Pool.{header_line}
use Rattle.model.proofs.ListLaws.{is_within, every_imp, all_join, length-concat}
use Rattle.model.proofs.UptoLaws.{upto_is}
use Rattle.model.proofs.FrameLaws.{length_digits, digits_are, field_back, digits_next, fields_back, line-digits}
use Rattle.model.proofs.RefusalLaws.{NoneApplies}
use Rattle.model.proofs.ValidLaws.{book_back}

-- the numbers of a book fit their digits and lie in their ranges
pub record HeaderFits (p : Problem) : Type 0 where
  pub slots : (1 ≤ T p) × (T p ≤ most_slots)
  pub loads : (1 ≤ N p) × (N p ≤ most_loads)
  pub fineness : (1 ≤ p.fineness) × (p.fineness ≤ most_fineness)
  pub ratio : (1 ≤ p.ratio) × (p.ratio ≤ most_ratio)
  pub budget : p.budget < 2 ^ 32
  pub limits : Every (λ s. s ≤ most_limit) p.limits

all-concat : (f : ℕ → List ℕ) → ((x : ℕ) → all is_digit (f x) ≡ true) → (xs : List ℕ) → all is_digit (concat (map f xs)) ≡ true
all-concat f h [] = refl
all-concat f h (x ∷ xs) = all_join is_digit (f x) (concat (map f xs)) ∙ ap₂ ◌&&◌ (h x) (all-concat f h xs)

module _ (p : Problem) where
  -- the limits, and the line without its LF
  abbrev limit_digits : List ℕ
  limit_digits = concat (map (digits 4) p.limits)

  abbrev header_digits : List ℕ
  header_digits = digits 2 8 ++ (digits 2 (T p) ++ (digits 2 (N p) ++ (digits 2 p.fineness ++ (digits 2 p.ratio ++ (digits 8 p.budget ++ limit_digits)))))

  header_is : header_line p ≡ header_digits ++ lf
  unfolding header_line
  header_is = simp append_assoc

  digits-length : length header_digits ≡ 18 + 4 * T p
  digits-length = simp (length-append, length_digits) (omega (arith, length-concat (digits 4) 4 (length_digits 4) p.limits))

  pub length_header : length (header_line p) ≡ 19 + 4 * T p
  length_header = ap length header_is ∙ length-append header_digits lf ∙ (omega (arith, digits-length))

  all_digits : all is_digit header_digits ≡ true
  all_digits = simp (all_join, digits_are, all-concat (digits 4) (digits_are 4) p.limits)

  -- ---- its fields

  module _ (fits : HeaderFits p) where
    at_slots : drop 2 header_digits ≡ digits 2 (T p) ++ (digits 2 (N p) ++ (digits 2 p.fineness ++ (digits 2 p.ratio ++ (digits 8 p.budget ++ limit_digits))))
    at_slots = digits_next header_digits _ 0 2 8 refl

    at_loads : drop 4 header_digits ≡ digits 2 (N p) ++ (digits 2 p.fineness ++ (digits 2 p.ratio ++ (digits 8 p.budget ++ limit_digits)))
    at_loads = digits_next header_digits _ 2 2 (T p) at_slots

    at_fineness : drop 6 header_digits ≡ digits 2 p.fineness ++ (digits 2 p.ratio ++ (digits 8 p.budget ++ limit_digits))
    at_fineness = digits_next header_digits _ 4 2 (N p) at_loads

    at_ratio : drop 8 header_digits ≡ digits 2 p.ratio ++ (digits 8 p.budget ++ limit_digits)
    at_ratio = digits_next header_digits _ 6 2 p.fineness at_fineness

    at_budget : drop 10 header_digits ≡ digits 8 p.budget ++ limit_digits
    at_budget = digits_next header_digits _ 8 2 p.ratio at_ratio

    at_limits : drop 18 header_digits ≡ limit_digits ++ []
    at_limits = digits_next header_digits limit_digits 10 8 p.budget at_budget ∙ sym (append-nil limit_digits)

    kind_is : field header_digits 0 2 ≡ 8
    kind_is = field_back header_digits _ 0 2 8 refl (omega arith)

    states : states_ratio header_digits ≡ true
    unfolding states_ratio
    states = eq-eqb (field header_digits 0 2) 8 kind_is

    two_digits : ratio_digits header_digits ≡ 2
    unfolding ratio_digits
    two_digits = ap (λ t. cond t 2 0) states

    slots-is : slot_count header_digits ≡ T p
    slots-is = field_back header_digits _ 2 2 (T p) at_slots (omega (arith, fits.slots.1))

    loads-is : load_count header_digits ≡ N p
    loads-is = field_back header_digits _ 4 2 (N p) at_loads (omega (arith, fits.loads.1))

    fineness-is : fineness_in header_digits ≡ p.fineness
    fineness-is = field_back header_digits _ 6 2 p.fineness at_fineness (omega (arith, fits.fineness.1))

    ratio-is : ratio_in header_digits ≡ p.ratio
    unfolding ratio_in
    ratio-is = ap (λ t. cond t (field header_digits 8 2) 1) states ∙ field_back header_digits _ 8 2 p.ratio at_ratio (omega (arith, fits.ratio.1))

    budget-is : budget_in header_digits ≡ p.budget
    budget-is = ap (λ n. field header_digits (8 + n) 8) two_digits ∙ field_back header_digits _ 10 8 p.budget at_budget (omega (arith, fits.budget))

    limits-is : limits_in header_digits ≡ p.limits
    limits-is =
        ap₂ (λ n t. map (λ s. field header_digits (16 + n + 4 * s) 4) (upto t)) two_digits slots-is
        ∙ upto_is (λ s. field header_digits (18 + 4 * s) 4) p.limits 0
        (λ i l. ap (λ k. field header_digits (18 + 4 * k) 4) (sym (zero-add i))
        ∙ fields_back (λ s. s) 4 18 header_digits [] 0 0 p.limits
        (every_imp (λ s. s ≤ most_limit) (λ s. s < 16 ^ 4) (λ s h. omega (arith, h)) p.limits fits.limits) at_limits i l)

    no_rule : NoneApplies (header_rules header_digits)
    unfolding header_rules
    no_rule = (
      ap not all_digits,
      (
        ap₂ (λ t k. t || not (any (eqb k) header_kinds)) (le-ltb (length header_digits) 4 (omega (arith, digits-length))) kind_is,
        (
          ap (λ n. not (within 1 most_slots n)) slots-is ∙ ap not (is_within 1 most_slots (T p) fits.slots.0 fits.slots.1),
          (
            ap not (eq-eqb _ _ (digits-length ∙ sym (ap₂ (λ n t. 16 + n + 4 * t) two_digits slots-is))),
            (
              ap not (ap₂ ◌&&◌ (ap₂ ◌&&◌ (ap (within 1 most_loads) loads-is ∙ is_within 1 most_loads (N p) fits.loads.0 fits.loads.1)
                  (ap (within 1 most_fineness) fineness-is ∙ is_within 1 most_fineness p.fineness fits.fineness.0 fits.fineness.1))
                  (ap (within 1 most_ratio) ratio-is ∙ is_within 1 most_ratio p.ratio fits.ratio.0 fits.ratio.1)),
              tt,
            ),
          ),
        ),
      ),
    )

    -- ---- the book

    same-problem : problem header_digits p.loads ≡ p
    same-problem =
        ap {B = Problem} (λ d. record { fineness = d; ratio = ratio_in header_digits; budget = budget_in header_digits; limits = limits_in header_digits; loads = p.loads }) fineness-is
        ∙ ap {B = Problem} (λ r. record { fineness = p.fineness; ratio = r; budget = budget_in header_digits; limits = limits_in header_digits; loads = p.loads }) ratio-is
        ∙ ap₂ {C = Problem} (λ b s. record { fineness = p.fineness; ratio = p.ratio; budget = b; limits = s; loads = p.loads }) budget-is limits-is

    -- A HEADER THAT IS WRITTEN IS READ
    pub header_back : (lines : List ℕ) → read_loads (T p) p.ratio (N p) 2 lines ≡ done p.loads → read_book (header_line p ++ lines) ≡ done p
    header_back lines e =
        let bytes : List ℕ = header_digits ++ (10 ∷ lines) in
        let long : line_length bytes ≡ length header_digits = line-digits header_digits lines all_digits in
        let line : line_of bytes ≡ header_digits = ap (λ n. take n bytes) long ∙ take_at header_digits (10 ∷ lines) (length header_digits) refl in
        let after : after_line bytes ≡ lines
        = ap (λ n. drop n bytes) (ap suc long ∙ sym (add-one (length header_digits))) ∙ drop-append-add header_digits (10 ∷ lines) 1 in
        ap read_book (ap (λ h. h ++ lines) header_is ∙ append_assoc header_digits lf lines)
        ∙ book_back bytes p
        (record {
          ends = omega (arith, long, length-append header_digits (10 ∷ lines));
          rules = subst (λ h. NoneApplies (header_rules h)) (sym line) no_rule;
          loads = ap₂ (λ h rest. read_loads (slot_count h) (ratio_in h) (load_count h) 2 rest) line after
              ∙ ap₂ (λ t n. read_loads t (ratio_in header_digits) n 2 lines) slots-is loads-is
              ∙ ap (λ r. read_loads (T p) r (N p) 2 lines) ratio-is
              ∙ e;
          same = ap (λ h. problem h p.loads) line ∙ same-problem;
        })
