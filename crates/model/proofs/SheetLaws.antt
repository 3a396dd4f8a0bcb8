-- The sheet's length and fields, and the sheet reader: it accepts exactly the sheets that some choice and some trials below 2^32 give.
-- Assumes nothing.
use mathlib.Core.Path.{◌≡◌, refl, sym, ap, ap₂, ◌∙◌, subst}
use mathlib.Core.Bool.{true, not}
use mathlib.Core.List.{List, [], ◌∷◌, ◌++◌, append_assoc, append-nil}
use mathlib.Core.Option.{Option, none, some, none-ne-some, some-injective}
use Prim.Native.Nat.{ℕ, suc, ◌+◌, ◌*◌, ◌^◌, ◌<◌}
use native.Mathlib.Nat.{add-zero, zero-add}
use native.Mathlib.Omega.{arith}
use lib.Dec.{eqb}
use lib.ListN.{length, length-append, get_or, drop}
use borrow.Author.Tests.{not-false}
use Rattle.model.specs.declared.Refusal.TheVariants.{ForeignSheet}
use Rattle.std.specs.Prelude.{Ok}
use Rattle.model.specs.Lists.{Every, same_lists}
use Rattle.model.specs.Frames.{digits, field}
use Rattle.model.specs.Refusals.{Result, done, first, checked, and_then}
use Rattle.model.specs.Book.{Setting, Settings, Problem, read_book}
use Rattle.model.specs.Choice.{Choice, IsChoice, worth_of, code_of, no_setting, setting_numbered}
use Rattle.model.specs.Sheet.{lf, numbers_of, first_line, SumsAndLimit, sums_and_limit, sums_and_limits, slot_line, slot_lines, sheet_bytes, sheet_length}
use Rattle.model.specs.SheetReader.{foreign_rules, SheetOf, SheetData, cons_both, choice_from, trials_on, if_belongs, sheet_choice, sheet_data, reader_result}
use Rattle.model.specs.Valid.{Labelled}
use Rattle.model.proofs.ListLaws.{every_imp, length-concat, same_eq, same_refl}
use Rattle.model.proofs.UptoLaws.{suc_across, length-upto}
use Rattle.model.proofs.FrameLaws.{length_digits, field_back, digits_next, fields_back, field_below}
use Rattle.model.proofs.RefusalLaws.{refused-done, then_done, done-same, checked-done, first_passed, first-none}
use Rattle.model.proofs.NumberLaws.{found_mem, member_found, numbers-small}
use Rattle.model.proofs.ValidLaws.{book-valid}

-- ---- the length

length-numbers : (c : Choice) → length (numbers_of c) ≡ 2 * length c
unfolding numbers_of
length-numbers c = length-concat (λ v. digits 2 v.number) 2 (λ v. length_digits 2 v.number) c

pub length-first : (c : Choice) (t : ℕ) → length (first_line c t) ≡ 19 + 2 * length c
unfolding first_line
length-first c t = simp (length-append, length_digits, length-numbers) (omega arith)

pub length_slot : (x : SumsAndLimit) → length (slot_line x) ≡ 23
unfolding slot_line
length_slot x = simp (length-append, length_digits) (omega arith)

pub length_slot_lines : (b : Problem) (c : Choice) → length (slot_lines (sums_and_limits b c)) ≡ 23 * length b.limits
unfolding slot_lines sums_and_limits
length_slot_lines b c =
    length-concat slot_line 23 length_slot (sums_and_limits b c)
    ∙ ap (λ n. 23 * n) (length-upto (sums_and_limit b c) (length b.limits))

pub sheet-length : (b : Problem) (c : Choice) (t : ℕ) → length c ≡ length b.loads → length (sheet_bytes b c t) ≡ sheet_length b
unfolding sheet_bytes
sheet-length b c t e =
    length-append (first_line c t) (slot_lines (sums_and_limits b c))
    ∙ (omega (arith, length-first c t, length_slot_lines b c))

-- ---- the fields of the first line

-- what stands before and after the numbers of a choice
abbrev starting : Choice → ℕ → List ℕ → List ℕ
starting c t rest = digits 2 4 ++ (digits 8 (worth_of c) ++ (digits 8 t ++ (numbers_of c ++ rest)))

sheet-starts : (b : Problem) (c : Choice) (t : ℕ) (past : List ℕ) → sheet_bytes b c t ++ past ≡ starting c t (lf ++ (slot_lines (sums_and_limits b c) ++ past))
unfolding sheet_bytes first_line
sheet-starts b c t past = simp append_assoc

module _ (b : Problem) (c : Choice) (t : ℕ) (bytes past : List ℕ) (e : bytes ≡ sheet_bytes b c t ++ past) where
  rest : List ℕ
  rest = lf ++ (slot_lines (sums_and_limits b c) ++ past)

  at_worth : drop 2 bytes ≡ digits 8 (worth_of c) ++ (digits 8 t ++ (numbers_of c ++ rest))
  unfolding rest
  at_worth = digits_next bytes (digits 8 (worth_of c) ++ (digits 8 t ++ (numbers_of c ++ rest))) 0 2 4 (e ∙ sheet-starts b c t past)

  at_trials : drop 10 bytes ≡ digits 8 t ++ (numbers_of c ++ rest)
  at_trials = digits_next bytes (digits 8 t ++ (numbers_of c ++ rest)) 2 8 (worth_of c) at_worth

  at_numbers : drop 18 bytes ≡ numbers_of c ++ rest
  at_numbers = digits_next bytes (numbers_of c ++ rest) 10 8 t at_trials

  pub worth_on : worth_of c < 16 ^ 8 → field bytes 2 8 ≡ worth_of c
  worth_on h = field_back bytes (digits 8 t ++ (numbers_of c ++ rest)) 2 8 (worth_of c) at_worth h

  pub trials_on_lem : t < 16 ^ 8 → field bytes 10 8 ≡ t
  trials_on_lem h = field_back bytes (numbers_of c ++ rest) 10 8 t at_trials h

  pub numbers_on : Every (λ v. v.number < 4) c → (u : Setting) (k : ℕ) → k < length c → field bytes (18 + 2 * k) 2 ≡ (get_or c k u).number
  unfolding numbers_of
  numbers_on h u k l =
      ap (λ j. field bytes (18 + 2 * j) 2) (sym (zero-add k))
      ∙ fields_back (λ v. v.number) 2 18 bytes rest u 0 c (every_imp (λ v. v.number < 4) (λ v. v.number < 16 ^ 2) (λ v m. omega (arith, m)) c h) at_numbers k l

-- ---- the choice on a sheet

pub choice-is : (bytes : List ℕ) (k : ℕ) (loads : List Settings) (c : Choice) → choice_from bytes k loads ≡ some c → IsChoice loads c
choice-is bytes k [] c e = subst (IsChoice []) (some-injective [] c e) tt
choice-is bytes k (vs ∷ loads) c e =
    go (setting_numbered (field bytes (18 + 2 * k) 2) vs) refl (choice_from bytes (suc k) loads) refl e (choice-is bytes (suc k) loads)
  where
    go : (x : Option Setting) → setting_numbered (field bytes (18 + 2 * k) 2) vs ≡ x → (y : Option Choice) → choice_from bytes (suc k) loads ≡ y
        → cons_both x y ≡ some c → ((d : Choice) → choice_from bytes (suc k) loads ≡ some d → IsChoice loads d) → IsChoice (vs ∷ loads) c
    go none p y q e rest = absurd (none-ne-some c e)
    go (some v) p none q e rest = absurd (none-ne-some c e)
    go (some v) p (some d) q e rest =
        subst (IsChoice (vs ∷ loads)) (some-injective (v ∷ d) c e) (found_mem (field bytes (18 + 2 * k) 2) vs v p, rest d q)

pub choice_back : (bytes : List ℕ) (k : ℕ) (loads : List Settings) (c : Choice) → IsChoice loads c → Every Labelled loads
    → ((j : ℕ) → j < length c → field bytes (18 + 2 * (k + j)) 2 ≡ (get_or c j no_setting).number) → choice_from bytes k loads ≡ some c
choice_back bytes k [] [] m h e = refl
choice_back bytes k [] (v ∷ c) m h e = absurd m
choice_back bytes k (vs ∷ loads) [] m h e = absurd m
choice_back bytes k (vs ∷ loads) (v ∷ c) m h e =
    ap₂ cons_both
    (ap (λ n. setting_numbered n vs) (ap (λ i. field bytes (18 + 2 * i) 2) (sym (add-zero k)) ∙ e 0 (omega arith))
    ∙ member_found vs h.0 v m.0)
    (choice_back bytes (suc k) loads c m.1 h.1
    (λ j l. ap (λ i. field bytes (18 + 2 * i) 2) (sym (suc_across k j)) ∙ e (suc j) (omega arith)))

-- ---- the sheet reader

abbrev pub data_of : Choice → ℕ → SheetData
data_of c t = record { code = code_of c; worth = worth_of c; trials = t }

module _ (sheet : List ℕ) (b : Problem) where
  -- of the sheet of a choice and trials, both are read back
  module _ (s : SheetOf b sheet) where
    plain : sheet ≡ sheet_bytes b s.choice s.trials ++ []
    plain = s.bytes ∙ sym (append-nil (sheet_bytes b s.choice s.trials))

    pub trials_back : trials_on sheet ≡ s.trials
    trials_back = trials_on_lem b s.choice s.trials sheet [] plain s.bound

    pub choice-accepted : Every Labelled b.loads → sheet_choice sheet b ≡ done s.choice
    unfolding sheet_choice
    choice-accepted labels =
        ap (if_belongs sheet b)
        (choice_back sheet 0 b.loads s.choice s.of_book labels
        (λ j l. ap (λ i. field sheet (18 + 2 * i) 2) (zero-add j)
        ∙ numbers_on b s.choice s.trials sheet [] plain (numbers-small b.loads s.choice labels s.of_book) no_setting j l))
        ∙ ap (λ n. checked 0 (first (foreign_rules b sheet s.choice n)) (done s.choice)) trials_back
        ∙ ap (λ f. checked 0 f (done s.choice)) (first-none (foreign_rules b sheet s.choice s.trials) (ap not own, tt))
      where
        own : same_lists eqb sheet (sheet_bytes b s.choice s.trials) ≡ true
        own = ap (same_lists eqb sheet) (sym s.bytes) ∙ same_refl sheet

  -- and where a choice is read, the sheet is that of the choice and the trials on it
  pub choice-only : (c : Choice) → sheet_choice sheet b ≡ done c → (s : SheetOf b sheet) × (s.choice ≡ c) × (s.trials ≡ trials_on sheet)
  unfolding sheet_choice
  choice-only c q = go (choice_from sheet 0 b.loads) refl q
    where
      go : (m : Option Choice) → choice_from sheet 0 b.loads ≡ m → if_belongs sheet b m ≡ done c
          → (s : SheetOf b sheet) × (s.choice ≡ c) × (s.trials ≡ trials_on sheet)
      go none p q = absurd (refused-done ForeignSheet 0 c q)
      go (some d) p q =
          let k : (first (foreign_rules b sheet d (trials_on sheet)) ≡ Ok tt) × (Path (Result Choice) (done d) (done c))
          = checked-done 0 (first (foreign_rules b sheet d (trials_on sheet))) (done d) c q in (
            record {
              choice = d;
              of_book = choice-is sheet 0 b.loads d p;
              trials = trials_on sheet;
              bound = field_below sheet 10 8;
              bytes = same_eq sheet (sheet_bytes b d (trials_on sheet))
                  (not-false (same_lists eqb sheet (sheet_bytes b d (trials_on sheet))) (first_passed (foreign_rules b sheet d (trials_on sheet)) k.0).0);
            },
            done-same d c k.1,
            refl,
          )

module _ (book sheet : List ℕ) (b : Problem) (e : read_book book ≡ done b) where
  read_one : reader_result book sheet ≡ and_then (sheet_choice sheet b) (λ c. done (data_of c (trials_on sheet)))
  unfolding reader_result sheet_data
  read_one = ap (λ x. and_then x (sheet_data sheet)) e

  -- every sheet of the book is read, with its choice's code and worth and its trials
  pub reader_accepts : (s : SheetOf b sheet) → reader_result book sheet ≡ done (data_of s.choice s.trials)
  reader_accepts s =
      read_one
      ∙ ap (λ x. and_then x (λ c. done (data_of c (trials_on sheet)))) (choice-accepted sheet b s (book-valid book b e).loads.labels)
      ∙ ap (λ t. done (data_of s.choice t)) (trials_back sheet b s)

  -- and nothing else is
  pub reader_only : (x : SheetData) → reader_result book sheet ≡ done x → (s : SheetOf b sheet) × (x ≡ data_of s.choice s.trials)
  reader_only x q =
      let k : (c : Choice) × (sheet_choice sheet b ≡ done c) × (Path (Result SheetData) (done (data_of c (trials_on sheet))) (done x))
      = then_done (sheet_choice sheet b) (λ c. done (data_of c (trials_on sheet))) x (sym read_one ∙ q) in
      let y = choice-only sheet b k.0 k.1 in
      (y.0, sym (done-same (data_of k.0 (trials_on sheet)) x k.2) ∙ ap₂ data_of (sym y.1) (sym y.2))
