-- What is found on a sheet: its numbers, and its choice.
-- Assumes nothing.
use Prim.Native.Nat.{ℕ, zero, suc, ◌+◌, ◌*◌, ◌≤◌, ◌<◌}
use mathlib.Core.Path.{◌≡◌, refl, sym, ap, subst, ◌∙◌}
use mathlib.Core.Bool.{Bool, true, false, not, false≢true}
use mathlib.Core.Logic.{◌⊎◌, inl, inr}
use mathlib.Core.List.{List, [], ◌∷◌}
use mathlib.Core.Option.{Option, none, some}
use Rattle.std.specs.Prelude.{None, Some}
use native.Mathlib.Nat.{zero-add, add-zero, le_of_suc-le-suc}
use native.Mathlib.Omega.{arith}
use lib.Dec.{eqb}
use lib.ListN.{length, get_or, set, length-set}
use Rattle.model.specs.declared.Book.{Book}
use Rattle.std.specs.Prelude.{Ok, Err}
use Rattle.model.specs.declared.Load.{Load}
use Rattle.model.specs.declared.Refusal.TheVariants.{ForeignSheet}
use Rattle.model.specs.Lists.{Every, same_lists}
use Rattle.model.specs.Bounds.{most_loads}
use Rattle.model.specs.Frames.{field}
use Rattle.model.specs.Refusals.{Finding, Result, refused, done, first, checked, and_then}
use Rattle.model.specs.Book.{Setting, Settings, Problem}
use Rattle.model.specs.Choice.{Choice, setting_numbered, least_of}
use Rattle.model.specs.Sheet.{sheet_bytes, sheet_length}
use Rattle.model.specs.SheetReader.{foreign_rules, cons_both, choice_from, trials_on, if_belongs, sheet_choice}
use Rattle.model.specs.Valid.{Labelled}
use Rattle.model.specs.Values.{Held, Offers, Picked, choice_of, problem_of}
use Rattle.model.proofs.ListLaws.{same_eq, same_refl, at_set}
use Rattle.model.proofs.IntegerLaws.{split}
use Rattle.model.proofs.RefusalLaws.{first_here, first_last}
use Rattle.model.proofs.NumberLaws.{none_found}
use Rattle.model.proofs.ValidLaws.{load_labelled}
use Rattle.model.proofs.PlanLaws.{chosen_length}
use Rattle.model.proofs.SheetLaws.{sheet-length, choice-is, choice_back}
use Rattle.model.proofs.HeldLaws.{held-valid, held-count, held-few, held_at, value_least, value_count}
use Rattle.sums.proofs.PickLaws.{picked-choice}
use Rattle.sheet.proofs.WriteLaws.{number_at, choice-length}
use Rattle.chosen.specs.declared.OnSheet.{OnSheet}
use Rattle.chosen.specs.Chosen.{Numbered, PicksOn, Belongs, Stated, ChoiceOn}

-- ---- the numbers on a sheet

-- a number below a load's least, or past its last
abbrev Outside : Settings → ℕ → Type 0
Outside vs c = (c < least_of vs) ⊎ (least_of vs + length vs ≤ c)

both_none : (x : Option Setting) → cons_both x none ≡ none
both_none none = refl
both_none (some v) = refl

choice-none : (sheet : List ℕ) (i : ℕ) (loads : List Settings) → Every Labelled loads → (k : ℕ) → k < length loads
    → Outside (get_or loads k []) (field sheet (18 + 2 * (i + k)) 2) → choice_from sheet i loads ≡ none
choice-none sheet i [] h k l o = absurd (omega arith)
choice-none sheet i (vs ∷ loads) h zero l o =
    ap (λ x. cons_both x (choice_from sheet (suc i) loads))
    (none_found (least_of vs) vs (field sheet (18 + 2 * i) 2) h.0.numbered (subst (λ j. Outside vs (field sheet (18 + 2 * j) 2)) (add-zero i) o))
choice-none sheet i (vs ∷ loads) h (suc k) l o =
    let across : 18 + 2 * (i + suc k) ≡ 18 + 2 * (suc i + k) = omega arith in
    ap (cons_both (setting_numbered (field sheet (18 + 2 * i) 2) vs))
    (choice-none sheet (suc i) loads h.1 k (le_of_suc-le-suc l) (subst (λ j. Outside (get_or loads k []) (field sheet j 2)) across o))
    ∙ both_none (setting_numbered (field sheet (18 + 2 * i) 2) vs)

-- the first k numbers of the sheet stand in the array, and each is one of its load's
pub record ReadUpto (sheet : List ℕ) (b : Problem) (k : ℕ) (picks : List ℕ) : Type 0 where
  pub room : length picks ≡ most_loads
  pub same : (j : ℕ) → j < k → get_or picks j 0 ≡ field sheet (18 + 2 * j) 2
  pub inside : (j : ℕ) → j < k → Offers (get_or b.loads j []) (get_or picks j 0)

pub read_start : (sheet : List ℕ) (b : Problem) (picks : List ℕ) → length picks ≡ most_loads → ReadUpto sheet b 0 picks
read_start sheet b picks e = record { room = e; same = λ j l. absurd (omega arith); inside = λ j l. absurd (omega arith) }

module _ (book : Book) (h : Held book) (sheet picks : List ℕ) where
  abbrev book_of : Problem
  book_of = problem_of book

  module _ (k : ℕ) (d : Load) (l : k < book.count) where
    least_at_lem : (get_or book.loads k d).least ≡ least_of (get_or book_of.loads k [])
    least_at_lem = ap (λ (x : Load). x.least) (held_at book h k d l) ∙ value_least (get_or book_of.loads k [])

    settings_at : (get_or book.loads k d).settings ≡ length (get_or book_of.loads k [])
    settings_at = ap (λ (x : Load). x.settings) (held_at book h k d l) ∙ value_count (get_or book_of.loads k [])

    -- no number past a load's last
    pub numbers-few : (get_or book.loads k d).least + (get_or book.loads k d).settings ≤ 4
    numbers-few = omega (arith, least_at_lem, settings_at, (load_labelled (held-valid book h) k (omega (arith, held-count book h))).few)

  -- one load more
  pub read_more : (k : ℕ) (d : Load) (c : ℕ) → k < book.count → ReadUpto sheet book_of k picks → c ≡ field sheet (18 + 2 * k) 2
      → (get_or book.loads k d).least ≤ c → c < (get_or book.loads k d).least + (get_or book.loads k d).settings
      → ReadUpto sheet book_of (k + 1) (set picks k c)
  read_more k d c l r e from m =
      record {
        room = length-set picks k c ∙ r.room;
        same = λ j g. cases (λ x. x ≡ field sheet (18 + 2 * j) 2) j g (λ i. r.same j i) (λ q. e ∙ ap (λ i. field sheet (18 + 2 * i) 2) (sym q));
        inside = λ j g. cases (Offers (get_or book_of.loads j [])) j g (λ i. r.inside j i)
            (λ q. subst (λ i. Offers (get_or book_of.loads i []) c) (sym q) (omega (arith, least_at_lem k d l), omega (arith, least_at_lem k d l, settings_at k d l)));
      }
    where
      cases : (P : ℕ → Type 0) (j : ℕ) → j < k + 1 → (j < k → P (get_or picks j 0)) → (j ≡ k → P c) → P (get_or (set picks k c) j 0)
      cases P j g before last = at_set P picks k j c 0 (omega (arith, r.room, held-few book h)) last (λ n. before (below n (split j k)))
        where
          below : (j ≡ k → ⊥) → (j < k) ⊎ (k ≤ j) → j < k
          below n (inl i) = i
          below n (inr i) = absurd (n (omega arith))

  -- a number that is not one of its load's
  read_lost : (k c : ℕ) → k < book.count → c ≡ field sheet (18 + 2 * k) 2 → Outside (get_or book_of.loads k []) c
      → PicksOn sheet book_of None
  read_lost k c l e m =
      choice-none sheet 0 book_of.loads (held-valid book h).loads.labels k (omega (arith, held-count book h))
      (subst (Outside (get_or book_of.loads k [])) (e ∙ ap (λ i. field sheet (18 + 2 * i) 2) (sym (zero-add k))) m)

  pub read_below : (k : ℕ) (d : Load) (c : ℕ) → k < book.count → c ≡ field sheet (18 + 2 * k) 2 → c < (get_or book.loads k d).least
      → PicksOn sheet book_of None
  read_below k d c l e m = read_lost k c l e (inl (omega (arith, least_at_lem k d l)))

  pub read_past : (k : ℕ) (d : Load) (c : ℕ) → k < book.count → c ≡ field sheet (18 + 2 * k) 2
      → (get_or book.loads k d).least + (get_or book.loads k d).settings ≤ c → PicksOn sheet book_of None
  read_past k d c l e m = read_lost k c l e (inr (omega (arith, least_at_lem k d l, settings_at k d l)))

  -- each is one of its load's
  pub read_found : (k : ℕ) → k ≡ book.count → ReadUpto sheet book_of k picks → PicksOn sheet book_of (Some picks)
  read_found k e r =
      record {
        picked = picked;
        found =
            choice_back sheet 0 book_of.loads (choice_of book_of picks) (picked-choice book_of picks (held-valid book h) picked) (held-valid book h).loads.labels
            (λ j l.
            let i : j < length book_of.loads = omega (arith, choice-length book_of picks (held-valid book h) picked) in
            ap (λ m. field sheet (18 + 2 * m) 2) (zero-add j)
            ∙ sym (r.same j (omega (arith, held-count book h)))
            ∙ sym (number_at book_of picks (held-valid book h) picked j i));
      }
    where
      picked : Picked book_of picks
      picked j l = r.inside j (omega (arith, held-count book h))

-- ---- the choice on a sheet

module _ (sheet : List ℕ) (b : Problem) where
  pub none-foreign : choice_from sheet 0 b.loads ≡ none → sheet_choice sheet b ≡ refused ForeignSheet 0
  unfolding sheet_choice
  none-foreign e = ap (if_belongs sheet b) e

  module _ (c : Choice) (e : choice_from sheet 0 b.loads ≡ some c) where
    choice_at : (f : Finding) → first (foreign_rules b sheet c (trials_on sheet)) ≡ f
        → sheet_choice sheet b ≡ checked 0 f (done c)
    unfolding sheet_choice
    choice_at f q = ap (if_belongs sheet b) e ∙ ap (λ x. checked 0 x (done c)) q

    -- other bytes than the choice and the trials on the sheet give
    other_foreign : (sheet ≡ sheet_bytes b c (trials_on sheet) → ⊥) → sheet_choice sheet b ≡ refused ForeignSheet 0
    other_foreign h = choice_at (Err ForeignSheet) (first_here ForeignSheet [] _ (ap not (other (same_lists eqb sheet (sheet_bytes b c (trials_on sheet))) refl)))
      where
        other : (t : Bool) → same_lists eqb sheet (sheet_bytes b c (trials_on sheet)) ≡ t → same_lists eqb sheet (sheet_bytes b c (trials_on sheet)) ≡ false
        other true q = absurd (h (same_eq sheet (sheet_bytes b c (trials_on sheet)) q))
        other false q = q

    -- the same bytes
    same_belongs : sheet ≡ sheet_bytes b c (trials_on sheet) → sheet_choice sheet b ≡ done c
    same_belongs h = choice_at (Ok tt) (first_last ForeignSheet _ (ap not (ap (same_lists eqb sheet) (sym h) ∙ same_refl sheet)))

  -- a sheet of another length
  pub length-foreign : (length sheet ≡ sheet_length b → ⊥) → sheet_choice sheet b ≡ refused ForeignSheet 0
  length-foreign h = go (choice_from sheet 0 b.loads) refl
    where
      go : (m : Option Choice) → choice_from sheet 0 b.loads ≡ m → sheet_choice sheet b ≡ refused ForeignSheet 0
      go none e = none-foreign e
      go (some c) e =
          other_foreign c e (λ q. h (ap length q ∙ sheet-length b c (trials_on sheet) (chosen_length b.loads c (choice-is sheet 0 b.loads c e))))

  -- the bytes are those that the numbers and the trials on it give, or others
  module _ (picks : List ℕ) (trials : ℕ) (is : Bool) (on : Numbered sheet b picks) (t : trials ≡ trials_on sheet)
      (h : Belongs sheet (sheet_bytes b (choice_of b picks) trials) is) where
    pub compared_same : is ≡ true → ChoiceOn sheet b (Some (record { picks = picks; trials = trials }))
    compared_same q =
        record {
          picked = on.picked;
          found = same_belongs (choice_of b picks) on.found (h.same q ∙ ap (sheet_bytes b (choice_of b picks)) t);
          trials = t;
        }

    pub compared_other : is ≡ false → ChoiceOn sheet b None
    compared_other q =
        other_foreign (choice_of b picks) on.found
        (λ e. false≢true (sym q ∙ h.known (e ∙ ap (sheet_bytes b (choice_of b picks)) (sym t))))

-- ---- what is made of the choice on a sheet

module _ (sheet : List ℕ) (b : Problem) {A : Type 0} (f : Choice → Result A) where
  pub then_foreign : ChoiceOn sheet b None → refused ForeignSheet 0 ≡ and_then (sheet_choice sheet b) f
  then_foreign foreign = sym (ap (λ x. and_then x f) foreign)

  pub then_read : (on : OnSheet) → Stated sheet b on → f (choice_of b on.picks) ≡ and_then (sheet_choice sheet b) f
  then_read on is = sym (ap (λ x. and_then x f) is.found)
