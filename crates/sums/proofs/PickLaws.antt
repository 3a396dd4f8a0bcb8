-- The choice whose numbers are in an array, load by load: its sums, worth and code; and the digits of a code.
-- Assumes nothing.
use mathlib.Core.Path.{◌≡◌, refl, sym, ap, ap₂, subst, ◌∙◌}
use mathlib.Core.List.{List, [], ◌∷◌, ◌++◌, map, map-append, append_assoc}
use Prim.Native.Nat.{ℕ, zero, suc, ◌+◌, ◌-◌, ◌*◌, ◌/◌, ◌%◌, ◌^◌, ◌<◌, ◌≤◌}
use native.Mathlib.Nat.{zero-add, add-zero, le_trans, pow-zero, pow-succ', pow-le-pow_right}
use native.Mathlib.Numerals.{add-one}
use native.Mathlib.Omega.{arith}
use lib.ListN.{length, get_or, take, set}
use lib.Seq.{take-suc-set}
use Rattle.model.specs.declared.Load.{Load}
use Rattle.model.specs.declared.Book.{Book}
use Rattle.model.specs.Lists.{Mem, Every, upto_from, upto}
use Rattle.model.specs.Book.{Setting, Settings, Problem}
use Rattle.model.specs.Choice.{Choice, IsChoice, worth_of, code_of, decode, setting_of}
use Rattle.model.specs.Valid.{SettingSmall, ValidBook}
use Rattle.model.specs.Values.{Held, IsCode, problem_of, load_value, pick_of, choice_of, Picked}
use Rattle.model.specs.Bounds.{most_loads}
use Rattle.model.proofs.ListLaws.{every_imp, every_image}
use Rattle.model.proofs.UptoLaws.{suc_across, upto_last, length-upto, get_d_upto}
use Rattle.model.proofs.CodeLaws.{code-picked, code-choice}
use Rattle.model.proofs.ChoiceLaws.{snoc, worth_last, worth_most}
use Rattle.model.proofs.NumberLaws.{setting_small, offered_mem, offered-number, offered-few}
use Rattle.model.proofs.ValidLaws.{load_labelled}
use Rattle.model.proofs.HeldLaws.{held-valid, held-count, held-few, held_at, loads-small}
use Rattle.sums.specs.declared.Sums.{Sums}
use Rattle.sums.specs.Sums.{sums_value, added, CanAdd}
use Rattle.sums.proofs.SumsLaws.{added_last, can_add}

-- the choice of the first k loads
abbrev pub picks_upto : Problem → List ℕ → ℕ → Choice
picks_upto b picks k = map (pick_of b picks) (upto k)

picks_last : (b : Problem) (picks : List ℕ) (k : ℕ) → picks_upto b picks (k + 1) ≡ snoc (pick_of b picks k) (picks_upto b picks k)
picks_last b picks k =
    ap (picks_upto b picks) (add-one k) ∙ ap (map (pick_of b picks)) (upto_last k) ∙ map-append (pick_of b picks) (upto k) (k ∷ [])

-- ---- the code: n places from i on, the last first

abbrev pub code_from : List ℕ → ℕ → ℕ → ℕ
code_from picks i zero = 0
code_from picks i (suc n) = get_or picks i 0 + 4 * code_from picks (suc i) n

pub code-more : (picks : List ℕ) (k n : ℕ) → 0 < k → k ≤ n → code_from picks (k - 1) (n - (k - 1)) ≡ get_or picks (k - 1) 0 + 4 * code_from picks k (n - k)
code-more picks k n some few =
    let more : n - (k - 1) ≡ suc (n - k) = omega arith in
    let next : suc (k - 1) ≡ k = omega arith in
    ap (code_from picks (k - 1)) more ∙ ap (λ i. get_or picks (k - 1) 0 + 4 * code_from picks i (n - k)) next

code_below : (picks : List ℕ) (i n m : ℕ) → i + n ≡ m → ((k : ℕ) → k < m → get_or picks k 0 < 4) → code_from picks i n < 4 ^ n
code_below picks i zero m e h = omega (arith, pow-zero 4)
code_below picks i (suc n) m e h =
    omega (arith, pow-succ' 4 n, code_below picks (suc i) n m (omega arith) h, h i (omega arith))

code-small : (picks : List ℕ) (i n m most : ℕ) → i + n ≡ m → n ≤ most → ((k : ℕ) → k < m → get_or picks k 0 < 4) → code_from picks i n < 4 ^ most
code-small picks i n m most e few h = le_trans (code_below picks i n m e h) (pow-le-pow_right (omega arith) few)

code_of_lem : (picks : List ℕ) (f : ℕ → Setting) (i n m : ℕ) → i + n ≡ m → ((k : ℕ) → k < m → (f k).number ≡ get_or picks k 0)
    → code_from picks i n ≡ code_of (map f (upto_from i n))
code_of_lem picks f i zero m e h = refl
code_of_lem picks f i (suc n) m e h =
    ap₂ (λ x y. x + 4 * y) (sym (h i (omega arith))) (code_of_lem picks f (suc i) n m (omega arith) h)

-- ---- the digits of a code, one after the other

pub decode-more : (picks : List ℕ) (k m rest : ℕ) (all : List ℕ) → k < length picks
    → take k picks ++ decode (suc m) rest ≡ all → take (k + 1) (set picks k (rest % 4)) ++ decode m (rest / 4) ≡ all
decode-more picks k m rest all h e =
    rw (add-one, take-suc-set) (append_assoc (take k picks) (rest % 4 ∷ []) (decode m (rest / 4)) ∙ e)

-- ---- a choice of the loads

choice_from_lem : (loads : List Settings) (f : ℕ → Setting) (i : ℕ) → ((k : ℕ) → k < length loads → Mem (f (i + k)) (get_or loads k []))
    → IsChoice loads (map f (upto_from i (length loads)))
choice_from_lem [] f i h = tt
choice_from_lem (vs ∷ loads) f i h = (
  subst (λ k. Mem (f k) vs) (add-zero i) (h 0 (omega arith)),
  choice_from_lem loads f (suc i) (λ k l.
      subst (λ j. Mem (f j) (get_or loads k [])) (suc_across i k) (h (suc k) (omega arith))),
)

module _ (b : Problem) (picks : List ℕ) (valid : ValidBook b) (picked : Picked b picks) where
  pub picked-choice : IsChoice b.loads (choice_of b picks)
  unfolding choice_of
  picked-choice =
      choice_from_lem b.loads (pick_of b picks) 0 (λ k l.
      subst (λ j. Mem (pick_of b picks j) (get_or b.loads k [])) (sym (zero-add k)) (offered_mem (get_or b.loads k []) (load_labelled valid k l) (get_or picks k 0) (picked k l)))

  picks_small : (k : ℕ) → Every SettingSmall (picks_upto b picks k)
  picks_small k = every_image SettingSmall (pick_of b picks) (upto k) (λ i. setting_small (get_or b.loads i []) (loads-small b valid i) (get_or picks i 0))

  pick_few : (k : ℕ) → k < length b.loads → get_or picks k 0 < 4
  pick_few k l = offered-few (get_or b.loads k []) (load_labelled valid k l) (get_or picks k 0) (picked k l)

  pub pick_number : (k : ℕ) → k < length b.loads → (pick_of b picks k).number ≡ get_or picks k 0
  pick_number k l = offered-number (get_or b.loads k []) (load_labelled valid k l) (get_or picks k 0) (picked k l)

  -- ---- one load more

  picks_can_add : (k : ℕ) → k < length b.loads → CanAdd (sums_value (picks_upto b picks k)) (load_value (get_or b.loads k [])) (get_or picks k 0)
  picks_can_add k l =
      can_add (picks_upto b picks k) (get_or b.loads k []) (get_or picks k 0) (picks_small k)
      (omega (arith, length-upto (pick_of b picks) k, valid.loads_few)) (loads-small b valid k) (pick_few k l)

  sums-more : (k : ℕ) → k < length b.loads
      → added (sums_value (picks_upto b picks k)) (load_value (get_or b.loads k [])) (get_or picks k 0) ≡ sums_value (picks_upto b picks (k + 1))
  sums-more k l =
      added_last (picks_upto b picks k) (get_or b.loads k []) (get_or picks k 0) (picks_small k) (loads-small b valid k) (pick_few k l)
      ∙ ap sums_value (sym (picks_last b picks k))

  pick_worth : (k : ℕ) → k < length b.loads → get_or (load_value (get_or b.loads k [])).worths (get_or picks k 0) 0 ≡ (pick_of b picks k).worth
  unfolding load_value
  pick_worth k l = get_d_upto (λ c. (setting_of (get_or b.loads k []) c).worth) 4 (get_or picks k 0) 0 (pick_few k l)

  worth-more : (k : ℕ) → k < length b.loads
      → worth_of (picks_upto b picks k) + get_or (load_value (get_or b.loads k [])).worths (get_or picks k 0) 0 ≡ worth_of (picks_upto b picks (k + 1))
  worth-more k l =
      ap (λ x. worth_of (picks_upto b picks k) + x) (pick_worth k l)
      ∙ sym (ap worth_of (picks_last b picks k) ∙ worth_last (picks_upto b picks k) (pick_of b picks k))

  pub worth-small : (k : ℕ) → k ≤ most_loads → worth_of (picks_upto b picks k) ≤ most_loads * 65535
  worth-small k few =
      omega (
        arith,
        length-upto (pick_of b picks) k,
        worth_most 65535 (picks_upto b picks k)
            (every_imp SettingSmall (λ v. v.worth ≤ 65535) (λ v h. omega (arith, h.worth)) (picks_upto b picks k) (picks_small k)),
      )

  code_is : code_from picks 0 (length b.loads) ≡ code_of (choice_of b picks)
  unfolding choice_of
  code_is = code_of_lem picks (pick_of b picks) 0 (length b.loads) (length b.loads) (zero-add (length b.loads)) pick_number

-- ---- the same, of a value that holds the book

module _ (book : Book) (h : Held book) (picks : List ℕ) (picked : Picked (problem_of book) picks) where
  inside : (k : ℕ) → k < book.count → k < length (problem_of book).loads
  inside k l = omega (arith, held-count book h)

  pub held_pick : (k : ℕ) → k < book.count → get_or picks k 0 < 4
  held_pick k l = pick_few (problem_of book) picks (held-valid book h) picked k (inside k l)

  pub held_all : {A : Type 0} (f : Choice → A) (k : ℕ) → k ≡ book.count → f (picks_upto (problem_of book) picks k) ≡ f (choice_of (problem_of book) picks)
  unfolding choice_of
  held_all f k e = ap (λ i. f (picks_upto (problem_of book) picks i)) (e ∙ held-count book h)

  module _ (k : ℕ) (d : Load) (l : k < book.count) where
    pub held_can_add : (sums : Sums) → sums ≡ sums_value (picks_upto (problem_of book) picks k) → CanAdd sums (get_or book.loads k d) (get_or picks k 0)
    held_can_add sums e = rw (e, held_at book h k d l) (picks_can_add (problem_of book) picks (held-valid book h) picked k (inside k l))

    pub held-sums : (sums : Sums) → sums ≡ sums_value (picks_upto (problem_of book) picks k)
        → added sums (get_or book.loads k d) (get_or picks k 0) ≡ sums_value (picks_upto (problem_of book) picks (k + 1))
    held-sums sums e =
        ap₂ (λ s v. added s v (get_or picks k 0)) e (held_at book h k d l) ∙ sums-more (problem_of book) picks (held-valid book h) picked k (inside k l)

    pub held-worth : (worth : ℕ) → worth ≡ worth_of (picks_upto (problem_of book) picks k)
        → worth + get_or (get_or book.loads k d).worths (get_or picks k 0) 0 ≡ worth_of (picks_upto (problem_of book) picks (k + 1))
    held-worth worth e =
        ap₂ (λ w (v : Load). w + get_or v.worths (get_or picks k 0) 0) e (held_at book h k d l)
        ∙ worth-more (problem_of book) picks (held-valid book h) picked k (inside k l)

    pub held-worth-small : worth_of (picks_upto (problem_of book) picks (k + 1)) ≤ most_loads * 65535
    held-worth-small = worth-small (problem_of book) picks (held-valid book h) picked (k + 1) (omega (arith, held-few book h))

  -- the code from load k + 1 on, where a load stands before it
  pub held-code-small : (k : ℕ) → 0 < k → k ≤ book.count → code_from picks k (book.count - k) < 4 ^ 23
  held-code-small k some few =
      code-small picks k (book.count - k) book.count 23 (omega arith) (omega (arith, held-few book h)) held_pick

  pub held-code : (k : ℕ) → k ≡ 0 → code_from picks k (book.count - k) ≡ code_of (choice_of (problem_of book) picks)
  held-code k e =
      let all : book.count - k ≡ length (problem_of book).loads = omega (arith, held-count book h) in
      ap₂ (code_from picks) e all ∙ code_is (problem_of book) picks (held-valid book h) picked

-- the numbers of a choice's code are those of its settings
module _ (book : Book) (h : Held book) {code : ℕ} (coded : IsCode (problem_of book) code) (picks : List ℕ)
    (digits : take book.count picks ≡ decode book.count code) where
  all_digits : take (length (problem_of book).loads) picks ≡ decode (length (problem_of book).loads) (code_of coded.choice)
  all_digits = ap (λ n. take n picks) (sym (held-count book h)) ∙ digits ∙ ap₂ decode (held-count book h) coded.is

  pub held-code-picked : Picked (problem_of book) picks
  held-code-picked = code-picked (problem_of book) (held-valid book h) coded.choice coded.of_book picks all_digits

  pub held-code-choice : choice_of (problem_of book) picks ≡ coded.choice
  held-code-choice = code-choice (problem_of book) (held-valid book h) coded.choice coded.of_book picks all_digits
