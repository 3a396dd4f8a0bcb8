-- M-101: a step of the order finds a load while any is left, and what every order keeps.
-- Assumes nothing.
use mathlib.Core.Path.{◌≡◌, refl, sym, ap, ap₂, ◌∙◌, subst}
use mathlib.Core.Bool.{Bool, true, false, cond, not, ◌&&◌, ◌||◌, false≢true}
use mathlib.Core.Logic.{◌⊎◌, inl, inr}
use mathlib.Core.List.{List, [], ◌∷◌, ◌++◌}
use Prim.Native.Nat.{ℕ, zero, suc, ◌+◌, ◌<◌, ◌≤◌}
use native.Mathlib.Nat.{zero-add}
use native.Mathlib.Omega.{arith}
use lib.Dec.{T, eqb}
use lib.ListN.{length, get_or, take, drop, length-append, take-append-drop, get_or-append}
use lib.Seq.{take-append-le, take_at, get_or_at, take-take}
use borrow.Author.Tests.{eqb-true, eqb-false, eq-eqb, ne_eqb, not-true, not-false}
use Rattle.model.specs.Lists.{within, upto_from, Mem, keep_if, keep, any, is_empty}
use Rattle.model.specs.Order.{Running, starts, starting, named, bad_name, wrong_names, blocked, some_blocked, left, ready, startable, start_next, started_after, start_order, StepFinds, how_often, Waits, Ordered}
use Rattle.model.proofs.ListLaws.{both_true, either_false, or_false, or_true, within-is, keep-keep, keep_all, any-join, any_false, any_mem, mem_any, every_kept}
use Rattle.model.proofs.UptoLaws.{every_at_from}
use Rattle.model.proofs.IntegerLaws.{split}
use Rattle.model.proofs.KeepLaws.{keep-lowest, lowest_of, keep_some, keep_less, often_join, often_keep, often_upto, often_once}

-- ---- a load that is not ready waits for another

unready : (old : Running) (names started : List ℕ) (k : ℕ) → ready old names started k ≡ false → Waits old names started k
unfolding ready
unready old names started k e =
    let h = either_false (eqb (named names k) 0 || old (named names k)) (any (eqb (named names k)) started) e in
    let g = either_false (eqb (named names k) 0) (old (named names k)) h.0 in
    record {
      names_one = eqb-false (named names k) 0 g.0;
      stands = g.1;
      not_started = λ m. false≢true (sym h.1 ∙ mem_any (named names k) started m);
    }

-- ---- names that are not refused

module _ (n : ℕ) (names : List ℕ) (right : wrong_names n names ≡ false) where
  -- a load's name is that of a higher load
  pub name_higher : (k : ℕ) → 1 ≤ k → k < 1 + n → (named names k ≡ 0 → ⊥) → (k < named names k) × (named names k ≤ n)
  unfolding wrong_names
  name_higher k a b some =
      let each = any_false (bad_name n names) (upto_from 1 n) (either_false (not (eqb (length names) n)) (any (bad_name n names) (upto_from 1 n)) right).1 in
      let good : bad_name n names k ≡ false = every_at_from (λ j. bad_name n names j ≡ false) 1 n each k a b in
      within-is (suc k) n (named names k)
      (not-false (within (suc k) n (named names k)) (sym (ap (λ t. not t && not (within (suc k) n (named names k))) (ne_eqb (named names k) 0 some)) ∙ good))

  pub names_all : length names ≡ n
  unfolding wrong_names
  names_all =
      eqb-true (length names) n
      (not-false (eqb (length names) n) (either_false (not (eqb (length names) n)) (any (bad_name n names) (upto_from 1 n)) right).0)

-- load k starts, and has not been started
abbrev pub is_left : Running → Running → List ℕ → ℕ → Bool
is_left old new started k = starts old new k && not (any (eqb k) started)

module _ (n : ℕ) (old new : Running) (names : List ℕ) where
  -- ---- those left, and those of them that may start, by one test

  abbrev may_start : List ℕ → ℕ → Bool
  may_start started k = is_left old new started k && ready old names started k

  left-keeps : (started : List ℕ) → left n old new started ≡ keep (is_left old new started) (upto_from 1 n)
  unfolding left starting
  left-keeps started = keep-keep (λ k. not (any (eqb k) started)) (starts old new) (upto_from 1 n)

  startable-is : (started : List ℕ) → startable n old new names started ≡ keep (may_start started) (upto_from 1 n)
  startable-is started =
      ap (keep (ready old names started)) (left-keeps started) ∙ keep-keep (ready old names started) (is_left old new started) (upto_from 1 n)

  -- ---- a step finds a load

  module _ (right : wrong_names n names ≡ false) (free : some_blocked n old new names ≡ false) where
    -- a starting load's named load runs in the new sheet
    named-runs : (k : ℕ) → 1 ≤ k → k < 1 + n → starts old new k ≡ true → (named names k ≡ 0 → ⊥) → new (named names k) ≡ true
    unfolding some_blocked starting
    named-runs k a b s some =
        let each = every_kept (λ j. blocked new names j ≡ false) (starts old new) (upto_from 1 n)
        (any_false (blocked new names) (keep (starts old new) (upto_from 1 n)) free) in
        let unbarred : blocked new names k ≡ false
        = every_at_from (λ j. T (starts old new j) → blocked new names j ≡ false) 1 n each k a b (subst T (sym s) tt) in
        not-false (new (named names k)) (sym (ap (λ t. not t && not (new (named names k))) (ne_eqb (named names k) 0 some)) ∙ unbarred)

    -- from a load that is left, along the names, to one that may start; `more` bounds how many follow
    find : (more : ℕ) (started : List ℕ) (k : ℕ) → 1 ≤ k → k < 1 + n → n < k + more → is_left old new started k ≡ true
        → is_empty (keep (may_start started) (upto_from 1 n)) ≡ false
    find zero started k a b l w = absurd (omega arith)
    find (suc more) started k a b l w = go (ready old names started k) refl (find more started)
      where
        go : (t : Bool) → ready old names started k ≡ t
            → ((m : ℕ) → 1 ≤ m → m < 1 + n → n < m + more → is_left old new started m ≡ true → is_empty (keep (may_start started) (upto_from 1 n)) ≡ false)
            → is_empty (keep (may_start started) (upto_from 1 n)) ≡ false
        go true e rest = keep_some (may_start started) 1 n k a b (ap₂ ◌&&◌ w e)
        go false e rest =
            let m = named names k in
            let waits = unready old names started k e in
            let higher = name_higher n names right k a b waits.names_one in
            let begun = (both_true (starts old new k) (not (any (eqb k) started)) w).0 in
            rest m (omega (arith, higher.0)) (omega (arith, higher.1)) (omega (arith, higher.0))
            (ap₂ (λ x y. (not (old m) && x) && not y) (named-runs k a b begun waits.names_one) (unlisted m waits.not_started (any (eqb m) started) refl)
            ∙ ap (λ x. (not x && true) && true) waits.stands)
          where
            unlisted : (m : ℕ) → (Mem m started → ⊥) → (t : Bool) → any (eqb m) started ≡ t → any (eqb m) started ≡ false
            unlisted m h true q = absurd (h (any_mem m started q))
            unlisted m h false q = q

pub step_finds : StepFinds
step_finds n old new names started right free e =
    let some = lowest_of (is_left old new started) 1 n (ap is_empty (sym (left-keeps n old new names started)) ∙ e) in
    ap is_empty (startable-is n old new names started)
    ∙ find n old new names right free n started some.number some.low some.high (omega (arith, some.low)) some.passes

-- ---- what is left after a step

-- whether load j has been started, once load k is
pub listed_other : (xs : List ℕ) (j k : ℕ) → (j ≡ k → ⊥) → any (eqb j) (xs ++ k ∷ []) ≡ any (eqb j) xs
listed_other xs j k h =
    any-join (eqb j) xs (k ∷ []) ∙ ap (λ t. any (eqb j) xs || (t || false)) (ne_eqb j k h) ∙ or_false (any (eqb j) xs)

pub listed_last : (xs : List ℕ) (k : ℕ) → any (eqb k) (xs ++ k ∷ []) ≡ true
listed_last xs k =
    any-join (eqb k) xs (k ∷ []) ∙ ap (λ t. any (eqb k) xs || (t || false)) (eq-eqb k k refl) ∙ or_true (any (eqb k) xs)

filled : (xs : List ℕ) → 0 < length xs → is_empty xs ≡ false
filled [] h = absurd (omega arith)
filled (x ∷ xs) h = refl

module _ (n : ℕ) (old new : Running) (names : List ℕ) where
  -- load k is the one that a step takes
  pub record Next (started : List ℕ) (k : ℕ) : Type 0 where
    pub low : 1 ≤ k
    pub high : k < 1 + n
    pub is_left_lem : is_left old new started k ≡ true
    pub may : ready old names started k ≡ true
    pub lower : (j : ℕ) → 1 ≤ j → j < k → is_left old new started j ≡ true → ready old names started j ≡ false

  pub next_taken : (started : List ℕ) (k : ℕ) → Next started k → start_next n old new names started ≡ started ++ k ∷ []
  unfolding start_next
  next_taken started k h =
      ap (λ xs. started ++ take 1 xs) (startable-is n old new names started)
      ∙ ap (λ xs. started ++ xs)
      (keep-lowest (may_start n old new names started) 1 n k h.low h.high (ap₂ ◌&&◌ h.is_left_lem h.may)
      (λ j a b. off (is_left old new started j) (ready old names started j) (h.lower j a b)))
    where
      off : (t u : Bool) → (t ≡ true → u ≡ false) → (t && u) ≡ false
      off true u h = h refl
      off false u h = refl

  -- i loads have been started, each when its turn came
  pub record Run (i : ℕ) (xs : List ℕ) : Type 0 where
    pub long : length xs ≡ i
    pub places : (j : ℕ) → j < length xs → Next (take j xs) (get_or xs j 0)
    pub counted : (k : ℕ) → how_often k xs + how_often k (left n old new xs) ≡ how_often k (starting n old new)
    pub remain : length (left n old new xs) + length xs ≡ length (starting n old new)

  run_none : Run 0 []
  unfolding left
  run_none =
      record {
        long = refl;
        places = λ j l. absurd (omega arith);
        counted = λ k. zero-add (how_often k (left n old new [])) ∙ ap (how_often k) (keep_all (λ j. true) (starting n old new) (λ j. refl));
        remain = omega (arith, ap length (keep_all (λ j. true) (starting n old new) (λ j. refl)));
      }

  module _ (i : ℕ) (xs : List ℕ) (r : Run i xs) (k : ℕ) (next : Next xs k) where
    abbrev more : List ℕ
    more = xs ++ k ∷ []

    longer : length more ≡ length xs + 1
    longer = length-append xs (k ∷ [])

    begun : starts old new k ≡ true
    begun = (both_true (starts old new k) (not (any (eqb k) xs)) next.is_left_lem).0

    left_other : (j : ℕ) → (j ≡ k → ⊥) → is_left old new more j ≡ is_left old new xs j
    left_other j h = ap (λ t. starts old new j && not t) (listed_other xs j k h)

    left_last : is_left old new more k ≡ false
    left_last = ap₂ (λ s t. s && not t) begun (listed_last xs k)

    -- how often load j is left
    left_often : (ys : List ℕ) (j : ℕ) → how_often j (left n old new ys) ≡ cond (is_left old new ys j) (how_often j (upto_from 1 n)) 0
    left_often ys j = ap (how_often j) (left-keeps n old new names ys) ∙ often_keep j (is_left old new ys) (upto_from 1 n)

    counted-more : (j : ℕ) → how_often j more + how_often j (left n old new more) ≡ how_often j (starting n old new)
    counted-more j = go (eqb j k) refl
      where
        go : (t : Bool) → eqb j k ≡ t → how_often j more + how_often j (left n old new more) ≡ how_often j (starting n old new)
        go true e =
            let same : j ≡ k = eqb-true j k e in
            let once : how_often j (k ∷ []) ≡ 1 = ap (λ t. length (keep_if t k [])) e in
            let before : how_often j (left n old new xs) ≡ 1
            = left_often xs j ∙ ap₂ (λ t m. cond t m 0) (ap (is_left old new xs) same ∙ next.is_left_lem)
            (often_upto j 1 n (omega (arith, next.low)) (omega (arith, next.high))) in
            let after : how_often j (left n old new more) ≡ 0
            = left_often more j ∙ ap (λ t. cond t (how_often j (upto_from 1 n)) 0) (ap (is_left old new more) same ∙ left_last) in
            omega (arith, often_join j xs (k ∷ []), r.counted j)
        go false e =
            let none : how_often j (k ∷ []) ≡ 0 = ap (λ t. length (keep_if t k [])) e in
            let same : how_often j (left n old new more) ≡ how_often j (left n old new xs)
            = left_often more j ∙ ap (λ t. cond t (how_often j (upto_from 1 n)) 0) (left_other j (eqb-false j k e)) ∙ sym (left_often xs j) in
            omega (arith, often_join j xs (k ∷ []), r.counted j)

    remain_more : length (left n old new more) + length more ≡ length (starting n old new)
    remain_more =
        omega (
          arith,
          longer,
          r.remain,
          ap length (left-keeps n old new names xs),
          ap length (left-keeps n old new names more),
          keep_less (is_left old new xs) (is_left old new more) 1 n k next.low next.high next.is_left_lem left_last left_other,
        )

    places-more : (j : ℕ) → j < length more → Next (take j more) (get_or more j 0)
    places-more j l = go (split j (length xs))
      where
        go : (j < length xs) ⊎ (length xs ≤ j) → Next (take j more) (get_or more j 0)
        go (inl m) =
            subst (λ ys. Next ys (get_or more j 0)) (sym (take-append-le j xs (k ∷ []) (omega arith)))
            (subst (Next (take j xs)) (sym (get_or-append xs (k ∷ []) 0 j m)) (r.places j m))
        go (inr m) =
            let here : length xs ≡ j = omega (arith, longer) in
            subst (λ ys. Next ys (get_or more j 0)) (sym (take_at xs (k ∷ []) j here))
            (subst (Next xs) (sym (get_or_at xs k [] 0 j here)) next)

    pub run_more : Run (suc i) more
    run_more = record { long = omega (arith, longer, r.long); places = places-more; counted = counted-more; remain = remain_more }

  -- ---- where no refusal applies, every step takes a load

  module _ (right : wrong_names n names ≡ false) (free : some_blocked n old new names ≡ false) where
    pub next_found : (i : ℕ) (xs : List ℕ) → Run i xs → i < length (starting n old new) → (k : ℕ) × Next xs k
    next_found i xs r l =
        let some = filled (left n old new xs) (omega (arith, r.remain, r.long)) in
        let low = lowest_of (may_start n old new names xs) 1 n
        (ap is_empty (sym (startable-is n old new names xs)) ∙ step_finds n old new names xs right free some) in
        let both = both_true (is_left old new xs low.number) (ready old names xs low.number) low.passes in (
          low.number,
          record {
            low = low.low;
            high = low.high;
            is_left_lem = both.0;
            may = both.1;
            lower = λ j a b w. sym (ap (λ t. t && ready old names xs j) w) ∙ low.lower j a b;
          },
        )

    pub run_after : (i : ℕ) → i ≤ length (starting n old new) → Run i (started_after n old new names i)
    unfolding started_after
    run_after zero l = run_none
    run_after (suc i) l =
        let r = run_after i (omega arith) in
        let found = next_found i (started_after n old new names i) r l in
        subst (Run (suc i)) (sym (next_taken (started_after n old new names i) found.0 found.1))
        (run_more i (started_after n old new names i) r found.0 found.1)

    -- ---- and what the order keeps

    abbrev order : List ℕ
    order = start_order n old new names

    order_run : Run (length (starting n old new)) order
    unfolding start_order
    order_run = run_after (length (starting n old new)) (omega arith)

    pub order-length : length order ≡ length (starting n old new)
    order-length = order_run.long

    rearranges : (k : ℕ) → how_often k order ≡ how_often k (starting n old new)
    rearranges k =
        let none : left n old new order ≡ [] = emptied (left n old new order) (omega (arith, order_run.remain, order_run.long)) in
        omega (arith, order_run.counted k, ap (how_often k) none)
      where
        emptied : (xs : List ℕ) → length xs ≡ 0 → xs ≡ []
        emptied [] e = refl
        emptied (x ∷ xs) e = absurd (omega arith)

    starting-once : (k : ℕ) → how_often k (starting n old new) ≤ 1
    unfolding starting
    starting-once k = go (starts old new k) (often_keep k (starts old new) (upto_from 1 n))
      where
        go : (t : Bool) → how_often k (keep (starts old new) (upto_from 1 n)) ≡ cond t (how_often k (upto_from 1 n)) 0
            → how_often k (keep (starts old new) (upto_from 1 n)) ≤ 1
        go true e = omega (arith, often_once k 1 n)
        go false e = omega arith

    comes_behind : new 0 ≡ false → (i : ℕ) → i < length order → starts old new (named names (get_or order i 0)) ≡ true
        → Mem (named names (get_or order i 0)) (take i order)
    unfolding ready
    comes_behind none i l s = go (named names (get_or order i 0)) (both_true _ _ s) (order_run.places i l).may
      where
        go : (m : ℕ) → (not (old m) ≡ true) × (new m ≡ true) → (eqb m 0 || old m || any (eqb m) (take i order)) ≡ true → Mem m (take i order)
        go zero h e = absurd (false≢true (sym none ∙ h.1))
        go (suc m) h e =
            any_mem (suc m) (take i order)
            (sym (ap (λ t. t || any (eqb (suc m)) (take i order)) (ap₂ ◌||◌ (ne_eqb (suc m) 0 (λ q. omega arith)) (not-true (old (suc m)) h.0))) ∙ e)

    takes_lowest : (i j : ℕ) → i < j → j < length order → get_or order j 0 < get_or order i 0 → Waits old names (take i order) (get_or order j 0)
    takes_lowest i j l m h =
        let k = get_or order j 0 in
        let later = order_run.places j m in
        let both = both_true (starts old new k) (not (any (eqb k) (take j order))) later.is_left_lem in
        unready old names (take i order) k
        ((order_run.places i (omega arith)).lower k later.low h
        (ap₂ (λ s t. s && not t) both.0 (unlisted k (not-true _ both.1))))
      where
        -- not among the first j, so not among the first i
        unlisted : (k : ℕ) → any (eqb k) (take j order) ≡ false → any (eqb k) (take i order) ≡ false
        unlisted k e =
            (either_false (any (eqb k) (take i order)) (any (eqb k) (drop i (take j order)))
            (sym (any-join (eqb k) (take i order) (drop i (take j order)))
            ∙ ap (any (eqb k)) (ap (λ xs. xs ++ drop i (take j order)) (sym (take-take i j order (omega arith))) ∙ take-append-drop i (take j order))
            ∙ e)).0

    -- where there is no load 0
    pub order-kept : new 0 ≡ false → Ordered n old new names order
    order-kept none =
        record {
          rearranged = rearranges;
          once = λ k. omega (arith, rearranges k, starting-once k);
          behind = comes_behind none;
          lowest = takes_lowest;
        }
