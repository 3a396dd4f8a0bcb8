-- Two mills on one transformer (M-110): the load lines of two books one after the other are read as the loads of both, so that reading the pooled bytes gives
-- the pooled problem, and the pooled bytes are no longer than the longest book.
-- Assumes nothing.
use mathlib.Core.Path.{◌≡◌, refl, sym, ap, ap₂, ◌∙◌, subst}
use mathlib.Core.Bool.{false, ◌&&◌}
use mathlib.Core.List.{List, [], ◌∷◌, ◌++◌, append_assoc, append-nil}
use Prim.Native.Nat.{ℕ, zero, suc, ◌+◌, ◌*◌, ◌≤◌}
use native.Mathlib.Nat.{le_trans, mul-le-mul_right}
use native.Mathlib.Omega.{arith}
use lib.Dec.{ltb, eqb}
use lib.IntN.{nat_abs}
use lib.ListN.{length, length-append}
use borrow.Author.Tests.{le-ltb, ltb-false, eqb-true, not-false}
use Rattle.std.specs.Prelude.{Ok}
use Rattle.model.specs.Lists.{Every, any}
use Rattle.model.specs.Bounds.{most_loads, most_limit, most_book}
use Rattle.model.specs.Frames.{line_of, after_line}
use Rattle.model.specs.Refusals.{Result, refused, done, first, and_then}
use Rattle.model.specs.Book.{Power, Setting, Settings, Problem, slot_count, load_count, settings, reactive_exceeds, some_exceeds, load_rules, read_loads, read_book}
use Rattle.model.specs.Answers.{in_room}
use Rattle.model.specs.Valid.{ValidBook}
use Rattle.model.specs.Demand.{T, S, N}
use Rattle.model.specs.Pool.{later, Mills, with_second, matching, read_both, limit_sums, pair_rules, poolable, pooled, header_line, pooled_with, pooled_bytes, pool_result, ReadsBack, AlwaysRoom}
use Rattle.model.proofs.ListLaws.{both_true, every_imp, any_false, any_none}
use Rattle.model.proofs.UptoLaws.{length-upto}
use Rattle.model.proofs.FrameLaws.{line_before, after-before, has_before}
use Rattle.model.proofs.RefusalLaws.{refused-done, done-same, checked-done, then_done, NoneApplies, first_passed}
use Rattle.model.proofs.ValidLaws.{LoadsRead, loads_read, loads_back, loads-none, book_read, loads-count, slots-count, ratio-is, book-valid}
use Rattle.model.proofs.AnswerLaws.{room_fits}
use Rattle.model.proofs.LengthLaws.{longest_book}
use Rattle.model.proofs.HeaderLaws.{HeaderFits, header_back}

-- ---- load lines of a book under a larger ratio, and before others

module _ (r s : ℕ) (h : r ≤ s) where
  exceeds_less : (x : Power) → reactive_exceeds r x ≡ false → reactive_exceeds s x ≡ false
  exceeds_less x e = le-ltb (s * x.p) (nat_abs x.q) (le_trans (ltb-false (r * x.p) (nat_abs x.q) e) (mul-le-mul_right x.p h))

  setting_less : (v : Setting) → any (reactive_exceeds r) v.powers ≡ false → any (reactive_exceeds s) v.powers ≡ false
  setting_less v e =
      any_none (reactive_exceeds s) v.powers
      (every_imp (λ x. reactive_exceeds r x ≡ false) (λ x. reactive_exceeds s x ≡ false) exceeds_less v.powers (any_false (reactive_exceeds r) v.powers e))

  some_less : (vs : Settings) → some_exceeds r vs ≡ false → some_exceeds s vs ≡ false
  unfolding some_exceeds
  some_less vs e =
      any_none (λ v. any (reactive_exceeds s) v.powers) vs
      (every_imp (λ v. any (reactive_exceeds r) v.powers ≡ false) (λ v. any (reactive_exceeds s) v.powers ≡ false) setting_less vs
      (any_false (λ v. any (reactive_exceeds r) v.powers) vs e))

  rules_less : (t : ℕ) (line : List ℕ) → NoneApplies (load_rules t r line) → NoneApplies (load_rules t s line)
  unfolding load_rules
  rules_less t line a = (a.0, (a.1.0, (a.1.1.0, (a.1.1.1.0, (some_less (settings t line) a.1.1.1.1.0, tt)))))

  -- lines that are read, and after them others that are read as the lines that come then: on whichever line they begin
  loads-join : (t n n₂ : ℕ) (xs ys : List ℕ) (loads others : List Settings) (number : ℕ) → read_loads t r n number xs ≡ done loads
      → ((k : ℕ) → read_loads t s n₂ k ys ≡ done others) → (m : ℕ) → m ≡ n + n₂ → (k : ℕ) → read_loads t s m k (xs ++ ys) ≡ done (loads ++ others)
  loads-join t zero n₂ xs ys loads others number e rest m q k =
      let none : ([] ≡ xs) × ([] ≡ loads) = loads-none t r number xs loads e in
      let count : m ≡ n₂ = omega arith in
      subst (λ i. read_loads t s i k (xs ++ ys) ≡ done (loads ++ others)) (sym count)
      (subst (λ l. read_loads t s n₂ k (xs ++ ys) ≡ done (l ++ others)) none.1
      (subst (λ l. read_loads t s n₂ k (l ++ ys) ≡ done others) none.0 (rest k)))
  loads-join t (suc n) n₂ xs ys loads others number e rest zero q k = absurd (omega arith)
  loads-join t (suc n) n₂ xs ys loads others number e rest (suc m) q k =
      let a : LoadsRead t r n number xs loads = loads_read t r n number xs loads e in
      loads_back t s m k (xs ++ ys) (loads ++ others)
      (record {
        ends = has_before xs ys a.ends;
        rules = subst (λ l. NoneApplies (load_rules t s l)) (sym (line_before xs ys a.ends)) (rules_less t (line_of xs) a.rules);
        others = a.others ++ others;
        rest = ap (read_loads t s m (suc k)) (after-before xs ys a.ends)
            ∙ loads-join t n n₂ (after_line xs) ys a.others others (suc number) a.rest rest m (omega arith) (suc k);
        same = ap {B = List Settings} (λ l. settings t l ∷ (a.others ++ others)) (line_before xs ys a.ends) ∙ ap (λ ls. ls ++ others) a.same;
      })

-- the lines of a book alone, under a larger ratio
loads_alone : (t r s n number : ℕ) (xs : List ℕ) (loads : List Settings) → r ≤ s → read_loads t r n number xs ≡ done loads
    → (k : ℕ) → read_loads t s n k xs ≡ done loads
unfolding read_loads first
loads_alone t r s n number xs loads h e k =
    ap (read_loads t s n k) (sym (append-nil xs))
    ∙ loads-join r s h t n 0 xs [] loads [] number e (λ i. refl) n (omega arith) k
    ∙ ap (λ ls. done ls) (append-nil loads)

-- ---- two books that can be pooled

later-done : {A : Type 0} (n : ℕ) (x : Result A) (y : A) → later n x ≡ done y → x ≡ done y
later-done n (refused r line) y e = absurd (refused-done r (n + line) y e)
later-done n (done x) y e = e

-- how they came from their bytes
pub record PoolRead (one two : List ℕ) (m : Mills) : Type 0 where
  pub reads_one : read_book one ≡ done m.a
  pub reads_two : read_book two ≡ done m.b
  pub rules : NoneApplies (pair_rules m)

pub pool_read : (one two : List ℕ) (m : Mills) → poolable one two ≡ done m → PoolRead one two m
unfolding poolable read_both
pool_read one two m e =
    let x : (x : Mills) × (and_then (read_book one) (with_second two) ≡ done x) × (matching x ≡ done m) = then_done (and_then (read_book one) (with_second two)) matching m e in
    let c : (first (pair_rules x.0) ≡ Ok tt) × (Path (Result Mills) (done x.0) (done m)) = checked-done 0 (first (pair_rules x.0)) (done x.0) m x.2 in
    let a : (a : Problem) × (read_book one ≡ done a) × (with_second two a ≡ done x.0) = then_done (read_book one) (with_second two) x.0 x.1 in
    let b : (b : Problem) × (later (suc (N a.0)) (read_book two) ≡ done b) × (Path (Result Mills) (done (record { a = a.0; b = b })) (done x.0))
    = then_done (later (suc (N a.0)) (read_book two)) (λ b. done (record { a = a.0; b = b })) x.0 a.2 in
    built a.0 b.0 x.0 a.1 (later-done (suc (N a.0)) (read_book two) b.0 b.1) (done-same (record { a = a.0; b = b.0 }) x.0 b.2)
    (first_passed (pair_rules x.0) c.0) (done-same x.0 m c.1)
  where
    built : (a b : Problem) (x : Mills) → read_book one ≡ done a → read_book two ≡ done b → record { a = a; b = b } ≡ x → NoneApplies (pair_rules x) → x ≡ m
        → PoolRead one two m
    built a b x p q same none there =
        subst (PoolRead one two) (same ∙ there)
        (record { reads_one = p; reads_two = q; rules = subst (λ y. NoneApplies (pair_rules y)) (sym same) none })

-- T and N of the pooled book
pub pooled-slots : (m : Mills) → T (pooled m) ≡ T m.a
unfolding limit_sums
pooled-slots m = length-upto (λ slot. S m.a slot + S m.b slot) (T m.a)

pub pooled-loads : (m : Mills) → N (pooled m) ≡ N m.a + N m.b
pooled-loads m = length-append m.a.loads m.b.loads

module _ (one two : List ℕ) (m : Mills) (read : PoolRead one two m) where
  valid_one : ValidBook m.a
  valid_one = book-valid one m.a read.reads_one

  valid_two : ValidBook m.b
  valid_two = book-valid two m.b read.reads_two

  -- both have as many slots
  pub same-slots : T m.a ≡ T m.b
  unfolding pair_rules
  same-slots =
      eqb-true (T m.a) (T m.b)
      (both_true (eqb (T m.a) (T m.b)) (eqb m.a.fineness m.b.fineness)
      (not-false (eqb (T m.a) (T m.b) && eqb m.a.fineness m.b.fineness) read.rules.0)).0

  few-loads : N m.a + N m.b ≤ most_loads
  unfolding pair_rules
  few-loads = ltb-false most_loads (N m.a + N m.b) read.rules.1.0

  small-limits : Every (λ s. s ≤ most_limit) (limit_sums m)
  unfolding pair_rules
  small-limits =
      every_imp (λ s. ltb most_limit s ≡ false) (λ s. s ≤ most_limit) (λ s e. ltb-false most_limit s e) (limit_sums m)
      (any_false (ltb most_limit) (limit_sums m) read.rules.1.1.0)

  pooled-fits : HeaderFits (pooled m)
  pooled-fits =
      let a = valid_one in
      let b = valid_two in
      record {
        slots = (omega (arith, pooled-slots m, a.slots_some), omega (arith, pooled-slots m, a.slots_few));
        loads = (omega (arith, pooled-loads m, a.loads_some), omega (arith, pooled-loads m, few-loads));
        fineness = (a.fine_some, a.fine_few);
        ratio = (omega (arith, a.ratio_some), omega (arith, a.ratio_few, b.ratio_few));
        budget = omega (arith, a.budget_small, b.budget_small);
        limits = small-limits;
      }

  -- a book's lines, read in the pooled book
  lines_read : (book : List ℕ) (b : Problem) → read_book book ≡ done b → T b ≡ T (pooled m)
      → read_loads (T (pooled m)) b.ratio (N b) 2 (after_line book) ≡ done b.loads
  lines_read book b e t =
      ap₂ (λ i n. read_loads i b.ratio n 2 (after_line book)) (sym t ∙ slots-count book b e) (loads-count book b e)
      ∙ ap (λ r. read_loads (slot_count (line_of book)) r (load_count (line_of book)) 2 (after_line book)) (ratio-is book b e)
      ∙ (book_read book b e).loads

  both_read : read_loads (T (pooled m)) (pooled m).ratio (N (pooled m)) 2 (after_line one ++ after_line two) ≡ done (pooled m).loads
  both_read =
      let r₁ : m.a.ratio ≤ (pooled m).ratio = omega arith in
      let r₂ : m.b.ratio ≤ (pooled m).ratio = omega arith in
      loads-join m.a.ratio (pooled m).ratio r₁ (T (pooled m)) (N m.a) (N m.b) (after_line one) (after_line two) m.a.loads m.b.loads 2
      (lines_read one m.a read.reads_one (sym (pooled-slots m)))
      (loads_alone (T (pooled m)) m.b.ratio (pooled m).ratio (N m.b) 2 (after_line two) m.b.loads r₂
      (lines_read two m.b read.reads_two (sym same-slots ∙ sym (pooled-slots m))))
      (N (pooled m)) (pooled-loads m) 2

  bytes_read : read_book (pooled_bytes one two m) ≡ done (pooled m)
  unfolding pooled_with
  bytes_read =
      ap read_book (append_assoc (header_line (pooled m)) (after_line one) (after_line two))
      ∙ header_back (pooled m) pooled-fits (after_line one ++ after_line two) both_read

-- READING THE POOLED BYTES GIVES THE POOLED PROBLEM
pub reads_back : ReadsBack
reads_back one two m e = bytes_read one two m (pool_read one two m e)

-- A BUFFER FOR THE LONGEST BOOK has room for the pooled one
pub pooled-few : (one two : List ℕ) (m : Mills) → poolable one two ≡ done m → length (pooled_bytes one two m) ≤ most_book
pooled-few one two m e = longest_book (pooled_bytes one two m) (pooled m) (reads_back one two m e)

pub always_room : AlwaysRoom
unfolding pool_result
always_room one two m room e h =
    ap (λ x. and_then x (λ y. in_room (pooled_bytes one two y) room)) e ∙ room_fits (pooled_bytes one two m) room (le_trans (pooled-few one two m e) h)
