-- Reading the load lines one after the other: what the lines that are left give decides what all give.
-- Assumes nothing.
use mathlib.Core.Path.{◌≡◌, refl, sym, ap, ap₂, ◌∙◌, subst}
use mathlib.Core.Bool.{true, not}
use mathlib.Core.Logic.{◌⊎◌, inl, inr}
use mathlib.Core.List.{List, [], ◌∷◌, ◌++◌, map, append_assoc, append-nil}
use Prim.Native.Nat.{ℕ, suc, ◌+◌, ◌-◌, ◌*◌, ◌<◌, ◌≤◌}
use native.Mathlib.Nat.{sub-zero}
use native.Mathlib.Omega.{arith}
use lib.ListN.{length, get_or, take, drop, set, replicate, length-append, length-drop, get_or-append, get_or-eq_default}
use lib.Seq.{drop-drop, get_or_at}
use borrow.Author.Tests.{lt-ltb, le-ltb}
use Rattle.std.specs.Prelude.{Ok, Err, Result as Outcome}
use Rattle.model.specs.declared.Book.{Book}
use Rattle.model.specs.declared.Refused.{Refused}
use Rattle.model.specs.declared.Load.{Load}
use Rattle.model.specs.declared.Refusal.{Refusal}
use Rattle.model.specs.declared.Refusal.TheVariants.{Unterminated, TrailingBytes}
use Rattle.model.specs.Lists.{upto}
use Rattle.model.specs.Bounds.{most_loads}
use Rattle.model.specs.Frames.{field, line_length, line_of, after_line}
use Rattle.model.specs.Refusals.{Finding, Result, refused, done, first, checked, and_then}
use Rattle.model.specs.Book.{Settings, header_rules, read_book, slot_count, load_count, fineness_in, ratio_digits, ratio_in, budget_in, limits_in, problem, settings, line_rule, load_rules, end_rules, read_loads}
use Rattle.model.specs.Values.{load_value, book_value, reading_of}
use Rattle.model.proofs.UptoLaws.{length-upto, set-upto}
use Rattle.model.proofs.IntegerLaws.{split}
use Rattle.model.proofs.RefusalLaws.{first_here, first_next}
use Rattle.hexadecimal.proofs.FieldLaws.{rest_is}
use Rattle.book.specs.Lines.{loads_value, loads_reading, rest_read}

-- ---- one line

module _ (t ratio m number : ℕ) (bytes : List ℕ) where
  abbrev rest : Result (List Settings)
  rest = and_then (read_loads t ratio m (suc number) (after_line bytes)) (λ loads. done (settings t (line_of bytes) ∷ loads))

  line_unterminated : length bytes ≤ line_length bytes → read_loads t ratio (suc m) number bytes ≡ refused Unterminated number
  unfolding read_loads
  line_unterminated h =
      ap (λ f. checked number f rest) (first_here Unterminated (load_rules t ratio (line_of bytes)) _ (ap not (le-ltb _ _ h)))

  line-found : line_length bytes < length bytes → first (line_rule bytes ∷ load_rules t ratio (line_of bytes)) ≡ first (load_rules t ratio (line_of bytes))
  line-found h = first_next Unterminated (load_rules t ratio (line_of bytes)) _ (ap not (lt-ltb _ _ h))

  line_refused : (r : Refusal) → line_length bytes < length bytes → first (load_rules t ratio (line_of bytes)) ≡ Err r → read_loads t ratio (suc m) number bytes ≡ refused r number
  unfolding read_loads
  line_refused r h e = ap (λ f. checked number f rest) (line-found h ∙ e)

  line_read : line_length bytes < length bytes → first (load_rules t ratio (line_of bytes)) ≡ Ok tt → read_loads t ratio (suc m) number bytes ≡ rest
  unfolding read_loads
  line_read h e = ap (λ f. checked number f rest) (line-found h ∙ e)

-- ---- the lines before, and those that are left

-- the settings of the loads before, and then those of the loads that are left
abbrev pub joined : List Settings → Result (List Settings) → Result (List Settings)
joined before x = and_then x (λ loads. done (before ++ loads))

joined-none : (x : Result (List Settings)) → joined [] x ≡ x
joined-none (refused r number) = refl
joined-none (done loads) = refl

joined-more : (before : List Settings) (vs : Settings) (x : Result (List Settings))
    → joined before (and_then x (λ loads. done (vs ∷ loads))) ≡ joined (before ++ (vs ∷ [])) x
joined-more before vs (refused r number) = refl
joined-more before vs (done loads) = ap {B = Result (List Settings)} done (sym (append_assoc before (vs ∷ []) loads))

-- one load more in the array
stored_more : (before : List Settings) (vs : Settings) (k : ℕ) (l : Load) → length before ≡ k → k < most_loads → l ≡ load_value vs
    → set (loads_value before) k l ≡ loads_value (before ++ (vs ∷ []))
stored_more before vs k l n h e =
    set-upto (λ j. load_value (get_or before j [])) (λ j. load_value (get_or (before ++ (vs ∷ [])) j [])) most_loads k l h
    (e ∙ ap load_value (sym (get_or_at before vs [] [] k n)))
    (λ j q. ap load_value (other j q (split j k)))
  where
    other : (j : ℕ) → (j ≡ k → ⊥) → (j < k) ⊎ (k ≤ j) → get_or before j [] ≡ get_or (before ++ (vs ∷ [])) j []
    other j q (inl b) = sym (get_or-append before (vs ∷ []) [] j (omega arith))
    other j q (inr b) =
        get_or-eq_default before [] {n = j} (omega arith)
        ∙ sym (get_or-eq_default (before ++ (vs ∷ [])) [] {n = j} (omega (arith, length-append before (vs ∷ []))))

-- k of `count` load lines are read, and their settings are in the array; what is left starts at a place
pub record Read (t ratio count : ℕ) (s : List ℕ) (at k : ℕ) (loads : List Load) : Type 0 where
  pub before : List Settings
  pub many : length before ≡ k
  pub stored : loads ≡ loads_value before
  pub whole : read_loads t ratio count 2 s ≡ joined before (read_loads t ratio (count - k) (k + 2) (drop at s))

pub read_none : (t ratio count : ℕ) (s : List ℕ) → Read t ratio count s 0 0 (replicate most_loads (load_value []))
read_none t ratio count s =
    record { before = []; many = refl; stored = refl; whole = sym (joined-none _ ∙ ap (λ n. read_loads t ratio n 2 s) (sub-zero count)) }

module _ (t ratio count : ℕ) (s : List ℕ) (at k : ℕ) (loads : List Load) (h : Read t ratio count s at k loads) where
  -- the next line
  next : k < count → read_loads t ratio count 2 s ≡ joined h.before (read_loads t ratio (suc (count - (k + 1))) (k + 2) (drop at s))
  next l =
      let e : count - k ≡ suc (count - (k + 1)) = omega arith in
      h.whole ∙ ap (λ m. joined h.before (read_loads t ratio m (k + 2) (drop at s))) e

  pub read_unterminated : k < count → length (drop at s) ≤ line_length (drop at s) → read_loads t ratio count 2 s ≡ refused Unterminated (k + 2)
  read_unterminated l b = next l ∙ ap (joined h.before) (line_unterminated t ratio (count - (k + 1)) (k + 2) (drop at s) b)

  pub read_refused : (r : Refusal) → k < count → line_length (drop at s) < length (drop at s) → first (load_rules t ratio (line_of (drop at s))) ≡ Err r
      → read_loads t ratio count 2 s ≡ refused r (k + 2)
  read_refused r l b e = next l ∙ ap (joined h.before) (line_refused t ratio (count - (k + 1)) (k + 2) (drop at s) r b e)

  pub read_more : (end : ℕ) (load : Load) → k < count → count ≤ most_loads → line_length (drop at s) < length (drop at s)
      → first (load_rules t ratio (line_of (drop at s))) ≡ Ok tt → load ≡ load_value (settings t (line_of (drop at s)))
      → drop end s ≡ after_line (drop at s) → Read t ratio count s end (k + 1) (set loads k load)
  read_more end load l few b e v a =
      record {
        before = h.before ++ (settings t (line_of (drop at s)) ∷ []);
        many = length-append h.before (settings t (line_of (drop at s)) ∷ []) ∙ ap (λ n. n + 1) h.many;
        stored = ap (λ x. set x k load) h.stored ∙ stored_more h.before (settings t (line_of (drop at s))) k load h.many (omega arith) v;
        whole =
            next l
            ∙ ap (joined h.before) (line_read t ratio (count - (k + 1)) (k + 2) (drop at s) b e)
            ∙ joined-more h.before (settings t (line_of (drop at s))) (read_loads t ratio (count - (k + 1)) (suc (k + 2)) (after_line (drop at s)))
            ∙ ap₂ (λ n x. joined (h.before ++ (settings t (line_of (drop at s)) ∷ [])) (read_loads t ratio (count - (k + 1)) n x)) (number k) (sym a);
      }
    where
      number : (k : ℕ) → suc (k + 2) ≡ k + 1 + 2
      number k = omega arith

  -- after the last line
  last : k ≡ count → read_loads t ratio count 2 s ≡ joined h.before (read_loads t ratio 0 (k + 2) (drop at s))
  last e =
      let z : count - k ≡ 0 = omega arith in
      h.whole ∙ ap (λ m. joined h.before (read_loads t ratio m (k + 2) (drop at s))) z

  some_left : (bytes : List ℕ) (x : Result (List Settings)) → 0 < length bytes → checked (k + 2) (first (end_rules bytes)) x ≡ refused TrailingBytes (k + 2)
  some_left [] x l = absurd (omega arith)
  some_left (b ∷ bytes) x l = ap (λ f. checked (k + 2) f x) (first_here TrailingBytes [] true refl)

  none_left : (bytes : List ℕ) (x : Result (List Settings)) → length bytes ≤ 0 → checked (k + 2) (first (end_rules bytes)) x ≡ x
  unfolding first
  none_left [] x l = refl
  none_left (b ∷ bytes) x l = absurd (omega arith)

  pub read_trailing : k ≡ count → 0 < length (drop at s) → read_loads t ratio count 2 s ≡ refused TrailingBytes (k + 2)
  unfolding read_loads
  read_trailing e l = last e ∙ ap (joined h.before) (some_left (drop at s) (done []) l)

  pub read_all : k ≡ count → length (drop at s) ≤ 0 → read_loads t ratio count 2 s ≡ done h.before
  unfolding read_loads
  read_all e l =
      last e ∙ ap (joined h.before) (none_left (drop at s) (done []) l) ∙ ap {B = Result (List Settings)} done (append-nil h.before)

-- ---- the line that starts at a place, as the code takes it

pub length-is : (s : List ℕ) (at n : ℕ) → at ≤ length s → n ≡ line_length (take (length s - at) (drop at s)) → n ≡ line_length (drop at s)
length-is s at n h e = e ∙ ap line_length (rest_is s at h)

pub line-is : (s : List ℕ) (at n : ℕ) → n ≡ line_length (drop at s) → take (at + n - at) (drop at s) ≡ line_of (drop at s)
line-is s at n e = let q : at + n - at ≡ line_length (drop at s) = omega arith in rw q

pub after_is : (s : List ℕ) (at n : ℕ) → n ≡ line_length (drop at s) → drop (at + n + 1) s ≡ after_line (drop at s)
after_is s at n e = let q : at + n + 1 ≡ at + suc (line_length (drop at s)) = omega arith in rw (q, drop-drop)

-- the line of n bytes that starts at a place, once it is known to end, and what its rules say
pub record LineAt (t ratio : ℕ) (s : List ℕ) (at n : ℕ) (f : Finding) : Type 0 where
  pub ends : line_length (drop at s) < length (drop at s)
  pub is : take (at + n - at) (drop at s) ≡ line_of (drop at s)
  pub says : f ≡ first (load_rules t ratio (line_of (drop at s)))
  pub after : drop (at + n + 1) s ≡ after_line (drop at s)

pub line_at : (t ratio : ℕ) (s : List ℕ) (at n : ℕ) (f : Finding) → at ≤ length s → n ≡ line_length (take (length s - at) (drop at s)) → n < length s - at
    → f ≡ first (load_rules t ratio (take (at + n - at) (drop at s))) → LineAt t ratio s at n f
line_at t ratio s at n f h e l q =
    let en : n ≡ line_length (drop at s) = length-is s at n h e in
    record {
      ends = rw length-drop (omega arith);
      is = line-is s at n en;
      says = q ∙ ap (λ x. first (load_rules t ratio x)) (line-is s at n en);
      after = after_is s at n en;
    }

-- ---- the book, from the load lines

IsRead : {A : Type 0} → Outcome A Refused → Type 0
IsRead (Ok x) = Unit {0}
IsRead (Err x) = ⊥

-- the header's numbers and limits, with the loads
abbrev pub book_with : List ℕ → List Load → Book
book_with line loads =
    record {
      slots = slot_count line;
      count = load_count line;
      fineness = fineness_in line;
      ratio = ratio_in line;
      budget = budget_in line;
      limits = map (λ s. get_or (limits_in line) s 0) (upto 4);
      loads = loads;
    }

pub book_done : (line : List ℕ) (read : Result (List Settings)) (loads : List Load)
    → ((x : List Settings) → read ≡ done x → length x ≡ load_count line) → Path (Outcome (List Load) Refused) (Ok loads) (loads_reading read)
    → Path (Outcome Book Refused) (Ok (book_with line loads)) (reading_of (and_then read (λ x. done (problem line x))))
unfolding book_value IsRead
book_done line read loads many = go read refl
  where
    same_loads : (x y : List Load) → Path (Outcome (List Load) Refused) (Ok x) (Ok y) → x ≡ y
    same_loads x y e = cc

    go : (x : Result (List Settings)) → read ≡ x → Path (Outcome (List Load) Refused) (Ok loads) (loads_reading x)
        → Path (Outcome Book Refused) (Ok (book_with line loads)) (reading_of (and_then x (λ y. done (problem line y))))
    go (refused r number) e h = absurd (subst IsRead h tt)
    go (done x) e h = λ i. Ok (record {
      slots = sym (length-upto (λ s. field line (16 + ratio_digits line + 4 * s) 4) (slot_count line)) i;
      count = sym (many x e) i;
      fineness = fineness_in line;
      ratio = ratio_in line;
      budget = budget_in line;
      limits = map (λ s. get_or (limits_in line) s 0) (upto 4);
      loads = same_loads loads (loads_value x) h i;
    })

pub book_failed : (line : List ℕ) (read : Result (List Settings)) (v : Refused) → Path (Outcome (List Load) Refused) (Err v) (loads_reading read)
    → Path (Outcome Book Refused) (Err v) (reading_of (and_then read (λ x. done (problem line x))))
unfolding IsRead
book_failed line (refused r number) v h = same_refusal v (record { refusal = r; line = number }) h
  where
    same_refusal : (x y : Refused) → Path (Outcome (List Load) Refused) (Err x) (Err y) → Path (Outcome Book Refused) (Err x) (Err y)
    same_refusal x y e = cc
book_failed line (done loads) v h = absurd (subst IsRead (sym h) tt)

-- ---- the whole book

module _ (s : List ℕ) where
  pub book_unterminated : length s ≤ line_length s → read_book s ≡ refused Unterminated 1
  unfolding read_book
  book_unterminated h = ap (λ f. checked 1 f (rest_read (line_of s) (after_line s))) (first_here Unterminated (header_rules (line_of s)) _ (ap not (le-ltb _ _ h)))

  header_found : line_length s < length s → first (line_rule s ∷ header_rules (line_of s)) ≡ first (header_rules (line_of s))
  header_found h = first_next Unterminated (header_rules (line_of s)) _ (ap not (lt-ltb _ _ h))

  pub header_refused : (r : Refusal) → line_length s < length s → first (header_rules (line_of s)) ≡ Err r → read_book s ≡ refused r 1
  unfolding read_book
  header_refused r h e = ap (λ f. checked 1 f (rest_read (line_of s) (after_line s))) (header_found h ∙ e)

  pub header_passed : line_length s < length s → first (header_rules (line_of s)) ≡ Ok tt → read_book s ≡ rest_read (line_of s) (after_line s)
  unfolding read_book
  header_passed h e = ap (λ f. checked 1 f (rest_read (line_of s) (after_line s))) (header_found h ∙ e)
