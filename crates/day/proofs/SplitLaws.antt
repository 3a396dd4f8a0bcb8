-- The books of a day by their places: where a book ends, and which books are left from a place on.
-- Assumes nothing.
use mathlib.Core.Path.{◌≡◌, refl, sym, ap, ap₂, ◌∙◌}
use mathlib.Core.Bool.{Bool, true, false, cond, ◌&&◌}
use mathlib.Core.List.{List, [], ◌∷◌, ◌++◌, append_assoc, append-nil}
use Prim.Native.Nat.{ℕ, zero, suc, ◌+◌, ◌-◌, ◌≤◌, ◌<◌}
use native.Mathlib.Nat.{le_of_suc-le-suc}
use native.Mathlib.Omega.{arith}
use lib.Dec.{eqb}
use lib.ListN.{length, get_or, take, drop, length-drop}
use lib.Seq.{drop-cons, drop-length}
use Rattle.model.specs.Day.{books_from, books_of}
use Rattle.day.specs.BookLength.{book_length}

-- ---- where a book ends

length-within : (starts : Bool) (bytes : List ℕ) → book_length starts bytes ≤ length bytes
unfolding book_length
length-within starts [] = omega arith
length-within starts (b ∷ bs) = go (starts && eqb b 10) (length-within (eqb b 10) bs)
  where
    go : (t : Bool) → book_length (eqb b 10) bs ≤ length bs → cond t zero (suc (book_length (eqb b 10) bs)) ≤ suc (length bs)
    go true h = omega arith
    go false h = omega arith

-- the end lies within the input
pub end-within : (from end : ℕ) (bytes : List ℕ) → from ≤ length bytes → end ≡ from + book_length true (drop from bytes) → (from ≤ end) × (end ≤ length bytes)
end-within from end bytes h e = (omega arith, omega (arith, length-within true (drop from bytes), length-drop from bytes))

-- the place that the search for the end has reached, `at`, and the end t: at an empty line it is the end, at any other byte the end comes later, and at
-- the end of the input it is the end
module _ (s : List ℕ) (starts : Bool) (at t : ℕ) (e : at + book_length starts (drop at s) ≡ t) where
  pub end_here : at < length s → (starts && eqb (get_or s at 0) 10) ≡ true → at ≡ t
  unfolding book_length
  end_here h q = let f : at + 0 ≡ t = rw (drop-cons s at 0 h, q) at e in omega (arith, f)

  pub end_later : at < length s → (starts && eqb (get_or s at 0) 10) ≡ false → at + 1 + book_length (eqb (get_or s at 0) 10) (drop (at + 1) s) ≡ t
  unfolding book_length
  end_later h q =
      let n : at + 1 ≡ suc at = omega arith in
      let f : at + suc (book_length (eqb (get_or s at 0) 10) (drop (suc at) s)) ≡ t = rw (drop-cons s at 0 h, q) at e in
      rw n (omega (arith, f))

  pub end_last : at ≡ length s → at ≡ t
  unfolding book_length
  end_last q =
      let d : drop at s ≡ [] = ap (λ n. drop n s) q ∙ drop-length s in
      let f : at + 0 ≡ t = rw d at e in
      omega (arith, f)

-- ---- the books from a place on

-- none past the end
abbrev pub books_left : ℕ → List ℕ → List (List ℕ)
books_left zero bytes = books_of bytes
books_left (suc from) [] = []
books_left (suc from) (b ∷ bs) = books_left from bs

pub left-none : (from : ℕ) (bytes : List ℕ) → length bytes < from → books_left from bytes ≡ []
left-none zero bytes h = absurd (omega arith)
left-none (suc from) [] h = refl
left-none (suc from) (b ∷ bs) h = left-none from bs (le_of_suc-le-suc h)

first-is : (book : List ℕ) (starts : Bool) (bytes : List ℕ)
    → books_from book starts bytes ≡ (book ++ take (book_length starts bytes) bytes) ∷ books_left (suc (book_length starts bytes)) bytes
unfolding books_from book_length
first-is book starts [] = ap (λ x. x ∷ []) (sym (append-nil book))
first-is book starts (b ∷ bs) = go (starts && eqb b 10) (first-is (book ++ (b ∷ [])) (eqb b 10) bs)
  where
    n : ℕ
    n = book_length (eqb b 10) bs

    go : (t : Bool) → books_from (book ++ (b ∷ [])) (eqb b 10) bs ≡ ((book ++ (b ∷ [])) ++ take n bs) ∷ books_left (suc n) bs
        → cond t (book ∷ books_of bs) (books_from (book ++ (b ∷ [])) (eqb b 10) bs)
        ≡ (book ++ take (cond t zero (suc n)) (b ∷ bs)) ∷ books_left (suc (cond t zero (suc n))) (b ∷ bs)
    go true e = ap (λ x. x ∷ books_of bs) (sym (append-nil book))
    go false e = e ∙ ap (λ x. x ∷ books_left (suc n) bs) (append_assoc book (b ∷ []) (take n bs))

-- the next book, up to its end, and those after it
pub left_next : (from end : ℕ) (bytes : List ℕ) → from ≤ length bytes → end ≡ from + book_length true (drop from bytes)
    → books_left from bytes ≡ take (end - from) (drop from bytes) ∷ books_left (end + 1) bytes
left_next zero end bytes h e =
    let n : book_length true bytes ≡ end - 0 = omega (arith, e) in
    let m : suc (book_length true bytes) ≡ end + 1 = omega (arith, e) in
    first-is [] true bytes ∙ ap₂ {C = List (List ℕ)} (λ i j. take i bytes ∷ books_left j bytes) n m
left_next (suc from) end [] h e = absurd (omega arith)
left_next (suc from) end (b ∷ bs) h e =
    let n : (from + book_length true (drop from bs)) - from ≡ end - suc from = omega (arith, e) in
    let m : suc (from + book_length true (drop from bs) + 1) ≡ end + 1 = omega (arith, e) in
    left_next from (from + book_length true (drop from bs)) bs (le_of_suc-le-suc h) refl
    ∙ ap₂ {C = List (List ℕ)} (λ i j. take i (drop from bs) ∷ books_left j (b ∷ bs)) n m
