-- Two books that values hold: the sums of their limits, refusals 21 to 23, and the header of the pooled book.
-- Assumes nothing.
use Prim.Native.Nat.{ℕ, ◌+◌, ◌*◌, ◌<◌, ◌≤◌, max}
use mathlib.Core.Path.{◌≡◌, sym, ap, ap₂, ◌∙◌}
use mathlib.Core.Bool.{Bool, true, false, not, ◌&&◌}
use mathlib.Core.List.{List, [], ◌∷◌, ◌++◌, map, append_assoc, append-nil}
use native.Mathlib.Omega.{arith}
use lib.Dec.{eqb}
use lib.ListN.{length, get_or, take, set, length-append}
use borrow.Author.Tests.{eq-eqb, ne_eqb}
use Rattle.model.specs.declared.Book.{Book}
use Rattle.model.specs.Lists.{upto, concat}
use Rattle.model.specs.Bounds.{most_slots}
use Rattle.model.specs.Frames.{digits}
use Rattle.model.specs.Demand.{T, S, N}
use Rattle.model.specs.Pool.{Mills, limit_sums, pooled, header_line, pooled_with}
use Rattle.model.specs.Sheet.{lf}
use Rattle.model.specs.Values.{Held, problem_of}
use Rattle.model.proofs.ListLaws.{first_out, second_out, none_out, length-concat}
use Rattle.model.proofs.UptoLaws.{take-upto, get_d_upto, map_same}
use Rattle.model.proofs.FrameLaws.{length_digits}
use Rattle.model.proofs.HeaderLaws.{length_header}
use Rattle.model.proofs.PoolLaws.{pooled-slots, pooled-loads}
use Rattle.model.proofs.HeldLaws.{held-count, held-slots, held_four, held-limit}
use Rattle.hexadecimal.specs.Written.{written}
use Rattle.hexadecimal.proofs.WrittenLaws.{write_on, write_line_three}
use Rattle.pool.specs.Mills.{mills_of}

module _ (a b : Book) (ha : Held a) (hb : Held b) where
  -- the sums of the limits, as an array has them
  abbrev sum_at : ℕ → ℕ
  sum_at s = get_or a.limits s 0 + get_or b.limits s 0

  sums-pooled : map sum_at (upto a.slots) ≡ limit_sums (mills_of a b)
  unfolding limit_sums
  sums-pooled =
      map_same sum_at (λ s. S (problem_of a) s + S (problem_of b) s) 0 a.slots
      (λ s p l. let few : s < 4 = omega (arith, l, held_four a ha) in ap₂ ◌+◌ (held-limit a ha s few) (held-limit b hb s few))
      ∙ ap (λ n. map (λ s. S (problem_of a) s + S (problem_of b) s) (upto n)) (held-slots a ha)

  pub sums_are : (sums : List ℕ) → sums ≡ map sum_at (upto most_slots) → map (λ s. get_or sums s 0) (upto a.slots) ≡ limit_sums (mills_of a b)
  sums_are sums e =
      map_same (λ s. get_or sums s 0) sum_at 0 a.slots
      (λ s p l. ap (λ x. get_or x s 0) e ∙ get_d_upto sum_at most_slots s 0 (omega (arith, l, held_four a ha)))
      ∙ sums-pooled

  slots-pooled : T (pooled (mills_of a b)) ≡ a.slots
  slots-pooled = pooled-slots (mills_of a b) ∙ sym (held-slots a ha)

  taken_are : (sums : List ℕ) → sums ≡ map sum_at (upto most_slots) → take a.slots sums ≡ limit_sums (mills_of a b)
  taken_are sums e = ap (take a.slots) e ∙ take-upto sum_at a.slots most_slots (held_four a ha) ∙ sums-pooled

  -- ---- refusals 21 and 22

  -- what 21 asks
  abbrev differ : Bool
  differ = not (eqb (T (problem_of a)) (T (problem_of b)) && eqb (problem_of a).fineness (problem_of b).fineness)

  pub slots_differ : (a.slots ≡ b.slots → ⊥) → differ ≡ true
  slots_differ n =
      first_out (eqb (T (problem_of a)) (T (problem_of b))) (eqb (problem_of a).fineness (problem_of b).fineness)
      (ap not (ne_eqb (T (problem_of a)) (T (problem_of b)) (λ e. n (held-slots a ha ∙ e ∙ sym (held-slots b hb)))))

  slots_same : a.slots ≡ b.slots → eqb (T (problem_of a)) (T (problem_of b)) ≡ true
  slots_same e = eq-eqb (T (problem_of a)) (T (problem_of b)) (sym (held-slots a ha) ∙ e ∙ held-slots b hb)

  pub fineness_differs : a.slots ≡ b.slots → (a.fineness ≡ b.fineness → ⊥) → differ ≡ true
  unfolding problem_of
  fineness_differs e n =
      second_out (eqb (T (problem_of a)) (T (problem_of b))) (eqb a.fineness b.fineness) (ap not (slots_same e)) (ap not (ne_eqb a.fineness b.fineness n))

  pub none_differs : a.slots ≡ b.slots → a.fineness ≡ b.fineness → differ ≡ false
  unfolding problem_of
  none_differs e f =
      none_out (eqb (T (problem_of a)) (T (problem_of b))) (eqb a.fineness b.fineness) (ap not (slots_same e)) (ap not (eq-eqb a.fineness b.fineness f))

  pub counts_are : a.count + b.count ≡ N (problem_of a) + N (problem_of b)
  counts_are = ap₂ ◌+◌ (held-count a ha) (held-count b hb)

  -- ---- the header

  -- five numbers in a row, the budget, the limits in a row, and the LF
  abbrev rows : ℕ → ℕ → ℕ → ℕ → ℕ → List ℕ → List ℕ
  rows slots count fineness ratio budget limits =
      concat (map (digits 2) (8 ∷ slots ∷ count ∷ fineness ∷ ratio ∷ [])) ++ digits 8 budget ++ concat (map (digits 4) limits) ++ lf

  rows_are : rows (T (pooled (mills_of a b))) (N (pooled (mills_of a b))) a.fineness (max a.ratio b.ratio) (max a.budget b.budget) (limit_sums (mills_of a b))
      ≡ header_line (pooled (mills_of a b))
  unfolding header_line problem_of
  rows_are = simp (append_assoc, append-nil)

  pub header_written : (l l₁ l₂ l₃ sums : List ℕ) (slots count ratio budget end : ℕ)
      → l₁ ≡ written l 0 (concat (map (digits 2) (8 ∷ slots ∷ count ∷ a.fineness ∷ ratio ∷ []))) → l₂ ≡ written l₁ 10 (digits 8 budget)
      → l₃ ≡ written l₂ 18 (concat (map (digits 4) (take a.slots sums))) → slots ≡ a.slots → count ≡ a.count + b.count → ratio ≡ max a.ratio b.ratio
      → budget ≡ max a.budget b.budget → sums ≡ map sum_at (upto most_slots) → end ≡ 18 + 4 * a.slots → 19 + 4 * a.slots ≤ length l
      → set l₃ end 10 ≡ written l 0 (header_line (pooled (mills_of a b)))
  header_written l l₁ l₂ l₃ sums slots count ratio budget end e₁ e₂ e₃ t n r g s q h =
      let m : Mills = mills_of a b in
      let limits : List ℕ = concat (map (digits 4) (take a.slots sums)) in
      let long : length limits ≡ 4 * a.slots
      = length-concat (digits 4) 4 (length_digits 4) (take a.slots sums) ∙ ap (λ x. 4 * length x) (taken_are sums s) ∙ ap (λ k. 4 * k) slots-pooled in
      write_line_three l l₁ l₂ l₃ 10 18 end (concat (map (digits 2) (8 ∷ slots ∷ count ∷ a.fineness ∷ ratio ∷ []))) (digits 8 budget) limits e₁ e₂ e₃
      (sym (length-concat (digits 2) 2 (length_digits 2) (8 ∷ slots ∷ count ∷ a.fineness ∷ ratio ∷ []))) (omega (arith, length_digits 8 budget)) (omega (arith, long))
      (omega arith)
      ∙ ap (written l 0)
      (ap₂ (λ x y. rows x y a.fineness ratio budget (take a.slots sums)) (t ∙ sym slots-pooled) (n ∙ counts_are ∙ sym (pooled-loads m))
      ∙ ap₂ (λ x y. rows (T (pooled m)) (N (pooled m)) a.fineness x y (take a.slots sums)) r g
      ∙ ap (rows (T (pooled m)) (N (pooled m)) a.fineness (max a.ratio b.ratio) (max a.budget b.budget)) (taken_are sums s)
      ∙ rows_are)

  -- ---- the pooled book

  pub length-pooled : (lines others : List ℕ) → length (pooled_with (mills_of a b) lines others) ≡ 19 + 4 * a.slots + length lines + length others
  unfolding pooled_with
  length-pooled lines others =
      let header : List ℕ = header_line (pooled (mills_of a b)) in
      length-append (header ++ lines) others
      ∙ (omega (arith, length-append header lines, length_header (pooled (mills_of a b)), slots-pooled))

  pub pooled-written : (l l₁ l₂ l₃ lines others : List ℕ) (p q : ℕ) → l₁ ≡ written l 0 (header_line (pooled (mills_of a b))) → l₂ ≡ written l₁ p lines
      → l₃ ≡ written l₂ q others → p ≡ 19 + 4 * a.slots → q ≡ p + length lines → q + length others ≤ length l
      → l₃ ≡ written l 0 (pooled_with (mills_of a b) lines others)
  unfolding pooled_with
  pooled-written l l₁ l₂ l₃ lines others p q e₁ e₂ e₃ f g h =
      let header : List ℕ = header_line (pooled (mills_of a b)) in
      let long : length header ≡ 19 + 4 * a.slots = length_header (pooled (mills_of a b)) ∙ (omega (arith, slots-pooled)) in
      let w : l₂ ≡ written l 0 (header ++ lines) = e₂ ∙ write_on l l₁ 0 p header lines e₁ (omega (arith, long)) (omega arith) in
      e₃ ∙ write_on l l₂ 0 q (header ++ lines) others w (omega (arith, long, length-append header lines)) h
