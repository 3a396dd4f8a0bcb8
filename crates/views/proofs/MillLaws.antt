-- The mill's line, load by load, and that it is the one of the definitions.
-- Assumes nothing.
use Prim.Native.Nat.{ℕ, zero, suc, ◌+◌, ◌-◌, ◌*◌, ◌≤◌, ◌<◌}
use mathlib.Core.Path.{◌≡◌, refl, sym, ap, ◌∙◌}
use mathlib.Core.Bool.{cond, not}
use mathlib.Core.List.{List, [], ◌++◌, map, map-map}
use native.Mathlib.Omega.{arith}
use lib.Dec.{eqb}
use lib.ListN.{length, get_or, set, length-append}
use borrow.Author.Tests.{eq-eqb, ne_eqb}
use Rattle.model.specs.Lists.{upto, upto_from, concat}
use Rattle.model.specs.Frames.{digits}
use Rattle.model.specs.Book.{Problem}
use Rattle.model.specs.Choice.{Choice, level_on, running_on, worth_of}
use Rattle.model.specs.Valid.{ValidBook}
use Rattle.model.specs.Values.{Picked, choice_of}
use Rattle.model.specs.Views.{running_loads, number_and_level, mill_line}
use Rattle.model.proofs.ListLaws.{concat-keep}
use Rattle.model.proofs.UptoLaws.{from_suc, pieces_last, map_same}
use Rattle.model.proofs.FrameLaws.{length_digits}
use Rattle.hexadecimal.specs.Written.{written}
use Rattle.hexadecimal.proofs.WrittenLaws.{write_on, write_line_three}
use Rattle.sheet.proofs.WriteLaws.{number_at, choice-length}
use Rattle.views.specs.MillLine.{load_bytes, loads_bytes, mill_bytes}

-- ---- one load

pub load_stands : (k level : ℕ) → level ≡ 0 → load_bytes k level ≡ []
unfolding load_bytes
load_stands k level e = ap (λ t. cond (not t) (number_and_level k level) []) (eq-eqb level 0 e)

load_runs : (k level : ℕ) → (level ≡ 0 → ⊥) → load_bytes k level ≡ digits 2 k ++ digits 2 level
unfolding load_bytes number_and_level
load_runs k level h = ap (λ t. cond (not t) (number_and_level k level) []) (ne_eqb level 0 h)

pub length_runs : (k level : ℕ) → (level ≡ 0 → ⊥) → length (load_bytes k level) ≡ 4
length_runs k level h = ap length (load_runs k level h) ∙ simp (length-append, length_digits)

load_most : (k level : ℕ) → length (load_bytes k level) ≤ 4
load_most k zero = omega (arith, ap length (load_stands k 0 refl))
load_most k (suc level) = omega (arith, length_runs k (suc level) (λ e. omega arith))

-- number and level, written one after the other
pub load_written : (l l₁ l₂ : List ℕ) (at k level n p : ℕ) → (level ≡ 0 → ⊥) → n ≡ k → p ≡ at + 2 → at + 4 ≤ length l
    → l₁ ≡ written l at (digits 2 n) → l₂ ≡ written l₁ p (digits 2 level) → l₂ ≡ written l at (load_bytes k level)
load_written l l₁ l₂ at k level n p h e q room a b =
    b
    ∙ write_on l l₁ at p (digits 2 n) (digits 2 level) a (rw length_digits q) (rw length_digits (omega arith))
    ∙ ap (λ m. written l at (digits 2 m ++ digits 2 level)) e
    ∙ ap (written l at) (sym (load_runs k level h))

-- ---- the loads

module _ (picks : List ℕ) where
  pub loads-none : loads_bytes picks 0 ≡ []
  unfolding loads_bytes
  loads-none = refl

  pub loads-more : (n : ℕ) → loads_bytes picks (n + 1) ≡ loads_bytes picks n ++ load_bytes (suc n) (get_or picks n 0)
  unfolding loads_bytes
  loads-more n = pieces_last (λ k. load_bytes (suc k) (get_or picks k 0)) n

  pub length_more : (n : ℕ) → length (loads_bytes picks (n + 1)) ≡ length (loads_bytes picks n) + length (load_bytes (suc n) (get_or picks n 0))
  length_more n = ap length (loads-more n) ∙ length-append (loads_bytes picks n) (load_bytes (suc n) (get_or picks n 0))

  pub loads_most : (n : ℕ) → length (loads_bytes picks n) ≤ 4 * n
  loads_most zero = omega (arith, ap length loads-none)
  loads_most (suc n) =
      let e : suc n ≡ n + 1 = omega arith in
      omega (arith, ap (λ m. length (loads_bytes picks m)) e, length_more n, load_most (suc n) (get_or picks n 0), loads_most n)

  pub loads-within : (k n : ℕ) → k ≤ n → length (loads_bytes picks k) ≤ length (loads_bytes picks n)
  loads-within k n h = let e : k + (n - k) ≡ n = omega arith in omega (arith, ap (λ m. length (loads_bytes picks m)) e, go (n - k))
    where
      go : (j : ℕ) → length (loads_bytes picks k) ≤ length (loads_bytes picks (k + j))
      go zero = let e : k ≡ k + 0 = omega arith in omega (arith, ap (λ m. length (loads_bytes picks m)) e)
      go (suc j) =
          let e : k + suc j ≡ k + j + 1 = omega arith in
          omega (arith, ap (λ m. length (loads_bytes picks m)) e, length_more (k + j), go j)

-- ---- the line

length-line : (worth : ℕ) (picks : List ℕ) (n : ℕ) → length (mill_bytes worth picks n) ≡ 11 + length (loads_bytes picks n)
unfolding mill_bytes
length-line worth picks n = simp (length-append, length_digits) (omega arith)

pub line-written : (l l₁ l₂ l₃ picks : List ℕ) (worth n end : ℕ) → l₁ ≡ written l 0 (digits 2 9) → l₂ ≡ written l₁ 2 (digits 8 worth)
    → l₃ ≡ written l₂ 10 (loads_bytes picks n) → end ≡ 10 + length (loads_bytes picks n) → 11 + length (loads_bytes picks n) ≤ length l
    → set l₃ end 10 ≡ written l 0 (mill_bytes worth picks n)
unfolding mill_bytes
line-written l l₁ l₂ l₃ picks worth n end a b c e room =
    write_line_three l l₁ l₂ l₃ 2 10 end (digits 2 9) (digits 8 worth) (loads_bytes picks n) a b c
    (rw length_digits (omega arith)) (rw length_digits (omega arith)) e (omega arith)

-- ---- the line of the definitions

module _ (b : Problem) (valid : ValidBook b) (picks : List ℕ) (picked : Picked b picks) where
  abbrev c : Choice
  c = choice_of b picks

  abbrev n : ℕ
  n = length b.loads

  -- a load that runs is listed, and one that stands is not
  abbrev listed : ℕ → List ℕ
  listed k = cond (running_on c k) (number_and_level k (level_on c k)) []

  listed_is : (k : ℕ) → k < n → listed (suc k) ≡ load_bytes (suc k) (get_or picks k 0)
  unfolding load_bytes
  listed_is k l = ap (λ level. cond (not (eqb level 0)) (number_and_level (suc k) level) []) (number_at b picks valid picked k l)

  loads_are : loads_bytes picks n ≡ concat (map (λ k. number_and_level k (level_on c k)) (running_loads c))
  unfolding loads_bytes running_loads
  loads_are =
      sym
      (concat-keep (running_on c) (λ k. number_and_level k (level_on c k)) (upto_from 1 (length c))
      ∙ ap (λ m. concat (map listed (upto_from 1 m))) (choice-length b picks valid picked)
      ∙ ap (λ ks. concat (map listed ks)) (from_suc 0 n)
      ∙ ap concat (map-map listed suc (upto n))
      ∙ ap concat (map_same (λ k. listed (suc k)) (λ k. load_bytes (suc k) (get_or picks k 0)) 0 n (λ k a l. listed_is k (omega arith))))

  pub line-is : (worth count : ℕ) → worth ≡ worth_of c → count ≡ n → mill_bytes worth picks count ≡ mill_line c
  unfolding mill_bytes mill_line
  line-is worth count e f = rw (e, f, loads_are)

  pub mill_long : (count : ℕ) → count ≡ n → length (mill_line c) ≡ 11 + length (loads_bytes picks count)
  mill_long count f = sym (ap length (line-is (worth_of c) count refl f)) ∙ length-line (worth_of c) picks count
