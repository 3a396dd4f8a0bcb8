-- A choice is known by its code: the numbers of its settings are the code's digits to the base 4, the first load's the lowest.
-- Assumes nothing.
use mathlib.Core.Path.{◌≡◌, refl, sym, ap, ap₂, subst, ◌∙◌}
use mathlib.Core.List.{List, [], ◌∷◌, map}
use mathlib.Core.Option.{some-injective}
use Prim.Native.Nat.{ℕ, zero, suc, ◌+◌, ◌*◌, ◌/◌, ◌%◌, ◌<◌}
use native.Mathlib.Nat.{le_of_suc-le-suc}
use native.Mathlib.Omega.{arith}
use lib.ListN.{length, get_or, take, get_or-map}
use lib.Seq.{get_or-take, take_all}
use Rattle.model.specs.Lists.{Mem, Every, upto}
use Rattle.model.specs.Book.{Setting, Settings, Problem}
use Rattle.model.specs.Choice.{Choice, IsChoice, code_of, setting_numbered, decode, no_setting, setting_of}
use Rattle.model.specs.Valid.{Labelled, ValidBook}
use Rattle.model.specs.Values.{Offers, Picked, pick_of, choice_of, choice_coded}
use Rattle.model.proofs.NumberLaws.{member_found, number_small, member_offered, member_of}
use Rattle.model.proofs.UptoLaws.{upto_is}
use Rattle.model.proofs.ValidLaws.{load_labelled}
use Rattle.model.proofs.PlanLaws.{chosen_length}

code_back : (loads : List Settings) (c : Choice) → Every Labelled loads → IsChoice loads c
    → decode (length loads) (code_of c) ≡ map (λ (v : Setting). v.number) c
code_back [] [] h m = refl
code_back [] (v ∷ c) h m = absurd m
code_back (vs ∷ loads) [] h m = absurd m
code_back (vs ∷ loads) (v ∷ c) h m =
    ap₂ {C = List ℕ} (λ x r. x ∷ r) (low v.number (code_of c) (number_small vs v h.0 m.0))
    (ap (decode (length loads)) (high v.number (code_of c) (number_small vs v h.0 m.0)) ∙ code_back loads c h.1 m.1)
  where
    low : (n k : ℕ) → n < 4 → (n + 4 * k) % 4 ≡ n
    low n k l = omega arith

    high : (n k : ℕ) → n < 4 → (n + 4 * k) / 4 ≡ k
    high n k l = omega arith

-- two choices with one code are one
pub code_same : (loads : List Settings) (c d : Choice) → Every Labelled loads → IsChoice loads c → IsChoice loads d → code_of c ≡ code_of d → c ≡ d
code_same [] [] [] h m n e = refl
code_same [] [] (v ∷ d) h m n e = absurd n
code_same [] (u ∷ c) d h m n e = absurd m
code_same (vs ∷ loads) [] d h m n e = absurd m
code_same (vs ∷ loads) (u ∷ c) [] h m n e = absurd n
code_same (vs ∷ loads) (u ∷ c) (v ∷ d) h m n e =
    ap₂ {C = List Setting} (λ x r. x ∷ r)
    (some-injective u v
    (sym (member_found vs h.0 u m.0)
    ∙ ap (λ k. setting_numbered k vs) (low u.number v.number (code_of c) (code_of d) (number_small vs u h.0 m.0) (number_small vs v h.0 n.0) e)
    ∙ member_found vs h.0 v n.0))
    (code_same loads c d h.1 m.1 n.1 (high u.number v.number (code_of c) (code_of d) (number_small vs u h.0 m.0) (number_small vs v h.0 n.0) e))
  where
    low : (a b x y : ℕ) → a < 4 → b < 4 → a + 4 * x ≡ b + 4 * y → a ≡ b
    low a b x y k l q = omega arith

    high : (a b x y : ℕ) → a < 4 → b < 4 → a + 4 * x ≡ b + 4 * y → x ≡ y
    high a b x y k l q = omega arith

-- ---- the choice that has a code

member : (loads : List Settings) (c : Choice) → IsChoice loads c → (k : ℕ) → k < length loads → Mem (get_or c k no_setting) (get_or loads k [])
member [] c m k l = absurd (omega arith)
member (vs ∷ loads) [] m k l = absurd m
member (vs ∷ loads) (v ∷ c) m zero l = m.0
member (vs ∷ loads) (v ∷ c) m (suc k) l = member loads c m.1 k (le_of_suc-le-suc l)

module _ (b : Problem) (valid : ValidBook b) (c : Choice) (chosen : IsChoice b.loads c) (picks : List ℕ)
    (digits : take (length b.loads) picks ≡ decode (length b.loads) (code_of c)) where
  number_is : (k : ℕ) → k < length b.loads → get_or picks k 0 ≡ (get_or c k no_setting).number
  number_is k l =
      sym (get_or-take (length b.loads) picks k 0 l)
      ∙ ap (λ xs. get_or xs k 0) (digits ∙ code_back b.loads c valid.loads.labels chosen)
      ∙ get_or-map (λ (v : Setting). v.number) c k no_setting

  of_number : (k : ℕ) → k < length b.loads → pick_of b picks k ≡ get_or c k no_setting
  of_number k l =
      ap (setting_of (get_or b.loads k [])) (number_is k l)
      ∙ member_of (get_or b.loads k []) (load_labelled valid k l) (get_or c k no_setting) (member b.loads c chosen k l)

  pub code-picked : Picked b picks
  code-picked k l = subst (Offers (get_or b.loads k [])) (sym (number_is k l)) (member_offered (get_or b.loads k []) (load_labelled valid k l) (get_or c k no_setting) (member b.loads c chosen k l))

  pub code-choice : choice_of b picks ≡ c
  unfolding choice_of
  code-choice =
      ap (λ n. map (pick_of b picks) (upto n)) (sym (chosen_length b.loads c chosen))
      ∙ upto_is (pick_of b picks) c no_setting (λ k l. of_number k (omega (arith, chosen_length b.loads c chosen)))

-- as many digits as loads
decode-length : (n code : ℕ) → length (decode n code) ≡ n
decode-length zero code = refl
decode-length (suc n) code = ap suc (decode-length n (code / 4))

-- a choice is the one that its code names
pub coded_choice : (b : Problem) → ValidBook b → (c : Choice) → IsChoice b.loads c → choice_coded b (code_of c) ≡ c
coded_choice b valid c chosen =
    code-choice b valid c chosen (decode (length b.loads) (code_of c))
    (take_all (length b.loads) (decode (length b.loads) (code_of c)) (omega (arith, decode-length (length b.loads) (code_of c))))
