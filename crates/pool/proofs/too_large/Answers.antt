-- `pool::too_large` meets its contract: what `any` finds in the first sums is what the definition finds.
use Prim.Native.Nat.{ℕ, ◌≤◌}
use mathlib.Core.Path.{◌≡◌, refl, sym, ap, ◌∙◌}
use mathlib.Core.Bool.{Bool, ◌||◌}
use mathlib.Core.List.{List, [], ◌∷◌, map}
use native.Mathlib.Omega.{arith}
use lib.Dec.{ltb}
use lib.ListN.{length, get_or, take}
use lib.Seq.{length-take-le}
use borrow.Author.Rules.{rules}
use Rattle.std.proofs.Common.{tests}
use Rattle.std.proofs.lemmas.List.{get_or-take}
use Rattle.std.specs.List.{list_any}
use Rattle.std.proofs.lemmas.Iterator.{YieldsList-from_slice}
use Rattle.std.proofs.lemmas.Iterator.Search.{any_from_yields_List}
use Rattle.model.specs.Lists.{upto, any}
use Rattle.model.specs.Bounds.{most_limit}
use Rattle.model.proofs.UptoLaws.{upto_is}
use Rattle.pool.proofs.too_large.Goals as goal

any_is : (p : ℕ → Bool) (xs : List ℕ) → list_any p xs ≡ any p xs
any_is p [] = refl
any_is p (x ∷ xs) = ap (λ t. p x || t) (any_is p xs)

first_are : (sums : List ℕ) (slots : ℕ) → slots ≤ length sums → take slots sums ≡ map (λ s. get_or sums s 0) (upto slots)
first_are sums slots few =
    let long : length (take slots sums) ≡ slots = length-take-le slots sums few in
    sym (upto_is (λ s. get_or sums s 0) (take slots sums) 0 (λ i l. sym (get_or-take slots sums i 0 (omega arith))))
    ∙ ap (λ n. map (λ s. get_or sums s 0) (upto n)) long

pub returns : goal.returns
returns c =
    let a = c.args in
    let few : a.slots ≤ length a.sums = search rules in
    any_from_yields_List (ltb most_limit) _ _ _ c.any.ensures.ran (YieldsList-from_slice (take a.slots a.sums) cc) (λ x b q k. search (rules, tests))
    ∙ any_is (ltb most_limit) (take a.slots a.sums)
    ∙ ap (any (ltb most_limit)) (first_are a.sums a.slots few)
