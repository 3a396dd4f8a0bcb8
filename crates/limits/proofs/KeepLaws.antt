-- The limits, slot by slot: what is left of the slots decides, and the raised sums pass the test of the true sums.
-- Assumes nothing.
use mathlib.Core.Path.{◌≡◌, refl, sym, ap, ap₂, ◌∙◌}
use mathlib.Core.Bool.{Bool, true, false}
use Prim.Native.Nat.{ℕ, ◌+◌, ◌-◌, ◌*◌, ◌<◌}
use native.Mathlib.Numerals.{add-one}
use lib.Dec.{leb}
use lib.IntN.{nat_abs}
use lib.ListN.{length, get_or, drop}
use lib.Seq.{drop-cons, drop-length}
use Rattle.model.specs.declared.Book.{Book}
use Rattle.model.specs.Lists.{Every}
use Rattle.model.specs.Book.{Problem}
use Rattle.model.specs.Choice.{Choice, sum_in, square, apparent_squared}
use Rattle.model.specs.Grid.{slots_from, slots_of, keeps_limits}
use Rattle.model.specs.Valid.{SettingSmall}
use Rattle.model.specs.Values.{Held, problem_of, raised_by}
use Rattle.model.proofs.AdmissionLaws.{square_abs}
use Rattle.model.proofs.RaisedLaws.{raised_abs}
use Rattle.model.proofs.SumLaws.{sum-small}
use Rattle.model.proofs.HeldLaws.{held-count, held-limit}
use Rattle.sums.specs.declared.Sums.{Sums}
use Rattle.sums.specs.Sums.{sums_value}
use Rattle.sums.proofs.SumsLaws.{sums-active, sums-reactive}

-- the limits from slot s on are kept
abbrev pub keeps_from : Problem → ℕ → Choice → Bool
keeps_from b s c = keeps_limits (slots_from (length b.loads) b.fineness b.ratio s (drop s b.limits)) c

abbrev pub slot_kept : Problem → ℕ → Choice → Bool
slot_kept b s c = leb (apparent_squared (sum_in s c)) (square (get_or b.limits s 0))

pub keeps-all : (b : Problem) (c : Choice) → keeps_from b 0 c ≡ keeps_limits (slots_of b) c
unfolding slots_of
keeps-all b c = refl

module _ (b : Problem) (c : Choice) (s : ℕ) (t : Bool) where
  pub keeps_go : s < length b.limits → slot_kept b s c ≡ true → keeps_from b s c ≡ t → keeps_from b (s + 1) c ≡ t
  keeps_go h k e = rw add-one (rw (drop-cons b.limits s 0, k) at e)

  pub keeps_stop : s < length b.limits → slot_kept b s c ≡ false → keeps_from b s c ≡ t → false ≡ t
  keeps_stop h k e = rw (drop-cons b.limits s 0, k) at e

  pub keeps-end : s ≡ length b.limits → keeps_from b s c ≡ t → true ≡ t
  keeps-end h e = rw (h, drop-length) at e

-- the test on the sums' entries answers r
pub entry_kept : (book : Book) (h : Held book) (sums : Sums) (c : Choice) → sums ≡ sums_value c → Every SettingSmall c
    → length c ≡ length (problem_of book).loads → (s : ℕ) → s < 4 → (r : Bool)
    → r ≡ leb (square (get_or sums.actives s 0) + square ((get_or sums.reactives s 0 - 32768 * book.count) + (32768 * book.count - get_or sums.reactives s 0))) (square (get_or book.limits s 0))
    → slot_kept (problem_of book) s c ≡ r
entry_kept book h sums c is small sized s l r e =
    let q_is : get_or sums.reactives s 0 ≡ raised_by (length c) (sum_in s c).q = ap (λ (v : Sums). get_or v.reactives s 0) is ∙ sums-reactive c s l in
    let n_is : book.count ≡ length c = held-count book h ∙ sym sized in
    let p_is : get_or sums.actives s 0 ≡ (sum_in s c).p = ap (λ (v : Sums). get_or v.actives s 0) is ∙ sums-active c s l in
    let abs_is : (get_or sums.reactives s 0 - 32768 * book.count) + (32768 * book.count - get_or sums.reactives s 0) ≡ nat_abs (sum_in s c).q
    = ap₂ (λ q m. (q - 32768 * m) + (32768 * m - q)) q_is n_is ∙ raised_abs (length c) (sum_in s c).q (sum-small c small s).reactive in
    sym
    (e
    ∙ ap₂ (λ x y. leb (square x + y) (square (get_or book.limits s 0))) p_is (ap square abs_is ∙ sym (square_abs (sum_in s c).q))
    ∙ ap (λ x. leb (apparent_squared (sum_in s c)) (square x)) (held-limit book h s l))
