-- Demand 3, with M-106, of every sheet that the planner gives, for any number of slots and loads.
-- Assumes nothing.
use mathlib.Core.Path.{◌≡◌, refl, sym, ap, ◌∙◌, subst}
use mathlib.Core.Bool.{Bool}
use mathlib.Core.Logic.{inl, ◌↔◌}
use mathlib.Core.List.{List, [], ◌∷◌, ◌++◌}
use mathlib.Core.Option.{Option, none, some}
use Prim.Native.Nat.{ℕ, zero, suc, ◌+◌, ◌*◌, ◌-◌, ◌^◌, ◌/◌, ◌<◌, ◌≤◌, max}
use native.Mathlib.Nat.{le_trans, le-max_left, mul-le-mul_left, mul-le-mul_right, div-mul-le_self, div-lt_iff_lt-mul, mul-zero, add-zero, zero-add, le_of_suc-le-suc}
use native.Mathlib.Decide.{dec_le}
use native.Mathlib.Omega.{arith}
use lib.Dec.{leb, leb→le, le→leb}
use lib.Dec as Dec
use lib.IntN.{ℤ, pos, nat_abs, ◌+ℤ◌}
use lib.ListN.{length, get_or, drop}
use Rattle.model.specs.Lists.{Mem, Every}
use Rattle.model.specs.Refusals.{Result, done}
use Rattle.model.specs.Book.{Setting, Settings, Problem, read_book}
use Rattle.model.specs.Choice.{Choice, IsChoice, no_setting, worth_of, sum_in, square, apparent_squared}
use Rattle.model.specs.Grid.{Slot, slot_at, slots_from, slots_of, keeps_limits, grid_in, spread_of, times, Admissible, admits, admitted, best_admitted, plan}
use Rattle.model.specs.Trials.{trials}
use Rattle.model.specs.Sheet.{sheet_bytes}
use Rattle.model.specs.Calls.{planned, planner_result}
use Rattle.model.specs.Demand.{Past12, apparent_squared_in, S, T, N, KeepsLimits, OnSheet, CloserOverload, Demand3}
use Rattle.model.specs.Valid.{SettingSmall, ValidBook}
use Rattle.model.specs.Answers.{Output, answer_of, buffer_after}
use Rattle.model.proofs.ListLaws.{every_mem, all-is}
use Rattle.model.proofs.UptoLaws.{suc_across}
use Rattle.model.proofs.ChoiceLaws.{choice_every, worth_most}
use Rattle.model.proofs.AdmissionLaws.{square_abs, abs_offset, of_admits, Rounded, rounded-choice}
use Rattle.model.proofs.PlanLaws.{kept-sound, plan-worth, chosen_length}
use Rattle.model.proofs.ValidLaws.{book-valid}
use Rattle.model.proofs.MustRunLaws.{book-runs}
use Rattle.model.proofs.SheetGivenLaws.{past-only, past_result}
use Rattle.model.proofs.NumberLaws.{numbers-small}
use Rattle.model.proofs.SheetLaws.{worth_on, numbers_on}
use Rattle.model.proofs.Squares.{sq_mono}
use Rattle.model.proofs.Overload as Overload

-- ---- slots by their number

-- the slot of a book with that number
abbrev pub slot_in : Problem → ℕ → Slot
slot_in b slot = slot_at (N b) b.fineness b.ratio slot (S b slot)

module _ (Q : Slot → Type 0) where
  each_from : (n d r i : ℕ) (ss : List ℕ) → Every Q (slots_from n d r i ss) → (k : ℕ) → k < length ss → Q (slot_at n d r (i + k) (get_or ss k 0))
  each_from n d r i [] h k l = absurd (omega arith)
  each_from n d r i (s ∷ ss) h zero l = subst (λ j. Q (slot_at n d r j s)) (sym (add-zero i)) h.0
  each_from n d r i (s ∷ ss) h (suc k) l =
      subst (λ j. Q (slot_at n d r j (get_or ss k 0))) (sym (suc_across i k)) (each_from n d r (suc i) ss h.1 k (le_of_suc-le-suc l))

  from_each : (n d r i : ℕ) (ss : List ℕ) → ((k : ℕ) → k < length ss → Q (slot_at n d r (i + k) (get_or ss k 0))) → Every Q (slots_from n d r i ss)
  from_each n d r i [] h = tt
  from_each n d r i (s ∷ ss) h = (
    subst (λ j. Q (slot_at n d r j s)) (add-zero i) (h 0 (omega arith)),
    from_each n d r (suc i) ss (λ k l. subst (λ j. Q (slot_at n d r j (get_or ss k 0))) (suc_across i k) (h (suc k) (omega arith))),
  )

  -- every slot of a book has a property exactly if the slot of each number has it
  pub slots-each : (b : Problem) → Every Q (slots_of b) ↔ ((slot : ℕ) → slot < T b → Q (slot_in b slot))
  unfolding slots_of
  slots-each b = (
    λ h slot l. subst (λ j. Q (slot_at (N b) b.fineness b.ratio j (S b slot))) (zero-add slot) (each_from (N b) b.fineness b.ratio 0 b.limits h slot l),
    λ h. from_each (N b) b.fineness b.ratio 0 b.limits
        (λ k l. subst (λ j. Q (slot_at (N b) b.fineness b.ratio j (S b k))) (sym (zero-add k)) (h k l)),
  )

-- the test of the limits is that every slot keeps its own
pub keeps-is : (b : Problem) (c : Choice) → Dec.T (keeps_limits (slots_of b) c) ↔ KeepsLimits b c
keeps-is b c = (
  λ t slot l. leb→le _ _ ((slots-each kept b).0 ((all-is test (slots_of b)).0 t) slot l),
  λ h. (all-is test (slots_of b)).1 ((slots-each kept b).1 (λ slot l. le→leb _ _ (h slot l))),
)
  where
    test : Slot → Bool
    test s = leb (apparent_squared (sum_in s.place c)) (square s.limit)

    kept : Slot → Type 0
    kept s = Dec.T (test s)

-- ---- one admitted slot

-- a power on the same grid point as another, each at most e above it
pub abs_near : (b : ℤ) (l e i j : ℕ) → i ≤ e → j ≤ e → nat_abs (times b l +ℤ pos i) ≤ nat_abs (times b l +ℤ pos j) + e
abs_near b l e i j hi hj = omega (arith, abs_offset b l i, abs_offset b l j)

-- the true sums P, |Q| lie at most e above a pair p, |q| that keeps the limit
record Near (P Q e S : ℕ) : Type 0 where
  pub p : ℕ
  pub q : ℕ
  pub p_near : P ≤ p + e
  pub q_near : Q ≤ q + e
  pub keeps : p * p + q * q ≤ S * S

near : (s : Slot) (c : Choice) → 0 < s.step → length c ≤ s.loads → Dec.T (admits s (grid_in s c))
    → Near (sum_in s.place c).p (nat_abs (sum_in s.place c).q) (spread_of s) s.limit
near s c h n t =
    let a : Admissible s (grid_in s c) = of_admits s (grid_in s c) t in
    let r : Rounded s.step (length c * (s.step - 1)) (sum_in s.place c) (grid_in s c) = rounded-choice s h c in
    let w : length c * (s.step - 1) ≤ spread_of s = mul-le-mul_right (s.step - 1) n in
    let z : ℤ = times (grid_in s c).q s.step +ℤ pos a.j in
    record {
      p = (grid_in s c).p * s.step + a.i;
      q = nat_abs z;
      p_near = omega (arith, r.p_is, le_trans r.i_fits w);
      q_near =
          subst (λ x. nat_abs x ≤ nat_abs z + spread_of s) (sym r.q_is)
          (abs_near (grid_in s c).q s.step (spread_of s) r.j a.j (le_trans r.j_fits w) a.j_fits);
      keeps = subst (λ m. square ((grid_in s c).p * s.step + a.i) + m ≤ square s.limit) (square_abs z) a.inside;
    }

-- d e ≤ S, and e is 0 where S < 2 N d
pub spread_small : (n d r i s : ℕ) → d * spread_of (slot_at n d r i s) ≤ s
spread_small n d r i s = go (dec_le (s / (n * d)) 1)
  where
    go : Dec (s / (n * d) ≤ 1) → d * (n * (max 1 (s / (n * d)) - 1)) ≤ s
    go (yes h) =
        let z : max 1 (s / (n * d)) - 1 ≡ 0 = omega arith in
        rw (z, mul-zero, mul-zero) (omega arith)
    go (no h) =
        let z : max 1 (s / (n * d)) - 1 ≤ s / (n * d) = omega arith in
        omega (arith, div-mul-le_self s (n * d), mul-le-mul_left (n * d) z)

spread_zero : (n d r i s : ℕ) → s < 2 * (n * d) → spread_of (slot_at n d r i s) ≡ 0
spread_zero n d r i s h =
    let l : s / (n * d) < 2 = (div-lt_iff_lt-mul {k = n * d} (omega arith)).1 h in
    let z : max 1 (s / (n * d)) - 1 ≡ 0 = omega arith in
    rw (z, mul-zero)

-- P² + Q², by the magnitude of Q
pub as_squares : (i : ℕ) (c : Choice) → apparent_squared_in i c ≡ (sum_in i c).p * (sum_in i c).p + nat_abs (sum_in i c).q * nat_abs (sum_in i c).q
as_squares i c = ap (λ m. square (sum_in i c).p + m) (square_abs (sum_in i c).q)

module _ (n d r i s : ℕ) (c : Choice) (few : length c ≤ n) (t : Dec.T (admits (slot_at n d r i s) (grid_in (slot_at n d r i s) c))) where
  here : Near (sum_in i c).p (nat_abs (sum_in i c).q) (spread_of (slot_at n d r i s)) s
  here = near (slot_at n d r i s) c (le-max_left 1 (s / (n * d))) few t

  slot_exact : s < 2 * (n * d) → apparent_squared_in i c ≤ square s
  slot_exact h =
      let z : spread_of (slot_at n d r i s) ≡ 0 = spread_zero n d r i s h in
      let x : (sum_in i c).p ≤ here.p = omega (arith, here.p_near) in
      let y : nat_abs (sum_in i c).q ≤ here.q = omega (arith, here.q_near) in
      subst (λ m. m ≤ square s) (sym (as_squares i c)) (omega (arith, sq_mono x, sq_mono y, here.keeps))

-- ---- the slots of a book

admitted_in : (b : Problem) (c : Choice) → Dec.T (admitted (slots_of b) c)
    → (slot : ℕ) → slot < T b → Dec.T (admits (slot_in b slot) (grid_in (slot_in b slot) c))
admitted_in b c t = (slots-each (λ s. Dec.T (admits s (grid_in s c))) b).0 ((all-is (λ s. admits s (grid_in s c)) (slots_of b)).0 t)

-- M-106 of an admitted choice
closer-kept : (b : Problem) (c : Choice) → length c ≤ N b → Dec.T (admitted (slots_of b) c) → CloserOverload b c
closer-kept b c few t slot l =
    let h : Near (sum_in slot c).p (nat_abs (sum_in slot c).q) (spread_of (slot_in b slot)) (S b slot)
    = here (N b) b.fineness b.ratio slot (S b slot) c few (admitted_in b c t slot (omega arith)) in
    omega (
      arith,
      Overload.closer (sum_in slot c).p (nat_abs (sum_in slot c).q) h.p h.q (spread_of (slot_in b slot)) h.p_near h.q_near
          b.fineness (S b slot) (spread_small (N b) b.fineness b.ratio slot (S b slot)) (apparent_squared_in slot c) (as_squares slot c) h.keeps,
    )

-- ---- the call

-- the worth stands whole on the sheet
worth-small : (b : Problem) (c : Choice) → ValidBook b → IsChoice b.loads c → worth_of c < 16 ^ 8
worth-small b c g m =
    let each-low : Every (λ v. v.worth ≤ 65535) c = choice_every (Every SettingSmall) (λ v. v.worth ≤ 65535) low b.loads c g.loads.small m in
    omega (arith, chosen_length b.loads c m, worth_most 65535 c each-low)
  where
    below : (v : Setting) → SettingSmall v → v.worth ≤ 65535
    below v s = omega (arith, s.worth)

    low : (vs : Settings) (v : Setting) → Every SettingSmall vs → Mem v vs → v.worth ≤ 65535
    low vs v h k = below v (every_mem SettingSmall v vs k h)

-- a choice of the book stands on its own sheet
pub stands_on : (b : Problem) (c : Choice) (t : ℕ) (past : List ℕ) → ValidBook b → IsChoice b.loads c → OnSheet b (sheet_bytes b c t ++ past) c
stands_on b c t past good m =
    record {
      of_book = m;
      numbers = λ k l.
          numbers_on b c t (sheet_bytes b c t ++ past) past refl (numbers-small b.loads c good.loads.labels m) no_setting k (omega (arith, chosen_length b.loads c m));
      worth = worth_on b c t (sheet_bytes b c t ++ past) past refl (worth-small b c good m);
    }

sheet_demand3 : (book : List ℕ) (b : Problem) (c : Choice) (t : ℕ) (past : List ℕ) → read_book book ≡ done b → plan b ≡ some c
    → Demand3 book (sheet_bytes b c t ++ past)
unfolding plan best_admitted
sheet_demand3 book b c t past e p =
    let sound : IsChoice b.loads c × Dec.T (admitted (slots_of b) c) = kept-sound (admitted (slots_of b)) b.loads c p in
    let len : length c ≡ length b.loads = chosen_length b.loads c sound.0 in
    let few : length c ≤ N b = omega arith in
    let closer : CloserOverload b c = closer-kept b c few sound.1 in
    record {
      b = b;
      reads = e;
      choice = c;
      on_sheet = stands_on b c t past (book-valid book b e) sound.0;
      runs = book-runs book b e c sound.0;
      worth = λ other m h. plan-worth b c p other m ((keeps-is b other).1 h);
      closer = closer;
      -- "The older bound then follows from this one", as 2d + 3 ≤ 2(d + 2); slot < T is asked anew, so that a claim of fewer slots is refused here
      overload = λ slot l. omega (arith, closer slot (omega arith));
      exact = λ slot l small. slot_exact (N b) b.fineness b.ratio slot (S b slot) c few (admitted_in b c sound.1 slot l) (omega arith);
    }

-- DEMAND 3 of the call: whenever the answer has number 0
pub demand3 : (book : List ℕ) (words : ℕ) (before : List ℕ) → (answer_of (planner_result book words (length before))).number ≡ 0
    → Demand3 book (buffer_after (planner_result book words (length before)) before)
demand3 book words before e =
    let x : (b : Problem) × Past12 book words (length before) b = past-only book words (length before) (inl e) in
    let b : Problem = x.0 in
    let r : planner_result book words (length before) ≡ planned b (plan b) = past_result book words (length before) b x.1 in
    subst (λ (y : Result Output). Demand3 book (buffer_after y before)) (sym r)
    (go b x.1.reads (plan b) refl (sym (ap (λ y. (answer_of y).number) r) ∙ e))
  where
    go : (b : Problem) → read_book book ≡ done b → (m : Option Choice) → plan b ≡ m
        → (answer_of (planned b m)).number ≡ 0
        → Demand3 book (buffer_after (planned b m) before)
    go b reads none q z = absurd (omega arith)
    go b reads (some c) q z = sheet_demand3 book b c (trials b) (drop (length (sheet_bytes b c (trials b))) before) reads q
