-- The loop that writes the order: after i turns the loads that i steps give have been started, and stand in the buffer.
-- Assumes nothing.
use Prim.Native.Nat.{ℕ, zero, suc, ◌+◌, ◌-◌, ◌<◌, ◌≤◌}
use mathlib.Core.Path.{◌≡◌, refl, sym, ap, ap₂, ◌∙◌, subst}
use mathlib.Core.Bool.{Bool, true, false, not, ◌&&◌, ◌||◌, false≢true}
use mathlib.Core.List.{List, [], ◌∷◌, ◌++◌}
use Rattle.std.specs.Prelude.{Option, None, Some, IsSome}
use native.Mathlib.Nat.{le_of_suc-le-suc}
use native.Mathlib.Numerals.{add-one}
use native.Mathlib.Omega.{arith}
use lib.Dec.{eqb}
use lib.ListN.{length, get_or, set, length-set}
use lib.Seq.{get_or-set_same, get_or-set_other}
use borrow.Author.Tests.{eqb-true, eqb-false, ne_eqb}
use Rattle.model.specs.Bounds.{most_loads}
use Rattle.model.specs.Lists.{any}
use Rattle.model.specs.Refusals.{done}
use Rattle.model.specs.Answers.{bytes_only, buffer_after}
use Rattle.model.specs.Order.{Running, starts, ready, started_after, start_order}
use Rattle.model.proofs.ListLaws.{both_true, or_false, or_true}
use Rattle.model.proofs.StartLaws.{is_left, listed_other, listed_last, Next, next_taken, Run, next_found, run_after}
use Rattle.hexadecimal.specs.Written.{written}
use Rattle.hexadecimal.proofs.WrittenLaws.{written_none, write_on, write_byte, written_start}
use Rattle.starts.specs.Places.{running_in, starts_at, served, may_start_at, Found}
use Rattle.starts.proofs.PlaceLaws.{runs_at, names_inside}
use Rattle.order.specs.Unrefused.{Unrefused}

module _ (running planned names : List ℕ) where
  abbrev n : ℕ
  n = length names

  abbrev old : Running
  old = running_in (length names) running

  abbrev new : Running
  new = running_in (length names) planned

  abbrev after : ℕ → List ℕ
  after = started_after n old new names

  -- after i turns: `on` holds the loads that run by now, and the buffer the order so far
  pub record Turned (i : ℕ) (order₀ order on : List ℕ) : Type 0 where
    pub held : length on ≡ most_loads
    pub tracks : (j : ℕ) → j < length names → not (eqb (get_or on j 0) 0) ≡ (old (suc j) || any (eqb (suc j)) (after i))
    pub wrote : order ≡ written order₀ 0 (after i)

  pub turned_none : (order : List ℕ) → length running ≡ most_loads → Turned 0 order order running
  unfolding started_after
  turned_none order e =
      record {
        held = e;
        tracks = λ j l. sym (runs_at n running j l) ∙ sym (or_false (old (suc j)));
        wrote = sym (written_none order 0);
      }

  module _ (count room : ℕ) (can : Unrefused running planned names count room) where
    module _ (i : ℕ) (order₀ order on : List ℕ) (t : Turned i order₀ order on) where
      abbrev started : List ℕ
      started = after i

      -- what the code asks at a place is what the definition asks of its load
      left_is : (k : ℕ) → k < length names → starts_at on planned k ≡ is_left old new started (suc k)
      left_is k l =
          parted (old (suc k)) (any (eqb (suc k)) started) (eqb (get_or on k 0) 0) (not (eqb (get_or planned k 0) 0)) (t.tracks k l)
          ∙ ap (λ u. (not (old (suc k)) && u) && not (any (eqb (suc k)) started)) (sym (runs_at n planned k l))
        where
          parted : (o a x p : Bool) → not x ≡ (o || a) → (x && p) ≡ ((not o && p) && not a)
          parted true a true p e = absurd (false≢true e)
          parted true a false p e = refl
          parted false true true p e = absurd (false≢true e)
          parted false true false true e = refl
          parted false true false false e = refl
          parted false false true true e = refl
          parted false false true false e = refl
          parted false false false p e = absurd (false≢true (sym e))

      ready-is : (k : ℕ) → k < length names → served on (get_or names k 0) ≡ ready old names started (suc k)
      unfolding ready
      ready-is k l = go (get_or names k 0) ((names_inside names can.few can.right).inside k l)
        where
          go : (m : ℕ) → m ≤ length names → served on m ≡ (eqb m 0 || old m || any (eqb m) started)
          go zero h = refl
          go (suc m) h =
              let back : suc m - 1 ≡ m = omega arith in
              ap₂ (λ s j. s || not (eqb (get_or on j 0) 0)) (ne_eqb (suc m) 0 (λ e. omega arith)) back
              ∙ t.tracks m h
              ∙ sym (ap (λ s. s || old (suc m) || any (eqb (suc m)) started) (ne_eqb (suc m) 0 (λ e. omega arith)))

      may-is : (k : ℕ) → k < length names → may_start_at on planned (get_or names k 0) k ≡ (is_left old new started (suc k) && ready old names started (suc k))
      may-is k l = ap₂ ◌&&◌ (left_is k l) (ready-is k l)

      -- the load that is found is the one that a step takes
      found_next : (k : ℕ) → Found on planned names (Some k) → Next n old new names started (suc k)
      found_next k f =
          let both = both_true (is_left old new started (suc k)) (ready old names started (suc k)) (sym (may-is k f.inside) ∙ f.may) in
          record { low = omega arith; high = omega (arith, f.inside); is_left_lem = both.0; may = both.1; lower = lower }
        where
          lower : (j : ℕ) → 1 ≤ j → j < suc k → is_left old new started j ≡ true → ready old names started j ≡ false
          lower zero a b w = absurd (omega arith)
          lower (suc j) a b w =
              sym (ap (λ u. u && ready old names started (suc j)) w) ∙ sym (may-is j (omega (arith, f.inside))) ∙ f.before j (le_of_suc-le-suc b)

      module _ (more : i < count) where
        run : Run n old new names i started
        run = run_after n old new names can.right can.free i (omega (arith, can.counted))

        -- and one is found
        pub found_some : (r : Option ℕ) → Found on planned names r → IsSome r
        found_some (Some k) f = refl
        found_some None f = go (next_found n old new names can.right can.free i started run (omega (arith, can.counted)))
          where
            go : (j : ℕ) × Next n old new names started j → IsSome {T = ℕ} None
            go (zero, next) = absurd (omega (arith, next.low))
            go (suc j, next) =
                let here : j < length names = omega (arith, next.high) in
                absurd (false≢true (sym (f j here) ∙ may-is j here ∙ ap₂ ◌&&◌ next.is_left_lem next.may))

        -- a turn more
        module _ (k : ℕ) (f : Found on planned names (Some k)) where
          inside : k < length names
          inside = f.inside

          next : Next n old new names started (suc k)
          next = found_next k f

          taken : after (suc i) ≡ started ++ suc k ∷ []
          unfolding started_after
          taken = next_taken n old new names started (suc k) next

          runs : not (eqb (get_or planned k 0) 0) ≡ true
          runs =
              let begun = (both_true (starts old new (suc k)) (not (any (eqb (suc k)) started)) next.is_left_lem).0 in
              sym (runs_at n planned k inside) ∙ (both_true (not (old (suc k))) (new (suc k)) begun).1

          tracked : (j : ℕ) → j < length names
              → not (eqb (get_or (set on k (get_or planned k 0)) j 0) 0) ≡ (old (suc j) || any (eqb (suc j)) (after (suc i)))
          tracked j l = go (eqb j k) refl
            where
              go : (u : Bool) → eqb j k ≡ u → not (eqb (get_or (set on k (get_or planned k 0)) j 0) 0) ≡ (old (suc j) || any (eqb (suc j)) (after (suc i)))
              go true e =
                  let here : j ≡ k = eqb-true j k e in
                  ap (λ m. not (eqb (get_or (set on k (get_or planned k 0)) m 0) 0)) here
                  ∙ ap (λ x. not (eqb x 0)) (get_or-set_same on k (get_or planned k 0) 0 (omega (arith, t.held, can.few)))
                  ∙ runs
                  ∙ sym (ap (λ u. old (suc j) || u) (ap (any (eqb (suc j))) taken ∙ ap (λ m. any (eqb (suc m)) (started ++ suc k ∷ [])) here ∙ listed_last started (suc k)) ∙ or_true (old (suc j)))
              go false e =
                  let apart = eqb-false j k e in
                  ap (λ x. not (eqb x 0)) (get_or-set_other on k j (get_or planned k 0) 0 apart)
                  ∙ t.tracks j l
                  ∙ sym (ap (λ u. old (suc j) || u) (ap (any (eqb (suc j))) taken ∙ listed_other started (suc j) (suc k) (λ q. apart (omega arith))))

          pub turned_more : i < length order → length order ≡ length order₀
              → Turned (i + 1) order₀ (set order i (k + 1)) (set on k (get_or planned k 0))
          turned_more fits same =
              subst (λ m. Turned m order₀ (set order i (k + 1)) (set on k (get_or planned k 0))) (sym (add-one i))
              (record {
                held = length-set on k (get_or planned k 0) ∙ t.held;
                tracks = tracked;
                wrote = write_byte order i (k + 1) fits
                    ∙ write_on order₀ order 0 i started ((k + 1) ∷ []) t.wrote (omega (arith, run.long)) (omega arith)
                    ∙ ap (written order₀ 0) (ap (λ m. started ++ m ∷ []) (add-one k) ∙ sym taken);
              })

    -- and the whole
    pub turned_all : (i : ℕ) (order₀ order on : List ℕ) → i ≡ count → Turned i order₀ order on
        → order ≡ buffer_after (done (bytes_only (start_order n old new names))) order₀
    unfolding start_order
    turned_all i order₀ order on e t =
        t.wrote ∙ ap (λ m. written order₀ 0 (after m)) (e ∙ can.counted) ∙ written_start order₀ (start_order n old new names)
