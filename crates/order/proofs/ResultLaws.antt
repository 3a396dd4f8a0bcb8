-- The result for loads whose numbers c stand in arrays: refusals 15, 16 and 11, or the order; and what is written of it.
-- Assumes nothing.
use Prim.Native.Nat.{ℕ, ◌<◌, ◌≤◌}
use mathlib.Core.Path.{◌≡◌, refl, sym, ap, ◌∙◌, subst}
use mathlib.Core.Bool.{Bool, true, false}
use mathlib.Core.List.{List, [], ◌∷◌}
use native.Mathlib.Omega.{arith}
use lib.Dec.{ltb}
use lib.ListN.{length}
use borrow.Author.Tests.{lt-ltb, le-ltb}
use Rattle.std.specs.Prelude.{Ok, Err}
use Rattle.model.specs.declared.Answer.{Answer}
use Rattle.model.specs.declared.OrderAnswer.{OrderAnswer}
use Rattle.model.specs.declared.Refusal.{Refusal}
use Rattle.model.specs.declared.Refusal.TheVariants.{BufferTooSmall, WrongNames, NamedLoadStands}
use Rattle.model.specs.Bounds.{most_loads}
use Rattle.model.specs.Refusals.{Finding, Result, refused, done, Rule, ◌⇒◌, first, checked}
use Rattle.model.specs.Answers.{bytes_only, success_answer, buffer_after, room_rule}
use Rattle.model.specs.Order.{Running, starting, start_count, wrong_names, some_blocked, start_order, order_rules, OrderData, order_data, loads_order, WritesOrder}
use Rattle.model.proofs.RefusalLaws.{first_here, first_next, first_last}
use Rattle.model.proofs.MaskLaws.{starts-counted}
use Rattle.model.proofs.StartLaws.{names_all, order-length}
use Rattle.starts.specs.Places.{running_in, NamesInside}
use Rattle.starts.proofs.PlaceLaws.{names_inside}
use Rattle.order.specs.Unrefused.{refused_order, Unrefused}

-- of equal results the same is written
pub order_same : {x y : Result OrderData} {before after : List ℕ} {a : OrderAnswer} → x ≡ y → WritesOrder x before after a → WritesOrder y before after a
order_same {before = before} {after = after} {a = a} e w = subst (λ z. WritesOrder z before after a) e w

-- a refusal leaves the buffer as it was
pub refused-order : (x : Result OrderData) (r : Refusal) (buffer : List ℕ) (a : OrderAnswer) → a ≡ refused_order r → refused r 0 ≡ x → WritesOrder x buffer buffer a
refused-order x r buffer a e q =
    order_same q
    (subst (WritesOrder (refused r 0) buffer buffer) (sym e) (record { writes = record { answers = refl; leaves = refl }; starts = refl; stops = refl }))

module _ (count : ℕ) (running planned names : List ℕ) (room : ℕ) (few : count ≤ most_loads) where
  abbrev old : Running
  old = running_in count running

  abbrev new : Running
  new = running_in count planned

  abbrev result : Result OrderData
  result = loads_order count names room old new

  order_at : (f : Finding) → first (order_rules count old new names room) ≡ f → checked 0 f (done (order_data count old new names)) ≡ result
  unfolding loads_order
  order_at f e = sym (ap (λ x. checked 0 x (done (order_data count old new names))) e)

  -- the rules after the first, and after the second
  abbrev after_names : List Rule
  after_names = (some_blocked count old new names ⇒ NamedLoadStands) ∷ room_rule (length (start_order count old new names)) room ∷ []

  abbrev after-blocked : List Rule
  after-blocked = room_rule (length (start_order count old new names)) room ∷ []

  pub names_refused : wrong_names count names ≡ true → refused WrongNames 0 ≡ result
  names_refused e = order_at (Err WrongNames) (first_here WrongNames after_names (wrong_names count names) e)

  module _ (right : wrong_names count names ≡ false) where
    all_named : length names ≡ count
    all_named = names_all count names right

    right_here : wrong_names (length names) names ≡ false
    right_here = ap (λ n. wrong_names n names) all_named ∙ right

    pub inside : NamesInside names
    inside = names_inside names (omega (arith, all_named)) right_here

    -- of as many loads as there are names
    pub blocked_here : some_blocked (length names) (running_in (length names) running) (running_in (length names) planned) names ≡ some_blocked count old new names
    blocked_here = ap (λ n. some_blocked n (running_in n running) (running_in n planned) names) all_named

    -- and so a test of them
    pub blocked_is : (t : Bool) → t ≡ some_blocked (length names) (running_in (length names) running) (running_in (length names) planned) names
        → some_blocked count old new names ≡ t
    blocked_is t e = sym blocked_here ∙ sym e

    pub blocked-refused : some_blocked count old new names ≡ true → refused NamedLoadStands 0 ≡ result
    blocked-refused e =
        order_at (Err NamedLoadStands)
        (first_next WrongNames after_names (wrong_names count names) right ∙ first_here NamedLoadStands after-blocked (some_blocked count old new names) e)

    module _ (free : some_blocked count old new names ≡ false) (starts : ℕ) (counted : starts ≡ start_count count old new) where
      long : length (start_order count old new names) ≡ starts
      long = order-length count old new names right free ∙ sym (starts-counted count old new few) ∙ sym counted

      last : (f : Finding) → first after-blocked ≡ f → checked 0 f (done (order_data count old new names)) ≡ result
      last f e =
          order_at f
          (first_next WrongNames after_names (wrong_names count names) right
          ∙ first_next NamedLoadStands after-blocked (some_blocked count old new names) free
          ∙ e)

      pub order-refused : room < starts → refused BufferTooSmall 0 ≡ result
      order-refused h = last (Err BufferTooSmall) (first_here BufferTooSmall [] (ltb room (length (start_order count old new names))) (lt-ltb room (length (start_order count old new names)) (omega (arith, long))))

      pub unrefused : starts ≤ room → Unrefused running planned names starts room
      unrefused h =
          record {
            few = omega (arith, all_named);
            right = right_here;
            free = blocked_here ∙ free;
            counted = subst (λ n. starts ≡ length (starting n (running_in n running) (running_in n planned))) (sym all_named) (counted ∙ starts-counted count old new few);
            fits = h;
          }

      -- the order in the buffer, and its answer
      pub order-written : starts ≤ room → (stops : ℕ) → stops ≡ start_count count new old → (a : Answer) → a ≡ success_answer starts 0 0
          → (before after : List ℕ)
          → after ≡ buffer_after (done (bytes_only (start_order (length names) (running_in (length names) running) (running_in (length names) planned) names))) before
          → WritesOrder result before after (record { answer = a; starts = starts; stops = stops })
      order-written h stops stopped a e before after left =
          order_same
          (last (Ok tt) (first_last BufferTooSmall (ltb room (length (start_order count old new names))) (le-ltb room (length (start_order count old new names)) (omega (arith, long)))))
          (record {
            writes = record {
              answers = e ∙ ap (λ n. success_answer n 0 0) (sym long);
              leaves = left ∙ ap (λ n. buffer_after (done (bytes_only (start_order n (running_in n running) (running_in n planned) names))) before) all_named;
            };
            starts = counted;
            stops = stopped;
          })

  -- past refusals 15 and 16
  pub record Passed : Type 0 where
    pub right : wrong_names count names ≡ false
    pub free : some_blocked count old new names ≡ false

  pub passed : (t u : Bool) → t ≡ wrong_names count names → t ≡ false → u ≡ some_blocked (length names) (running_in (length names) running) (running_in (length names) planned) names
      → u ≡ false → Passed
  passed t u e f g h = let right : wrong_names count names ≡ false = sym e ∙ f in record { right = right; free = blocked_is right u g ∙ h }
