-- M-101 of the bytes: what is kept wherever a call gives an order.
-- Assumes nothing.
use mathlib.Core.Path.{◌≡◌, refl, sym, ap, ◌∙◌, subst}
use mathlib.Core.List.{List}
use Prim.Native.Nat.{ℕ, ◌≤◌}
use lib.ListN.{length, take}
use Rattle.model.specs.declared.Answer.{Answer}
use Rattle.model.specs.declared.OrderAnswer.{OrderAnswer}
use Rattle.model.specs.Bounds.{most_loads}
use Rattle.model.specs.Refusals.{Result, refused, done, first}
use Rattle.model.specs.Answers.{bytes_only}
use Rattle.model.specs.Book.{read_book}
use Rattle.model.specs.Choice.{running_on}
use Rattle.model.specs.SheetReader.{sheet_choice}
use Rattle.model.specs.Order.{start_order, order_rules, OrderData, order_data, loads_order, sheets_order, order_result, WritesOrder, Ordered, OrderKept}
use Rattle.model.proofs.RefusalLaws.{done-same, checked-done, then_done, first_passed, number-some}
use Rattle.model.proofs.AnswerLaws.{bytes_left}
use Rattle.model.proofs.ValidLaws.{book-valid}
use Rattle.model.proofs.MaskLaws.{starts-counted}
use Rattle.model.proofs.StartLaws.{order-kept}

module _ (book running planned names : List ℕ) (room : ℕ) {before after : List ℕ} {r : OrderAnswer} where
  -- where the result is this order
  kept-done : (x : OrderData) → order_result book running planned names room ≡ done x → WritesOrder (done x) before after r
      → OrderKept book running planned names after r
  unfolding order_result sheets_order loads_order
  kept-done x e w =
      let read = then_done (read_book book) (sheets_order running planned names room) x e in
      let b = read.0 in
      let n = length b.loads in
      let now = then_done (sheet_choice running b) _ x read.2 in
      let old = running_on now.0 in
      let next = then_done (sheet_choice planned b) _ x now.2 in
      let new = running_on next.0 in
      let passed = checked-done 0 (first (order_rules n old new names room)) (done (order_data n old new names)) x next.2 in
      let none = first_passed (order_rules n old new names room) passed.0 in
      let is : order_data n old new names ≡ x = done-same (order_data n old new names) x passed.1 in
      let written : start_order n old new names ≡ take r.answer.bytes after
      = ap (λ (y : OrderData). y.order) is ∙ sym (bytes_left (done (bytes_only x.order)) w.writes) in
      let few : n ≤ most_loads = (book-valid book b read.1).loads_few in
      record {
        b = b;
        reads = read.1;
        old_choice = now.0;
        runs_now = now.1;
        new_choice = next.0;
        runs_next = next.1;
        ordered = subst (Ordered n old new names) written (order-kept n old new names none.0 none.1.0 refl);
        starts = w.starts ∙ sym (ap (λ (y : OrderData). y.starts) is) ∙ starts-counted n old new few;
        stops = w.stops ∙ sym (ap (λ (y : OrderData). y.stops) is) ∙ starts-counted n new old few;
      }

  pub kept : WritesOrder (order_result book running planned names room) before after r → r.answer.number ≡ 0
      → OrderKept book running planned names after r
  kept w zero = go (order_result book running planned names room) refl w
    where
      go : (x : Result OrderData) → order_result book running planned names room ≡ x → WritesOrder x before after r → OrderKept book running planned names after r
      go (refused f line) e v = absurd (number-some f (sym (ap (λ (a : Answer). a.number) v.writes.answers) ∙ zero))
      go (done x) e v = kept-done x e v
