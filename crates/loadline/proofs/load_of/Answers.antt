-- `loadline::load_of` meets its contract. The invariant: the first k entries of both arrays are filled.
use Prim.Native.Nat.{◌+◌, ◌-◌}
use mathlib.Core.Path.{◌≡◌, sym, ap, ◌∙◌}
use mathlib.Core.List.{map}
use lib.ListN.{length, length-set}
use Rattle.model.specs.Lists.{upto}
use Rattle.model.specs.Book.{settings}
use Rattle.model.specs.Choice.{least_of}
use Rattle.model.specs.Values.{power_of, load_value}
use Rattle.model.proofs.UptoLaws.{fill_more, fill_all}
use Rattle.model.proofs.ValidLaws.{length-settings, least-settings}
use Rattle.loadline.specs.declared.PowerValue.{PowerValue}
use Rattle.loadline.proofs.LineLaws.{line_holds}
use borrow.Author.Rules.{rules}
use native.Mathlib.Omega.{arith}
use Rattle.loadline.proofs.load_of.Invariants.{active, reactive}
use Rattle.loadline.proofs.load_of.Goals as goal

pub standing_pairs-pairs-requires : goal.standing_pairs-pairs-requires
standing_pairs-pairs-requires c =
    omega (arith, line_holds c.args.slots _ c.args.count c.args.line.now c.requires)

pub loop-k-preserved : goal.loop-k-preserved
unfolding power_of
loop-k-preserved c =
    let a = c.args in
    let l = c.loop-k in
    let vs = settings a.slots a.line.now in (
      search rules,
      simp length-set l.invariant.1,
      simp length-set l.invariant.2,
      fill_more (active vs) l.actives l.k _ (omega arith) (ap (λ (x : PowerValue). x.active) c.power_of-power.ensures) l.invariant.3,
      fill_more (reactive vs) l.reactives l.k _ (omega arith) (ap (λ (x : PowerValue). x.reactive) c.power_of-power.ensures) l.invariant.4,
    )

pub least_number-least-requires : goal.least_number-least-requires
least_number-least-requires c =
    omega (arith, line_holds c.args.slots _ c.args.count c.args.line.now c.requires)

pub overflow_sub-settings : goal.overflow_sub-settings
overflow_sub-settings c =
    omega (arith, c.least_number-least.ensures, c.requires.stated, length-settings c.args.slots c.args.line.now)

pub returns : goal.returns
unfolding load_value
returns c =
    let a = c.args in
    let h = c.requires in
    let l = c.loop-k in
    let vs = settings a.slots a.line.now in
    let least-is : c.least_number-least.result ≡ least_of vs = c.least_number-least.ensures ∙ sym (least-settings a.slots a.line.now (omega (arith, h.some))) in
    let many : a.count + 1 - c.least_number-least.result ≡ length vs = omega (arith, c.least_number-least.ensures, length-settings a.slots a.line.now) in
    let actives_are : l.actives ≡ map (active vs) (upto 16) = fill_all (active vs) l.actives 16 l.k l.invariant.1 (omega arith) (omega arith) l.invariant.3 in
    let reactives-are : l.reactives ≡ map (reactive vs) (upto 16) = fill_all (reactive vs) l.reactives 16 l.k l.invariant.2 (omega arith) (omega arith) l.invariant.4 in
    λ i. record { settings = many i; worths = c.worths_of-worths.ensures i; actives = actives_are i; reactives = reactives-are i; least = least-is i }
