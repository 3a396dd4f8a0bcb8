-- `loadline::power_of` meets its contract: standing, past the last option or slot, or an option in a slot.
use mathlib.Core.Path.{sym, ap, ◌∙◌}
use Prim.Native.Nat.{◌+◌, ◌-◌, ◌*◌}
use Rattle.model.specs.Book.{power_at, option_start}
use Rattle.loadline.specs.LoadLine.{power_value}
use Rattle.loadline.proofs.LineLaws.{option_ranges, line_holds, power_standing, power_past, power_no_slot, power_option, option_within}
use native.Mathlib.Omega.{arith}
use Rattle.loadline.proofs.power_of.Goals as goal

pub standing_power-requires-clause-pairs_in_bounds : goal.standing_power-requires-clause-pairs_in_bounds
standing_power-requires-clause-pairs_in_bounds c = line_holds c.args.slots c.args.pairs c.args.count c.args.line.now c.requires

pub returns-then-c-lt1 : goal.returns-then-c-lt1
returns-then-c-lt1 c =
    let a = c.args in
    c.standing_power.ensures ∙ ap power_value (sym (power_standing a.slots a.c a.s a.line.now c.if-c-lt1.true))

pub returns-then-count-c : goal.returns-then-count-c
returns-then-count-c c =
    c.none.ensures
    ∙ ap power_value (sym (power_past c.args.slots c.args.c c.args.s c.args.line.now (omega (arith, c.requires.stated, c.if-count-c.true))))

pub returns-then-slots-s : goal.returns-then-slots-s
returns-then-slots-s c =
    let h = c.requires in
    c.none-then-slots-s.ensures
    ∙ ap power_value (sym (power_no_slot c.args.slots c.args.c c.args.s c.args.line.now (omega arith) (omega arith) c.if-slots-s.true))

pub option_start-at-requires : goal.option_start-at-requires
option_start-at-requires c =
    option_ranges c.args.slots c.args.pairs (c.args.c - 1) c.args.count c.args.line.now c.requires (omega arith)

pub overflow_add-at : goal.overflow_add-at
overflow_add-at c =
    let at = option_within c.args.slots c.args.pairs (c.args.c - 1) c.args.count c.args.line.now c.requires (omega arith) in
    omega (arith, at)

pub overflow_add-at-2 : goal.overflow_add-at-2
overflow_add-at-2 c =
    let at = option_within c.args.slots c.args.pairs (c.args.c - 1) c.args.count c.args.line.now c.requires (omega arith) in
    omega (arith, at)

pub power_at-requires : goal.power_at-requires
power_at-requires c =
    let at = option_within c.args.slots c.args.pairs (c.args.c - 1) c.args.count c.args.line.now c.requires (omega arith) in
    omega (arith, at)

pub returns : goal.returns
returns c =
    let a = c.args in
    let h = c.requires in
    c.power_at.ensures
    ∙ ap (λ j. power_value (power_at a.line.now (j + 4 + 8 * a.s))) (c.option_start-at.ensures ∙ ap (λ n. option_start a.slots n (a.c - 1)) h.carried)
    ∙ ap power_value (sym (power_option a.slots a.c a.s a.line.now (omega arith) (omega arith) (omega arith)))
