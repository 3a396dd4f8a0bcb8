-- `loadline::worth_of` meets its contract: standing, past the last option, or an option.
use mathlib.Core.Path.{sym, ◌∙◌}
use Prim.Native.Nat.{◌-◌}
use Rattle.loadline.proofs.LineLaws.{option_ranges, setting_option, setting_past, worth-standing, option_within}
use native.Mathlib.Omega.{arith}
use Rattle.loadline.proofs.worth_of.Goals as goal

pub returns-then-c-lt1 : goal.returns-then-c-lt1
returns-then-c-lt1 c =
    let a = c.args in
    sym (worth-standing a.slots a.c a.line.now c.if-c-lt1.true)

pub returns-then-count-c : goal.returns-then-count-c
returns-then-count-c c =
    let a = c.args in
    let h = c.requires in
    rw (setting_past a.slots a.c a.line.now (omega arith))

pub option_start-at-requires : goal.option_start-at-requires
option_start-at-requires c =
    option_ranges c.args.slots c.args.pairs (c.args.c - 1) c.args.count c.args.line.now c.requires (omega arith)

pub number-requires : goal.number-requires
number-requires c =
    let at = option_within c.args.slots c.args.pairs (c.args.c - 1) c.args.count c.args.line.now c.requires (omega arith) in
    omega (arith, at)

pub returns : goal.returns
returns c =
    let a = c.args in
    let h = c.requires in
    c.number.ensures ∙ rw (c.option_start-at.ensures, h.carried, setting_option a.slots a.c a.line.now (omega arith) (omega arith))
