-- `loadline::some_exceeds` meets its contract. The invariants: no setting passed exceeds in any slot, and this one in no slot passed.
use Prim.Native.Nat.{◌+◌}
use mathlib.Core.Path.{◌≡◌, sym, ap, ◌∙◌}
use mathlib.Core.List.{map}
use Rattle.model.specs.Lists.{upto, any}
use Rattle.model.specs.Book.{option_count, reactive_exceeds}
use Rattle.model.proofs.UptoLaws.{any_here, any-more}
use Rattle.loadline.proofs.LineLaws.{exceeds_in, exceeds_is}
use borrow.Author.Rules.{rules}
use native.Mathlib.Omega.{arith}
use Rattle.loadline.proofs.some_exceeds.Invariants.{setting, power}
use Rattle.loadline.proofs.some_exceeds.Goals as goal

pub loop-s-preserved : goal.loop-s-preserved
loop-s-preserved c =
    let a = c.args in
    let l = c.loop-s in
    let k = c.settings.c in
    (search rules, l.invariant.1, any-more (power a.line.now a.slots k) (reactive_exceeds a.ratio) l.s l.invariant.2 (sym c.exceeds_at.ensures ∙ c.if-exceeds_at.false))

pub settings-preserved : goal.settings-preserved
settings-preserved c =
    let a = c.args in
    let o = c.settings in
    let e : c.loop-s.s ≡ a.slots = omega arith in (
      search rules,
      c.loop-s.invariant.1,
      any-more (setting a.line.now a.slots) (exceeds_in a.ratio a.slots) o.c o.invariant.2
          (ap (λ n. any (reactive_exceeds a.ratio) (map (power a.line.now a.slots o.c) (upto n))) (sym e) ∙ c.loop-s.invariant.2),
    )

pub returns-after-settings : goal.returns-after-settings
returns-after-settings c =
    let a = c.args in
    let h = c.requires.load_line in
    let e : c.settings.c ≡ option_count a.line.now + 1 = omega arith in
    c.settings.invariant.1
    ∙ sym c.settings.invariant.2
    ∙ ap (λ n. any (exceeds_in a.ratio a.slots) (map (setting a.line.now a.slots) (upto n))) e
    ∙ sym (exceeds_is a.ratio a.slots a.line.now)

pub returns-then-exceeds_at : goal.returns-then-exceeds_at
returns-then-exceeds_at c =
    let a = c.args in
    let h = c.requires.load_line in
    let k = c.settings.c in
    sym (exceeds_is a.ratio a.slots a.line.now
    ∙ any_here (setting a.line.now a.slots) (exceeds_in a.ratio a.slots) (option_count a.line.now + 1) k (omega arith)
    (any_here (power a.line.now a.slots k) (reactive_exceeds a.ratio) a.slots c.loop-s.s c.loop-s-test.true (sym c.exceeds_at.ensures ∙ c.if-exceeds_at.true)))
