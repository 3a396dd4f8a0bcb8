-- `limits::keeps` meets its contract. The invariant: the slots that are left decide.
use mathlib.Core.Path.{◌∙◌}
use Rattle.model.specs.Values.{problem_of}
use Rattle.model.proofs.HeldLaws.{held-slots, held-few, held_four, held-limit-small}
use borrow.Author.Rules.{rules}
use native.Mathlib.Omega.{arith}
use Rattle.limits.proofs.KeepLaws.{keeps-all, keeps_go, keeps_stop, keeps-end, entry_kept}
use Rattle.limits.proofs.keeps.Goals as goal

pub overflow_mul-zero : goal.overflow_mul-zero
overflow_mul-zero c = omega (arith, held-few c.args.book c.requires.held)

pub loop-s-init : goal.loop-s-init
loop-s-init c = (held_four c.args.book c.requires.held, λ choice is small sized. keeps-all (problem_of c.args.book) choice)

pub fits-requires : goal.fits-requires
fits-requires c =
    let s = c.loop-s.s in (
      c.requires.sums_small.active s (omega arith),
      c.requires.sums_small.reactive s (omega arith),
      omega (arith, held-few c.args.book c.requires.held),
      omega (arith, held-limit-small c.args.book c.requires.held s (omega (arith, held_four c.args.book c.requires.held))),
    )

pub returns-then-not-fits : goal.returns-then-not-fits
returns-then-not-fits c =
    let l = c.loop-s in
    λ choice is small sized.
    keeps_stop (problem_of c.args.book) choice l.s _ (omega (arith, held-slots c.args.book c.requires.held))
    (entry_kept c.args.book c.requires.held c.args.sums choice is small sized l.s (omega arith) c.fits.result c.fits.ensures ∙ c.if-not-fits.true)
    (l.invariant.1 choice is small sized)

pub loop-s-preserved : goal.loop-s-preserved
loop-s-preserved c =
    let l = c.loop-s in (
      search rules,
      λ choice is small sized.
          keeps_go (problem_of c.args.book) choice l.s _ (omega (arith, held-slots c.args.book c.requires.held))
          (entry_kept c.args.book c.requires.held c.args.sums choice is small sized l.s (omega arith) c.fits.result c.fits.ensures ∙ c.if-not-fits.false)
          (l.invariant.1 choice is small sized),
    )

pub returns : goal.returns
returns c =
    let l = c.loop-s in
    λ choice is small sized.
    keeps-end (problem_of c.args.book) choice l.s _ (omega (arith, held-slots c.args.book c.requires.held)) (l.invariant.1 choice is small sized)
