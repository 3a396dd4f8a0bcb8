-- `moves::loads_of` meets its contract. The invariant: the loads passed have their moves, and the unit is 4^k.
use mathlib.Core.Path.{refl, ◌∙◌}
use mathlib.Core.List.{[]}
use native.Mathlib.Omega.{arith}
use lib.ListN.{get_or, length-set}
use Rattle.model.specs.Values.{problem_of}
use Rattle.model.proofs.HeldLaws.{held-few}
use Rattle.grid.proofs.ArrayLaws.{set-each}
use Rattle.moves.specs.Moves.{no_moves, LoadIs}
use Rattle.moves.proofs.LoadLaws.{load_held, unit-small, unit-more}
use Rattle.moves.proofs.loads_of.Goals as goal

pub loop-k-init : goal.loop-k-init
loop-k-init c = (held-few c.args.book c.requires.held, refl, refl, λ l i j. absurd (omega arith))

pub moves_of-requires-clause-load_held : goal.moves_of-requires-clause-load_held
moves_of-requires-clause-load_held c =
    let m = c.loop-k in
    load_held c.args.book c.requires.held m.k _ c.loop-k-test.true

pub moves_of-requires-clause-unit_bound : goal.moves_of-requires-clause-unit_bound
moves_of-requires-clause-unit_bound c =
    let m = c.loop-k in
    unit-small m.unit m.k m.invariant.2 (omega arith)

pub overflow_mul-unit : goal.overflow_mul-unit
overflow_mul-unit c =
    let m = c.loop-k in
    omega (arith, unit-small m.unit m.k m.invariant.2 (omega arith))

pub loop-k-preserved : goal.loop-k-preserved
unfolding load_held
loop-k-preserved c =
    let m = c.loop-k in (
      m.invariant.0,
      length-set m.moves m.k c.moves_of.result ∙ m.invariant.1,
      unit-more m.unit m.k m.invariant.2,
      λ l.
          set-each (λ i x. LoadIs l.slots i (get_or (problem_of c.args.book).loads i []) x) m.moves m.k c.moves_of.result no_moves (omega arith)
          (c.moves_of.ensures (load_held c.args.book c.requires.held m.k _ c.loop-k-test.true) l m.k m.invariant.2) (m.invariant.3 l),
    )
