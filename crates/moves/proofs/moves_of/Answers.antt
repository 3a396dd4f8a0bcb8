-- `moves::moves_of` meets its contract. The invariant: the settings passed have their moves.
use Prim.Native.Nat.{◌+◌}
use mathlib.Core.Path.{refl, ◌∙◌}
use native.Mathlib.Omega.{arith}
use lib.ListN.{length-set}
use Rattle.model.specs.Choice.{setting_of}
use Rattle.stretch.specs.Stretch.{no_move}
use Rattle.grid.proofs.ArrayLaws.{set-each}
use Rattle.moves.specs.Moves.{MoveIs}
use Rattle.moves.proofs.MoveLaws.{load_few}
use Rattle.moves.proofs.LoadLaws.{load_all}
use Rattle.moves.proofs.moves_of.Goals as goal

pub loop-i-init : goal.loop-i-init
loop-i-init c = (omega (arith, load_few c.args.load c.requires.load_held), refl, λ h l k e i j. absurd (omega arith))

pub loop-i-preserved : goal.loop-i-preserved
loop-i-preserved c =
    let m = c.loop-i in (
      m.invariant.0,
      length-set m.moves m.i c.move_of.result ∙ m.invariant.1,
      λ h l k e.
          set-each (λ j x. MoveIs l.slots k (setting_of h.settings (c.args.load.least + j)) x) m.moves m.i c.move_of.result no_move (omega arith) (c.move_of.ensures h l k e) (m.invariant.2 h l k e),
    )

pub returns : goal.returns
returns c h l k e =
    let m = c.loop-i in
    load_all c.args.load h l.slots k m.moves (λ i j. m.invariant.2 h l k e i (omega arith))
