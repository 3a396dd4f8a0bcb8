-- `moves::move_of` meets its contract. The invariant: the numbers are those of the slots from t on.
use Prim.Native.Nat.{◌+◌, ◌-◌, ◌*◌, ◌/◌, ◌<◌, ◌≤◌}
use mathlib.Core.Path.{◌≡◌, refl, ap, ◌∙◌, subst}
use native.Mathlib.Omega.{arith}
use lib.ListN.{get_or, set, length}
use Rattle.model.specs.Bounds.{most_cells}
use Rattle.model.specs.Choice.{setting_of}
use Rattle.model.specs.Trials.{cell_count}
use Rattle.model.specs.Values.{raised}
use Rattle.grid.specs.declared.Grid.{Grid}
use Rattle.grid.specs.declared.SlotGrid.{SlotGrid}
use Rattle.grid.specs.Geometry.{entry_at, Laid}
use Rattle.grid.proofs.GeometryLaws.{back_one}
use Rattle.moves.specs.Moves.{LoadHeld}
use Rattle.moves.proofs.MoveLaws.{Moved, moved_none, moved_more, moved_all, back_fits, up_fits, down_fits, load_few, load_setting, load_q-small, digits_at}
use Rattle.moves.proofs.move_of.Goals as goal

-- the cells of the slots of which a grid speaks
inside : {v : Grid} (l : Laid v) → cell_count l.slots ≤ most_cells
inside l = omega (arith, l.is.cells_are, l.is.cells_fit)

pub loop-t-init : goal.loop-t-init
loop-t-init c =
    let few = load_few c.args.load c.requires.load_held in
    (omega (arith, c.requires.laid.is.slots_fit, c.requires.laid.is.slots_are), omega arith, refl, λ h l. moved_none l.slots (setting_of h.settings c.args.c) c.args.grid.slots _ l.is.slots_are refl)

pub nonzero_div-a : goal.nonzero_div-a
nonzero_div-a c =
    let m = c.loop-t in
    let k : m.t - 1 < length c.requires.laid.slots = omega (arith, c.requires.laid.is.slots_are) in
    omega (arith, (c.requires.laid.is.each (m.t - 1) k).step_is, (c.requires.laid.sound (m.t - 1) k).step_some)

pub grid_value-b-requires : goal.grid_value-b-requires
grid_value-b-requires c =
    let m = c.loop-t in
    let k : m.t - 1 < length c.requires.laid.slots = omega (arith, c.requires.laid.is.slots_are) in
    let e = (c.requires.laid.is.each (m.t - 1) k).step_is in
    let f = c.requires.laid.sound (m.t - 1) k in
    (load_q-small c.args.load c.requires.load_held c.args.c m.invariant.1 (m.t - 1) (omega arith), omega (arith, e, f.step_some), omega (arith, e, f.step_small))

-- the sizes of slot t - 1
abbrev here : (c : goal.After-grid_value-b) → SlotGrid
here c = entry_at c.args.grid (c.loop-t.t - 1)

-- one slot more
more : (c : goal.After-grid_value-b) → (h : LoadHeld c.args.load) (l : Laid c.args.grid) → Moved l.slots (setting_of h.settings c.args.c) (c.loop-t.t - 1) (c.loop-t.back * (here c).top + get_or c.args.load.actives (4 * c.args.c + (c.loop-t.t - 1)) 0 / (here c).step) (c.loop-t.up * (here c).width + c.grid_value-b.result) (c.loop-t.down * (here c).width + 32768) (set c.loop-t.active (c.loop-t.t - 1) (get_or c.args.load.actives (4 * c.args.c + (c.loop-t.t - 1)) 0 / (here c).step))
more c h l =
    let m = c.loop-t in
    let v = setting_of h.settings c.args.c in
    let k : m.t - 1 < length l.slots = omega (arith, l.is.slots_are) in
    moved_more l.slots v (load_setting c.args.load h c.args.c m.invariant.1) (m.t - 1) k l.is.slots_fit _ _ _ m.back m.up m.down m.active
    (digits_at c.args.load h c.args.c m.invariant.1 (m.t - 1) (omega arith) c.args.grid _ c.grid_value-b.result (l.is.each (m.t - 1) k) (l.sound (m.t - 1) k).place_is (c.grid_value-b.ensures.value ∙ ap raised c.grid_value-b.ensures.step_value))
    (back_one (λ t. Moved l.slots v t m.back m.up m.down m.active) m.t c.loop-t-test.true (m.invariant.3 h l))

fits : (c : goal.After-grid_value-b) → (c.loop-t.back * (here c).top + get_or c.args.load.actives (4 * c.args.c + (c.loop-t.t - 1)) 0 / (here c).step ≤ 274877906944) × (c.loop-t.up * (here c).width + c.grid_value-b.result ≤ 274877906944) × (c.loop-t.down * (here c).width + 32768 ≤ 274877906944)
fits c =
    let h = c.requires.load_held in
    let l = c.requires.laid in
    let v = setting_of h.settings c.args.c in
    let r = more c h l in
    (back_fits l.slots v l.is.slots_fit (inside l) _ _ _ _ _ r, up_fits l.slots v l.is.slots_fit (inside l) _ _ _ _ _ r, down_fits l.slots v l.is.slots_fit (inside l) _ _ _ _ _ r)

pub overflow_mul-back : goal.overflow_mul-back
overflow_mul-back c = omega (arith, fits c)

pub overflow_add-back : goal.overflow_add-back
overflow_add-back c = omega (arith, fits c)

pub overflow_mul-up : goal.overflow_mul-up
overflow_mul-up c = omega (arith, fits c)

pub overflow_add-up : goal.overflow_add-up
overflow_add-up c = omega (arith, fits c)

pub overflow_mul-down : goal.overflow_mul-down
overflow_mul-down c = omega (arith, fits c)

pub overflow_add-down : goal.overflow_add-down
overflow_add-down c = omega (arith, fits c)

pub loop-t-preserved : goal.loop-t-preserved
loop-t-preserved c =
    let m = c.loop-t in
    (m.invariant.0, m.invariant.1, (more c c.requires.load_held c.requires.laid).active_length, more c)

pub returns : goal.returns
returns c h l k e =
    let m = c.loop-t in
    let none : m.t ≡ 0 = omega arith in
    moved_all c.args.load h c.args.c c.args.unit k l.slots m.back m.up m.down m.active c.requires.least_le_c.0 c.requires.least_le_c.1 e l.is.slots_fit (inside l)
    (subst (λ t. Moved l.slots (setting_of h.settings c.args.c) t m.back m.up m.down m.active) none (m.invariant.3 h l))
