-- `pass::load_pass` meets its contract. The invariant: the first `row` rows are made and counted. Nothing reaches the rows from `rows` on.
use native.Mathlib.Omega.{arith}
use mathlib.Core.Path.{refl}
use Rattle.rows.proofs.SourceLaws.{next_row}
use Rattle.pass.specs.Pass.{count_rows}
use Rattle.pass.proofs.LayerLaws.{below, empty-set_row, layer_rest, layer_rest_count, layer-none, layer_room, layer-more, layer-count, layer-all, layer_total}
use Rattle.pass.proofs.load_pass.Goals as goal

pub loop-row-init : goal.loop-row-init
unfolding count_rows
loop-row-init c = (omega arith, (λ _. refl), layer-none c.requires.fresh_len.0 c.requires.fresh_len.1, c.requires.empty_from_2)

pub load_row-made-requires-clause-load_room : goal.load_row-made-requires-clause-load_room
load_row-made-requires-clause-load_room c =
    let r = c.loop-row.invariant.2 in
    let l = below c.requires.reaches c.loop-row-test.true in
    layer_room _ _ _ _ _ c.requires.grid_fits c.requires.rows l r c.requires.load_room

pub loop-row-preserved : goal.loop-row-preserved
loop-row-preserved c =
    let v = c.loop-row.invariant in
    let t = c.loop-row-test.true in
    let l = below c.requires.reaches t in
    let q = c.load_row-made.ensures in (
      omega (arith, q.count_fits, next_row c.loop-row.row c.args.grid.now.width),
      (λ t. layer-count _ _ _ _ _ c.requires.grid_fits c.requires.rows l v.2 q t (v.1 t)),
      layer-more _ _ _ _ _ c.requires.grid_fits c.requires.rows l v.2 q,
      empty-set_row _ _ _ t v.3,
    )

pub returns-clause-value : goal.returns-clause-value
returns-clause-value c =
    let v = c.loop-row.invariant in
    let i = c.requires.empty_from in
    let f = c.requires.reaches in
    let r = layer-all (omega arith) c.loop-row-test.false v.2 in
    (λ t. layer_rest_count i v.3 f r (layer_total c.args.grid.now.width _ (omega arith) c.loop-row-test.false (v.1 t)))

pub returns-clause-layer_made : goal.returns-clause-layer_made
returns-clause-layer_made c =
    let v = c.loop-row.invariant in
    let i = c.requires.empty_from in
    let f = c.requires.reaches in
    let r = layer-all (omega arith) c.loop-row-test.false v.2 in
    layer_rest i v.3 f r
