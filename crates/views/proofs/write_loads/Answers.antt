-- `views::write_loads` meets its contract. The invariant: the loads passed are written.
use Prim.Native.Nat.{suc, ◌+◌}
use mathlib.Core.Path.{sym, ap, ◌∙◌}
use lib.ListN.{length, get_or}
use Rattle.hexadecimal.specs.Written.{written}
use Rattle.hexadecimal.proofs.WrittenLaws.{written_none, write_on}
use Rattle.views.specs.MillLine.{load_bytes, loads_bytes}
use Rattle.views.proofs.MillLaws.{loads-none, loads-more, length_more, loads-within}
use native.Mathlib.Omega.{arith}
use Rattle.views.proofs.write_loads.Goals as goal

pub loop-k-init : goal.loop-k-init
loop-k-init c =
    let a = c.args in
    let none = loads-none a.picks in
    (omega (arith, ap length none), sym (ap (written a.view.now a.at) none ∙ written_none a.view.now a.at))

pub write_load-next-requires-clause-level_in_bounds : goal.write_load-next-requires-clause-level_in_bounds
write_load-next-requires-clause-level_in_bounds c =
    let l = c.loop-k in
    omega (arith, c.requires.count_in_bounds, length_more c.args.picks l.k, loads-within c.args.picks (l.k + 1) c.args.count (omega arith))

pub loop-k-preserved : goal.loop-k-preserved
loop-k-preserved c =
    let a = c.args in
    let l = c.loop-k in
    let w = c.write_load-next in
    let more = length_more a.picks l.k in
    let fits = loads-within a.picks (l.k + 1) a.count (omega arith) in (
      c.write_load-next.ensures.next ∙ (omega (arith, l.invariant.0)),
      c.write_load-next.ensures.bytes
          ∙ write_on a.view.now l.view a.at l.next (loads_bytes a.picks l.k) (load_bytes (suc l.k) (get_or a.picks l.k 0)) l.invariant.1 l.invariant.0
          (omega (arith, c.requires.count_in_bounds, l.invariant.0))
          ∙ ap (written a.view.now a.at) (sym (loads-more a.picks l.k)),
    )
