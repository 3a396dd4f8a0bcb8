-- `order::write_order` meets its contract. The invariant: i loads have been started, and stand in the buffer.
use mathlib.Core.Path.{subst}
use Prim.Native.Nat.{◌<◌}
use native.Mathlib.Omega.{arith}
use lib.ListN.{length}
use borrow.Author.Rules.{rules}
use Rattle.std.specs.Prelude.{Some}
use Rattle.starts.specs.Places.{Found}
use Rattle.starts.proofs.PlaceLaws.{names_inside}
use Rattle.order.proofs.StepLaws.{turned_none, found_some, turned_more, turned_all}
use Rattle.order.proofs.write_order.Goals as goal

pub loop-i-init : goal.loop-i-init
loop-i-init c =
    let a = c.args in
    turned_none a.running a.planned a.names.now a.order.now (search rules)

pub next_start-requires : goal.next_start-requires
next_start-requires c =
    names_inside c.args.names.now c.requires.few c.requires.right

pub unwrap-k-requires : goal.unwrap-k-requires
unwrap-k-requires c =
    let a = c.args in
    let l = c.loop-i in
    found_some a.running a.planned a.names.now a.starts (length a.order.now) c.requires l.i a.order.now l.order l.on l.invariant
    (omega arith) _ c.next_start.ensures

-- the load that is found
found : (c : goal.After-unwrap-k) → Found c.loop-i.on c.args.planned c.args.names.now (Some c.unwrap-k.result)
found c = subst (Found c.loop-i.on c.args.planned c.args.names.now) c.unwrap-k.ensures c.next_start.ensures

few : (c : goal.After-unwrap-k) → c.unwrap-k.result < 24
few c = omega (arith, (found c).inside, c.requires.few)

pub bounds-planned-k : goal.bounds-planned-k
bounds-planned-k c = few c

pub bounds-on-k : goal.bounds-on-k
bounds-on-k c = few c

pub loop-i-preserved : goal.loop-i-preserved
loop-i-preserved c =
    let a = c.args in
    let l = c.loop-i in
    turned_more a.running a.planned a.names.now a.starts (length a.order.now) c.requires l.i a.order.now l.order l.on l.invariant
    (omega arith) c.unwrap-k.result (found c) (omega (arith, l.auto.order, c.requires.fits)) l.auto.order

pub returns : goal.returns
returns c =
    let a = c.args in
    let l = c.loop-i in
    turned_all a.running a.planned a.names.now a.starts (length a.order.now) c.requires l.i a.order.now l.order l.on (omega arith) l.invariant
