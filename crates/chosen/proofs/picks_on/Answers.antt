-- `chosen::picks_on` meets its contract. The invariant: the numbers of the loads passed stand in the array.
use mathlib.Core.Path.{refl}
use Rattle.model.specs.Values.{problem_of}
use native.Mathlib.Omega.{arith}
use Rattle.model.proofs.HeldLaws.{no_load, held-count, held-few}
use Rattle.chosen.proofs.SheetChoiceLaws.{read_start, numbers-few, read_more, read_below, read_past, read_found}
use Rattle.chosen.proofs.picks_on.Goals as goal

pub loop-k-init : goal.loop-k-init
loop-k-init c =
    let a = c.args in
    (held-few a.book c.requires.held, read_start a.sheet.now (problem_of a.book) _ refl)

pub number-c-requires : goal.number-c-requires
number-c-requires c =
    omega (arith, c.requires.sheet_len, held-count c.args.book c.requires.held)

pub returns-then-c-load : goal.returns-then-c-load
returns-then-c-load c =
    let l = c.loop-k in
    read_below c.args.book c.requires.held c.args.sheet.now l.picks l.k no_load c.number-c.result (omega arith) c.number-c.ensures (omega arith)

pub overflow_add-load : goal.overflow_add-load
overflow_add-load c =
    let l = c.loop-k in
    omega (arith, numbers-few c.args.book c.requires.held c.args.sheet.now l.picks l.k no_load (omega arith))

pub returns-then-load-c : goal.returns-then-load-c
returns-then-load-c c =
    let l = c.loop-k in
    read_past c.args.book c.requires.held c.args.sheet.now l.picks l.k no_load c.number-c.result (omega arith)
    c.number-c.ensures (omega arith)

pub loop-k-preserved : goal.loop-k-preserved
loop-k-preserved c =
    let l = c.loop-k in (
      l.invariant.0,
      read_more c.args.book c.requires.held c.args.sheet.now l.picks l.k no_load c.number-c.result (omega arith) l.invariant.1
          c.number-c.ensures (omega arith) (omega arith),
    )

pub returns : goal.returns
returns c =
    let l = c.loop-k in
    read_found c.args.book c.requires.held c.args.sheet.now l.picks l.k (omega arith) l.invariant.1
