-- `fits::size_finding` meets its contract: the cells are exact up to the bound, and the rules are tried in order.
use Prim.Native.Nat.{◌≤◌}
use mathlib.Core.Path.{sym}
use Rattle.model.specs.Bounds.{most_cells}
use Rattle.model.specs.Trials.{cells, needed_words}
use Rattle.model.specs.Values.{problem_of}
use native.Mathlib.Omega.{arith}
use Rattle.fits.proofs.SizeLaws.{size_many, size_small, size_short, size_none}
use Rattle.fits.proofs.size_finding.Goals as goal

pub returns-then-total-gt-CELLS : goal.returns-then-total-gt-CELLS
returns-then-total-gt-CELLS c =
    let a = c.args in
    sym (size_many a.words a.room (problem_of a.book) (c.requires.capped.over c.if-total-gt-CELLS.true))

pub returns-then-words-total : goal.returns-then-words-total
returns-then-words-total c =
    let a = c.args in
    let n = c.requires.capped.exact (omega (arith, c.if-total-gt-CELLS.false)) in
    sym
    (size_small a.words a.room (problem_of a.book) (omega (arith, n, c.if-total-gt-CELLS.false)) (omega (arith, n, c.if-words-total.true)))

pub returns-then-room-sheet_length : goal.returns-then-room-sheet_length
returns-then-room-sheet_length c =
    let fitting : (cells (problem_of c.args.book) ≤ most_cells) × (needed_words (problem_of c.args.book) ≤ c.args.words) = let few = c.if-total-gt-CELLS.false in
    let n = c.requires.capped.exact (omega (arith, few)) in
    (omega (arith, n, few), omega (arith, n, c.if-words-total.false)) in
    let a = c.args in
    let f = fitting in
    sym (size_short a.words a.room (problem_of a.book) f.0 f.1 (omega (arith, c.sheet_length.ensures, c.if-room-sheet_length.true)))

pub returns : goal.returns
returns c =
    let fitting : (cells (problem_of c.args.book) ≤ most_cells) × (needed_words (problem_of c.args.book) ≤ c.args.words) = let few = c.if-total-gt-CELLS.false in
    let n = c.requires.capped.exact (omega (arith, few)) in
    (omega (arith, n, few), omega (arith, n, c.if-words-total.false)) in
    let a = c.args in
    let f = fitting in
    sym (size_none a.words a.room (problem_of a.book) f.0 f.1 (omega (arith, c.sheet_length.ensures, c.if-room-sheet_length.false)))
