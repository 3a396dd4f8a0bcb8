-- `book::read_rest` meets its contract.
use mathlib.Core.Path.{◌≡◌, ap, ◌∙◌}
use mathlib.Core.List.{List}
use Prim.Native.Nat.{ℕ}
use Rattle.std.specs.Prelude.{Ok}
use Rattle.std.proofs.lemmas.Result.{err_from_is_err_and}
use Rattle.model.specs.declared.Book.{Book}
use Rattle.model.specs.Book.{Settings, slot_count, load_count, ratio_in, read_loads}
use Rattle.model.specs.Refusals.{Result}
use Rattle.model.proofs.ValidLaws.{loads-valid}
use Rattle.header.proofs.HeaderLaws.{passed_ranges, header_line_lem}
use Rattle.book.specs.Lines.{loads_reading}
use Rattle.book.proofs.LoadsLaws.{book_with, book_done, book_failed}
use native.Mathlib.Omega.{arith}
use Rattle.book.proofs.read_rest.Goals as goal

-- what the load lines give
abbrev given : List ℕ → List ℕ → Result (List Settings)
given line rest = read_loads (slot_count line) (ratio_in line) (load_count line) 2 rest

-- and with the numbers that the header states
given_is : (line rest : List ℕ) (t r n : ℕ) → t ≡ slot_count line → r ≡ ratio_in line → n ≡ load_count line
    → loads_reading (read_loads t r n 2 rest) ≡ loads_reading (given line rest)
given_is line rest t r n a b d = rw (a, b, d)

pub number-slots-requires : goal.number-slots-requires
number-slots-requires c = let h = header_line_lem _ c.requires in omega arith

pub number-count-requires : goal.number-count-requires
number-count-requires c = let h = header_line_lem _ c.requires in omega arith

pub ratio_of-ratio-requires : goal.ratio_of-ratio-requires
ratio_of-ratio-requires c = let h = header_line_lem _ c.requires in omega arith

pub limits_of-limits-requires : goal.limits_of-limits-requires
limits_of-limits-requires c = rw c.number-slots.ensures (header_line_lem _ c.requires)

pub read_loads-requires : goal.read_loads-requires
read_loads-requires c =
    let h = passed_ranges c.args.line.now c.requires in (
      omega (arith, c.number-slots.ensures, h.slots.1),
      omega (arith, c.ratio_of-ratio.ensures, h.ratio.1),
      omega (arith, c.number-count.ensures, h.loads.1),
    )

pub returns-in_err-loads : goal.returns-in_err-loads
returns-in_err-loads c =
    let a = c.args in
    let p = err_from_is_err_and c.from_residual.result c.from_residual.ensures.1 in
    rw (p.1, p.2) (book_failed a.line.now (given a.line.now a.rest.now) c.in_err-loads.field-0.0
    (c.in_err-loads.ensures ∙ given_is a.line.now a.rest.now _ _ _ c.number-slots.ensures c.ratio_of-ratio.ensures c.number-count.ensures))

pub number-requires : goal.number-requires
number-requires c = let h = header_line_lem _ c.requires in omega arith

pub budget_of-requires : goal.budget_of-requires
budget_of-requires c = let h = header_line_lem _ c.requires in omega arith

pub returns : goal.returns
returns c =
    let a = c.args in
    let read = c.in_ok-loads.ensures ∙ given_is a.line.now a.rest.now _ _ _ c.number-slots.ensures c.ratio_of-ratio.ensures c.number-count.ensures in
    let same : Path Book
    (record {
      slots = c.number-slots.result;
      count = c.number-count.result;
      fineness = c.number.result;
      ratio = c.ratio_of-ratio.result;
      budget = c.budget_of.result;
      limits = c.limits_of-limits.result;
      loads = c.in_ok-loads.loads;
    })
    (book_with a.line.now c.in_ok-loads.loads) = λ i. record {
      slots = c.number-slots.ensures i;
      count = c.number-count.ensures i;
      fineness = c.number.ensures i;
      ratio = c.ratio_of-ratio.ensures i;
      budget = c.budget_of.ensures i;
      limits = c.limits_of-limits.ensures i;
      loads = c.in_ok-loads.loads;
    } in
    ap (λ x. Ok x) same
    ∙ book_done a.line.now (given a.line.now a.rest.now) c.in_ok-loads.loads
    (λ loads q. (loads-valid (slot_count a.line.now) (ratio_in a.line.now) (load_count a.line.now) 2 a.rest.now loads q).count)
    read
