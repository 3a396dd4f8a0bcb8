-- `header::limit_at` meets its contract: a limit of the list, or past its end.
use mathlib.Core.Path.{sym, ap, ◌∙◌}
use mathlib.Core.List.{List}
use Prim.Native.Nat.{ℕ, ◌+◌, ◌*◌}
use lib.ListN.{get_or-eq_default}
use Rattle.model.specs.Frames.{field}
use Rattle.model.specs.Book.{slot_count, ratio_digits, limits_in}
use Rattle.model.proofs.UptoLaws.{length-upto, get_d_upto}
use native.Mathlib.Omega.{arith}
use Rattle.header.proofs.limit_at.Goals as goal

-- the limit of a slot
abbrev limit : List ℕ → ℕ → ℕ
limit line s = field line (16 + ratio_digits line + 4 * s) 4

pub returns-then-s-slots : goal.returns-then-s-slots
returns-then-s-slots c =
    let a = c.args in
    let h = c.requires in
    c.number.ensures
    ∙ ap (λ n. field a.line.now (16 + n + 4 * a.s) 4) c.ratio_digits-digits.ensures
    ∙ sym (get_d_upto (limit a.line.now) (slot_count a.line.now) a.s 0 (omega arith))

pub returns : goal.returns
returns c =
    let a = c.args in
    let h = c.requires in
    sym (get_or-eq_default (limits_in a.line.now) 0 {n = a.s} (omega (arith, length-upto (limit a.line.now) (slot_count a.line.now))))
