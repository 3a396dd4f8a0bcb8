-- `book::read_book` meets its contract.
use Prim.Native.Nat.{ℕ, suc, ◌+◌, ◌-◌}
use mathlib.Core.Path.{◌≡◌, sym, ap, ap₂, ◌∙◌}
use mathlib.Core.List.{List}
use native.Mathlib.Nat.{sub-zero}
use native.Mathlib.Numerals.{add-one}
use lib.ListN.{take, drop}
use Rattle.std.specs.Prelude.{Err}
use Rattle.model.specs.Frames.{line_length, line_of, after_line}
use Rattle.model.specs.Refusals.{Finding, first}
use Rattle.model.specs.Book.{header_rules}
use Rattle.model.specs.Values.{reading_of}
use Rattle.book.specs.Lines.{rest_read}
use Rattle.hexadecimal.proofs.FieldLaws.{rest_is}
use Rattle.book.proofs.LoadsLaws.{book_unterminated, header_refused, header_passed}
use native.Mathlib.Omega.{arith}
use Rattle.book.proofs.read_book.Goals as goal

-- the first line as the code takes it
first_line : (s : List ℕ) (n : ℕ) → n ≡ line_length s → take (n - 0) s ≡ line_of s
first_line s n e = ap (λ k. take k s) (sub-zero n ∙ e)

-- what its rules say
header_says : (s : List ℕ) (n : ℕ) (f : Finding) → n ≡ line_length s → f ≡ first (header_rules (take (n - 0) s)) → first (header_rules (line_of s)) ≡ f
header_says s n f e q = sym (q ∙ ap (λ x. first (header_rules x)) (first_line s n e))

pub returns-then-s-end : goal.returns-then-s-end
returns-then-s-end c =
    let s = c.args.s.now in
    ap (λ x. Err x) c.on_line.ensures ∙ ap reading_of (sym (book_unterminated s (rw (← c.line_length-end.ensures) c.if-s-end.true)))

pub returns-in-Err : goal.returns-in-Err
returns-in-Err c =
    let s = c.args.s.now in
    let n = c.line_length-end in
    ap (λ x. Err x) c.on_line-in-Err.ensures
    ∙ ap reading_of (sym (header_refused s c.in-Err.r (rw (← n.ensures) c.if-s-end.false) (header_says s n.result _ n.ensures c.in-Err.ensures)))

pub returns : goal.returns
returns c =
    let s = c.args.s.now in
    let n = c.line_length-end in
    let a : drop (n.result + 1) s ≡ after_line s = ap (λ k. drop k s) (add-one n.result ∙ ap suc n.ensures) in
    c.read_rest.ensures
    ∙ ap₂ (λ x y. reading_of (rest_read x y)) (first_line s n.result n.ensures) (rest_is s (n.result + 1) (omega arith) ∙ a)
    ∙ ap reading_of (sym (header_passed s (rw (← n.ensures) c.if-s-end.false) (header_says s n.result _ n.ensures c.in_default.ensures)))
