-- `book::read_loads` meets its contract: what is left decides.
use Prim.Native.Nat.{◌+◌}
use mathlib.Core.Path.{◌≡◌, sym, ap, ◌∙◌}
use lib.ListN.{drop, length-drop, length-set}
use Rattle.std.specs.Prelude.{Err}
use Rattle.model.specs.declared.Refusal.TheVariants.{TrailingBytes}
use Rattle.model.specs.Frames.{line_length, line_of}
use Rattle.model.specs.Book.{option_count, settings}
use Rattle.model.specs.Values.{load_value}
use Rattle.loadline.proofs.LineLaws.{load_line, line_holds}
use Rattle.book.specs.Lines.{loads_reading}
use Rattle.book.proofs.LoadsLaws.{line_at, read_unterminated, read_refused, read_more, read_trailing, read_all, length-is}
use native.Mathlib.Omega.{arith}
use Rattle.book.proofs.read_loads.Goals as goal

pub returns-then-rest-n : goal.returns-then-rest-n
returns-then-rest-n c =
    let a = c.args in
    let l = c.loop-k in
    let n = c.line_length-n.result in
    let en : n ≡ line_length (drop l.at a.s.now) = length-is a.s.now l.at n l.invariant.0 c.line_length-n.ensures in
    ap (λ x. Err x) c.on_line.ensures
    ∙ ap loads_reading (sym (read_unterminated a.slots a.ratio a.count a.s.now l.at l.k l.loads l.invariant.2 (omega arith) (rw length-drop (omega arith))))

pub returns-in-Err : goal.returns-in-Err
returns-in-Err c =
    let a = c.args in
    let l = c.loop-k in
    let f = line_at a.slots a.ratio a.s.now l.at _ _ l.invariant.0 c.line_length-n.ensures (omega arith) c.in-Err.ensures in
    ap (λ x. Err x) c.on_line-in-Err.ensures
    ∙ ap loads_reading (sym (read_refused a.slots a.ratio a.count a.s.now l.at l.k l.loads l.invariant.2 c.in-Err.r (omega arith) f.ends (sym f.says)))

pub number-options-requires : goal.number-options-requires
number-options-requires c =
    let a = c.args in
    let l = c.loop-k in
    let f = line_at a.slots a.ratio a.s.now l.at _ _ l.invariant.0 c.line_length-n.ensures (omega arith) c.in_default.ensures in
    let h = load_line a.slots a.ratio (line_of (drop l.at a.s.now)) c.requires.0 (sym f.says) in
    rw f.is (omega (arith, line_holds a.slots _ _ (line_of (drop l.at a.s.now)) h))

pub load_of-requires : goal.load_of-requires
load_of-requires c =
    let a = c.args in
    let l = c.loop-k in
    let f = line_at a.slots a.ratio a.s.now l.at _ _ l.invariant.0 c.line_length-n.ensures (omega arith) c.in_default.ensures in
    let e : c.number-options.result ≡ option_count (line_of (drop l.at a.s.now)) = c.number-options.ensures ∙ ap option_count f.is in
    rw (f.is, e) (load_line a.slots a.ratio (line_of (drop l.at a.s.now)) c.requires.0 (sym f.says))

pub loop-k-preserved : goal.loop-k-preserved
loop-k-preserved c =
    let a = c.args in
    let l = c.loop-k in
    let s = a.s.now in
    let f = line_at a.slots a.ratio s l.at _ _ l.invariant.0 c.line_length-n.ensures (omega arith) c.in_default.ensures in
    let e : c.load_of.result ≡ load_value (settings a.slots (line_of (drop l.at s))) = c.load_of.ensures ∙ ap (λ x. load_value (settings a.slots x)) f.is in (
      omega arith,
      simp length-set l.invariant.1,
      read_more a.slots a.ratio a.count s l.at l.k l.loads l.invariant.2 (l.at + c.line_length-n.result + 1) c.load_of.result (omega arith) c.requires.2 f.ends
          (sym f.says) e f.after,
    )

pub returns-then-at-s : goal.returns-then-at-s
returns-then-at-s c =
    let a = c.args in
    let l = c.loop-k in
    let k : l.k ≡ a.count = omega arith in
    let e : c.on_line-then-at-s.result ≡ record { refusal = TrailingBytes; line = l.k + 2 } = rw k c.on_line-then-at-s.ensures in
    ap (λ x. Err x) e
    ∙ ap loads_reading (sym (read_trailing a.slots a.ratio a.count a.s.now l.at l.k l.loads l.invariant.2 k (rw length-drop (omega arith))))

pub returns : goal.returns
returns c =
    let a = c.args in
    let l = c.loop-k in
    rw (read_all a.slots a.ratio a.count a.s.now l.at l.k l.loads l.invariant.2 (omega arith) (rw length-drop (omega arith)), l.invariant.2.stored)
