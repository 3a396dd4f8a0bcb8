-- `hexadecimal::line_length` meets its contract.
use Rattle.std.proofs.Common.{rules, tests, eqb}
use Rattle.std.proofs.lemmas.Iterator.{YieldsList-from_slice}
use Rattle.std.proofs.lemmas.Iterator.Search.{position_from_yields_List}
use Rattle.hexadecimal.proofs.FieldLaws.{line_found}
use Rattle.hexadecimal.proofs.line_length.Goals as goal

pub returns : goal.returns
returns c =
    let s = c.args.s.now in
    line_found s _ c.unwrap_or.result
    (position_from_yields_List (λ b. eqb b 10) _ _ c.position.result c.position.ensures.ran (YieldsList-from_slice s cc) (λ x b q k. search (rules, tests)))
    c.unwrap_or.ensures
