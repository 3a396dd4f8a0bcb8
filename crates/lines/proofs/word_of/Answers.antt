-- `lines::word_of` meets its contract.
use Rattle.lines.proofs.LineLaws.{word_is}
use native.Mathlib.Omega.{arith}
use Rattle.lines.proofs.word_of.Goals as goal

pub returns : goal.returns
returns c = word_is c.args.reactive c.args.base _ (λ h. omega arith) (λ h. omega arith)
