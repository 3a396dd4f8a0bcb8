-- `pool::pool` meets its contract: a refusal of the first book, or what the second makes of it; and what holds of pooled bytes.
use mathlib.Core.Path.{sym, ap, ◌∙◌}
use Rattle.model.specs.declared.Answer.{Answer}
use Rattle.model.proofs.ReadingLaws.{reading_held, reading_is, reading_refusal}
use Rattle.model.proofs.RefusalLaws.{number-some}
use Rattle.model.proofs.JointLaws.{pooled_given}
use Rattle.pool.proofs.ResultLaws.{first-refused}
use Rattle.pool.proofs.pool.Goals as goal

pub pool_with-requires-clause-held : goal.pool_with-requires-clause-held
pool_with-requires-clause-held c = reading_held _ c.in-Ok.a c.in-Ok.ensures

pub pool_with-requires-clause-first_value : goal.pool_with-requires-clause-first_value
pool_with-requires-clause-first_value c = reading_is _ c.in-Ok.a c.in-Ok.ensures

pub returns-in-Ok-clause-joint : goal.returns-in-Ok-clause-joint
returns-in-Ok-clause-joint c =
    let a = c.args in
    pooled_given a.first.now a.second.now a.pooled.now _ _ c.pool_with.ensures

pub returns-in-Err-clause-result : goal.returns-in-Err-clause-result
returns-in-Err-clause-result c =
    let a = c.args in
    first-refused a.first.now a.second.now a.pooled.now c.in-Err.refused (reading_refusal _ c.in-Err.refused c.in-Err.ensures) _ c.from.ensures

pub returns-in-Err-clause-joint : goal.returns-in-Err-clause-joint
returns-in-Err-clause-joint c = λ zero. absurd (number-some c.in-Err.refused.refusal (sym (ap (λ (x : Answer). x.number) c.from.ensures) ∙ zero))
