-- `limits::keeps_code` meets its contract: the code's digits are the numbers of its choice.
use mathlib.Core.Path.{sym, ap, subst, ◌∙◌}
use Rattle.model.specs.Grid.{slots_of, keeps_limits}
use Rattle.model.specs.Values.{problem_of, choice_coded}
use Rattle.sums.specs.Sums.{sums_value, SumsSmall}
use Rattle.model.proofs.SumLaws.{choice-small}
use Rattle.model.proofs.PlanLaws.{chosen_length}
use Rattle.model.proofs.CodeLaws.{coded_choice}
use Rattle.model.proofs.HeldLaws.{held-few, held-valid}
use Rattle.sums.proofs.SumsLaws.{choice-sums}
use Rattle.sums.proofs.PickLaws.{held-code-picked, held-code-choice}
use Rattle.limits.proofs.keeps_code.Goals as goal

pub picks_of-picks-requires : goal.picks_of-picks-requires
picks_of-picks-requires c = held-few c.args.book c.requires.held

pub sums_of-requires-clause-picked : goal.sums_of-requires-clause-picked
sums_of-requires-clause-picked c = held-code-picked c.args.book c.requires.held c.requires.code _ c.picks_of-picks.ensures

pub keeps-requires-clause-sums_small : goal.keeps-requires-clause-sums_small
keeps-requires-clause-sums_small c =
    let b = problem_of c.args.book in
    let is = c.sums_of.ensures ∙ ap sums_value (held-code-choice c.args.book c.requires.held c.requires.code _ c.picks_of-picks.ensures) in
    subst SumsSmall (sym is) (choice-sums b (held-valid c.args.book c.requires.held) c.requires.code.choice c.requires.code.of_book)

pub returns : goal.returns
returns c =
    let b = problem_of c.args.book in
    let valid = held-valid c.args.book c.requires.held in
    c.keeps.ensures c.requires.code.choice
    (c.sums_of.ensures ∙ ap sums_value (held-code-choice c.args.book c.requires.held c.requires.code _ c.picks_of-picks.ensures))
    (choice-small b valid c.requires.code.choice c.requires.code.of_book)
    (chosen_length b.loads c.requires.code.choice c.requires.code.of_book)
    ∙ ap (keeps_limits (slots_of b)) (sym (ap (choice_coded b) c.requires.code.is ∙ coded_choice b valid c.requires.code.choice c.requires.code.of_book))
