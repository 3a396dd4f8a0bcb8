-- `pool::pair_finding` meets its contract: past each test that fails, the rules after it decide.
use Prim.Native.Nat.{ℕ, ◌+◌}
use mathlib.Core.Path.{◌≡◌, sym, ap, ◌∙◌}
use lib.Dec.{ltb}
use lib.ListN.{drop}
use borrow.Author.Tests.{lt-ltb, le-ltb}
use Rattle.model.specs.declared.Book.{Book}
use Rattle.model.specs.declared.Refusal.TheVariants.{SlotsOrFinenessDiffer, TooManyLoads, LimitSumTooLarge}
use Rattle.model.specs.Lists.{any}
use Rattle.model.specs.Bounds.{most_loads, most_limit}
use Rattle.model.specs.Refusals.{first}
use Rattle.model.specs.Demand.{N}
use Rattle.model.specs.Values.{problem_of}
use Rattle.model.specs.Pool.{limit_sums, pair_rules}
use Rattle.model.proofs.HeldLaws.{held-few, held_four, held-limit-small}
use Rattle.model.proofs.RefusalLaws.{first_here, first_next, first_last}
use Rattle.pool.specs.Mills.{mills_of}
use Rattle.pool.proofs.HeldPairLaws.{slots_differ, fineness_differs, none_differs, counts_are, sums_are}
use native.Mathlib.Omega.{arith}
use Rattle.pool.proofs.pair_finding.Goals as goal

-- the rules from number k on decide
abbrev Left : Book → Book → ℕ → Type 0
Left a b k = first (pair_rules (mills_of a b)) ≡ first (drop k (pair_rules (mills_of a b)))

pub returns-then-a-b : goal.returns-then-a-b
unfolding pair_rules
returns-then-a-b c =
    sym (first_here SlotsOrFinenessDiffer _ _ (slots_differ c.args.a c.args.b c.requires.held c.requires.held_2 c.if-a-b.true))

pub returns-then-a-b-2 : goal.returns-then-a-b-2
unfolding pair_rules
returns-then-a-b-2 c =
    sym (first_here SlotsOrFinenessDiffer _ _ (fineness_differs c.args.a c.args.b c.requires.held c.requires.held_2 c.if-a-b.false c.if-a-b-2.true))

pub overflow_add-a : goal.overflow_add-a
overflow_add-a c =
    omega (arith, held-few c.args.a c.requires.held, held-few c.args.b c.requires.held_2)

pub returns-then-a-b-gt-LOADS : goal.returns-then-a-b-gt-LOADS
unfolding pair_rules
returns-then-a-b-gt-LOADS c =
    let alike : Left c.args.a c.args.b 1 = first_next SlotsOrFinenessDiffer _ _ (none_differs c.args.a c.args.b c.requires.held c.requires.held_2 c.if-a-b.false c.if-a-b-2.false) in
    let count = counts_are c.args.a c.args.b c.requires.held c.requires.held_2 in
    sym (alike ∙ first_here TooManyLoads _ _ (lt-ltb most_loads (N (problem_of c.args.a) + N (problem_of c.args.b)) (omega (arith, count, c.if-a-b-gt-LOADS.true))))

pub limit_sums-sums-requires-clause-by_index : goal.limit_sums-sums-requires-clause-by_index
limit_sums-sums-requires-clause-by_index c = held-limit-small c.args.a c.requires.held

pub limit_sums-sums-requires-clause-by_index_2 : goal.limit_sums-sums-requires-clause-by_index_2
limit_sums-sums-requires-clause-by_index_2 c = held-limit-small c.args.b c.requires.held_2

pub too_large-requires : goal.too_large-requires
too_large-requires c =
    held_four c.args.a c.requires.held

pub returns-then-too_large : goal.returns-then-too_large
unfolding pair_rules
returns-then-too_large c =
    let alike : Left c.args.a c.args.b 1 = first_next SlotsOrFinenessDiffer _ _ (none_differs c.args.a c.args.b c.requires.held c.requires.held_2 c.if-a-b.false c.if-a-b-2.false) in
    let few : Left c.args.a c.args.b 2 = let count = counts_are c.args.a c.args.b c.requires.held c.requires.held_2 in
    alike ∙ first_next TooManyLoads _ _ (le-ltb most_loads (N (problem_of c.args.a) + N (problem_of c.args.b)) (omega (arith, count, c.if-a-b-gt-LOADS.false))) in
    let large : c.too_large.result ≡ any (ltb most_limit) (limit_sums (mills_of c.args.a c.args.b)) = c.too_large.ensures ∙ ap (any (ltb most_limit)) (sums_are c.args.a c.args.b c.requires.held c.requires.held_2 _ c.limit_sums-sums.ensures) in
    sym (few ∙ first_here LimitSumTooLarge _ _ (sym (large) ∙ c.if-too_large.true))

pub returns : goal.returns
unfolding pair_rules
returns c =
    let alike : Left c.args.a c.args.b 1 = first_next SlotsOrFinenessDiffer _ _ (none_differs c.args.a c.args.b c.requires.held c.requires.held_2 c.if-a-b.false c.if-a-b-2.false) in
    let few : Left c.args.a c.args.b 2 = let count = counts_are c.args.a c.args.b c.requires.held c.requires.held_2 in
    alike ∙ first_next TooManyLoads _ _ (le-ltb most_loads (N (problem_of c.args.a) + N (problem_of c.args.b)) (omega (arith, count, c.if-a-b-gt-LOADS.false))) in
    let large : c.too_large.result ≡ any (ltb most_limit) (limit_sums (mills_of c.args.a c.args.b)) = c.too_large.ensures ∙ ap (any (ltb most_limit)) (sums_are c.args.a c.args.b c.requires.held c.requires.held_2 _ c.limit_sums-sums.ensures) in
    sym (few ∙ first_last LimitSumTooLarge _ (sym (large) ∙ c.if-too_large.false))
