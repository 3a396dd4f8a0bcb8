-- `stretch::part_of` meets its contract: one law for each branch.
use Rattle.stretch.proofs.ReachLaws.{part_yes, part_no}
use Rattle.stretch.proofs.part_of.Goals as goal

pub returns-then-covers : goal.returns-then-covers
returns-then-covers c = search part_yes

pub returns : goal.returns
returns c = search part_no
