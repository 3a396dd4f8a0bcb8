-- `print::write_refusal` meets its contract: four writes in a row make the line.
use Rattle.print.proofs.PrintLaws.{refusal-written}
use Rattle.print.proofs.write_refusal.Goals as goal

pub returns : goal.returns
returns c =
    refusal-written c.args.out.now _ _ _ c.args.number c.args.line
    c.write.ensures
    c.write-2.ensures
    c.write-3.ensures
    c.requires
