-- `main` meets its contract: what is printed lies within its buffer.
use Rattle.std.proofs.Common.{sym}
use lib.Seq.{length-take-le}
use Rattle.program.proofs.ProgramLaws.{printed-fits}
use Rattle.loadplan.proofs.main.Goals as goal

pub slice_bounds-bytes-end : goal.slice_bounds-bytes-end
slice_bounds-bytes-end c = printed-fits _ _ c.output-printed.ensures

pub slice_bounds-write_all-end-2 : goal.slice_bounds-write_all-end-2
slice_bounds-write_all-end-2 c = let o = c.output-printed in sym (length-take-le o.result.length o.result.bytes (printed-fits _ _ o.ensures))
