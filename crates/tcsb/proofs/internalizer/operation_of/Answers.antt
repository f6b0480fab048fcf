use Rattle.tcsb.proofs.Placing.{bytes_kept}
use Rattle.tcsb.proofs.internalizer.operation_of.Goals as goal

pub returns : goal.returns
returns c = rw c.of-text.ensures at (bytes_kept c.of-text.result.now c.copy_from_slice.new.self c.min-len.result (cc) c.copy_from_slice.ensures.after)
