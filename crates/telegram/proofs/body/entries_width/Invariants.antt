use lib.ListN.{length}
use Rattle.telegram.proofs.Widths.{Measuring, entry_bytes}
use Rattle.telegram.proofs.body.entries_width.Given as goal

abbrev pub invariant-loop-entry : goal.invariant-loop-entry
invariant-loop-entry l = Measuring (entry_bytes l.version) (length l.version) l.entry-index l.sum
