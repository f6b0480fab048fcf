use lib.ListN.{length}
use Rattle.telegram.proofs.Laying.{PuttingEach}
use Rattle.telegram.proofs.Widths.{entry_bytes}
use Rattle.telegram.proofs.body.put_entries.Given as goal

abbrev pub invariant-loop-entry : goal.invariant-loop-entry
invariant-loop-entry l = PuttingEach (entry_bytes l.version) (length l.version) l.initial.out l.out l.at l.next l.entry-index
