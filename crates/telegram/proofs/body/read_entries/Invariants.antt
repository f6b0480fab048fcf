use Rattle.telegram.proofs.Walks.{Filling}
use Rattle.telegram.specs.Fields.{number}
use Rattle.telegram.proofs.body.read_entries.Given as goal

abbrev pub invariant-loop-i : goal.invariant-loop-i
invariant-loop-i l = Filling 0 (number l.s) l.count l.at l.entries l.i l.next
