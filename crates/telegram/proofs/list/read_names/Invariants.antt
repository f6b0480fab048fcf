use Rattle.telegram.proofs.Walks.{Filling}
use Rattle.telegram.specs.Fields.{sized}
use Rattle.telegram.specs.Reading.{nowhere}
use Rattle.telegram.proofs.list.read_names.Given as goal

abbrev pub invariant-loop-i : goal.invariant-loop-i
invariant-loop-i l = Filling nowhere (sized 1 16 l.s) l.count l.at l.parts l.i l.next
