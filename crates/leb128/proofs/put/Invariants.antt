use Rattle.leb128.proofs.Laws.{Putting}
use Rattle.leb128.proofs.put.Given as goal

abbrev pub invariant-loop-i : goal.invariant-loop-i
invariant-loop-i l = Putting l.initial.out l.out l.at l.value l.i l.n
