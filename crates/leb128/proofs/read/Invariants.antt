use Rattle.leb128.proofs.Laws.{Reading}
use Rattle.leb128.proofs.read.Given as goal

abbrev pub invariant-loop-i : goal.invariant-loop-i
invariant-loop-i l = Reading l.s l.at l.i l.scale l.sum
