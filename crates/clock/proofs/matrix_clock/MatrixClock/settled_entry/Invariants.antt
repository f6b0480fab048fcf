use Rattle.clock.specs.Matrix.{cell}
use Rattle.lists.proofs.Turns.{Scanning}
use Rattle.clock.proofs.matrix_clock.MatrixClock.settled_entry.Given as goal

abbrev pub invariant-loop-i : goal.invariant-loop-i
invariant-loop-i l = Scanning (λ k. cell l.self.rows k l.j) l.last l.self.members l.i l.low
