use Prim.Native.Nat.{min}
use Rattle.lists.specs.Lists.{at}
use Rattle.clock.specs.Matrix.{column}
use Rattle.lists.proofs.Turns.{Making}
use mathlib.Core.Path.{◌≡◌}
use Rattle.clock.proofs.matrix_clock.MatrixClock.settled_cut.Given as goal

abbrev pub invariant-loop-j : goal.invariant-loop-j
invariant-loop-j l =
    (l.n ≡ min l.self.members 16)
    × Making 0 (λ k. column l.self.rows l.self.members l.columns.raised k (at l.cut.entries k)) l.cut.entries l.r.entries l.n l.j
