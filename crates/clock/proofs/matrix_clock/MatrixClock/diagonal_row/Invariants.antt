use Prim.Native.Nat.{min}
use Rattle.clock.specs.Entries.{zero_entries}
use Rattle.clock.specs.Matrix.{cell}
use Rattle.lists.proofs.Turns.{Making}
use mathlib.Core.Path.{◌≡◌}
use Rattle.clock.proofs.matrix_clock.MatrixClock.diagonal_row.Given as goal

abbrev pub invariant-loop-j : goal.invariant-loop-j
invariant-loop-j l = (l.n ≡ min l.self.members 16) × Making 0 (λ k. cell l.self.rows k k) zero_entries l.r.entries l.n l.j
