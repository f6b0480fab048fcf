use Prim.Native.Nat.{min}
use mathlib.Core.Bool.{false}
use lib.Dec.{ltb}
use Rattle.lists.specs.Lists.{at}
use Rattle.clock.specs.Matrix.{no_columns}
use Rattle.lists.proofs.Turns.{Making}
use mathlib.Core.Path.{◌≡◌}
use Rattle.clock.proofs.matrix_clock.raised_columns.Given as goal

abbrev pub invariant-loop-j : goal.invariant-loop-j
invariant-loop-j l = (l.n ≡ min l.members 16) × Making false (λ j. ltb (at l.row.entries j) (at l.version.entries j)) no_columns l.r.raised l.n l.j
