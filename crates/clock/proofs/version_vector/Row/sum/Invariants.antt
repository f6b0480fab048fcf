use Prim.Native.Nat.{min}
use Rattle.lists.proofs.Turns.{Summing}
use mathlib.Core.Path.{◌≡◌}
use Rattle.clock.proofs.version_vector.Row.sum.Given as goal

abbrev pub invariant-loop-i : goal.invariant-loop-i
invariant-loop-i l = (l.n ≡ min l.members 16) × Summing l.self.entries l.n l.i l.total
