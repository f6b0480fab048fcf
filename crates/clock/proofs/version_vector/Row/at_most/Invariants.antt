use Prim.Native.Nat.{min}
use lib.Dec.{leb}
use Rattle.lists.specs.Lists.{at}
use Rattle.lists.proofs.Turns.{Passing}
use mathlib.Core.Path.{◌≡◌}
use Rattle.clock.proofs.version_vector.Row.at_most.Given as goal

abbrev pub invariant-loop-i : goal.invariant-loop-i
invariant-loop-i l = (l.n ≡ min l.members 16) × Passing (λ j. leb (at l.self.entries j) (at l.other.entries j)) l.n l.i
