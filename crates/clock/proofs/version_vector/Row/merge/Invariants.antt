use Prim.Native.Nat.{min}
use Rattle.lists.specs.Lists.{at}
use Rattle.lists.proofs.Turns.{Making}
use mathlib.Core.Path.{◌≡◌}
use Rattle.clock.proofs.version_vector.Row.merge.Given as goal

abbrev pub invariant-loop-i : goal.invariant-loop-i
invariant-loop-i g l =
    (l.n ≡ min l.members 16) × Making 0 (λ j. g.by (at l.self.entries j) (at l.other.entries j)) l.self.entries l.r.entries l.n l.i
