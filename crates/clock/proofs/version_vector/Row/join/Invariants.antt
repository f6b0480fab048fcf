use Prim.Native.Nat.{max}
use Rattle.clock.proofs.version_vector.Row.join.Given as goal

abbrev pub ghost-merge : goal.ghost-merge
ghost-merge a = max
