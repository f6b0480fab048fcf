use Prim.Native.Nat.{min}
use Rattle.clock.proofs.version_vector.Row.meet.Given as goal

abbrev pub ghost-merge : goal.ghost-merge
ghost-merge a = min
