use Rattle.std.proofs.Common.{◌≤◌}
use Rattle.leb128_vectors.proofs.replay.Given as goal

abbrev pub invariant-loop-i : goal.invariant-loop-i
invariant-loop-i l = l.agreed ≤ l.i-iterator.count
