use Rattle.std.proofs.Common.{◌≤◌, length}
use Rattle.telegram_vectors.proofs.read_full.Given as goal

abbrev pub invariant-loop : goal.invariant-loop
invariant-loop l = l.n ≤ length l.buffer
