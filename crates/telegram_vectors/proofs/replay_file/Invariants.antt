use Rattle.std.proofs.Common.{◌≡◌, ◌+◌, ◌*◌, ◌≤◌, length}
use Rattle.telegram_vectors.proofs.replay_file.Given as goal

abbrev pub invariant-loop-turn : goal.invariant-loop-turn
invariant-loop-turn l = (l.have ≤ length l.buffer) × (length l.buffer ≡ length l.initial.buffer) × (l.run.lines ≤ l.initial.run.lines + l.turn * length l.initial.buffer)
