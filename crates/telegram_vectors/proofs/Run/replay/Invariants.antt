use Rattle.std.proofs.Common.{◌+◌, ◌≤◌, length}
use Rattle.std.specs.Slice.Iter.{split_inclusive_rest}
use Rattle.telegram_vectors.proofs.Run.replay.Given as goal

abbrev pub invariant-loop-line : goal.invariant-loop-line
invariant-loop-line l = l.self.lines + length (split_inclusive_rest l.line-iterator) ≤ l.initial.self.lines + length l.text
