use Rattle.std.proofs.Common.{◌≡◌, ◌+◌, drop}
use Rattle.vector_text.specs.Text.{number_from, number_at_of}
use Rattle.vector_text.proofs.number_at.Given as goal

abbrev pub invariant-loop-i : goal.invariant-loop-i
invariant-loop-i l = number_at_of l.text l.at ≡ number_from l.value (l.start + l.i) (drop l.i l.b-items)
