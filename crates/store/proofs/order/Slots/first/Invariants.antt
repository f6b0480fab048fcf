use Rattle.lists.proofs.Turns.{Making}
use Rattle.store.proofs.order.Slots.first.Given as goal

abbrev pub invariant-loop-k : goal.invariant-loop-k
invariant-loop-k l = Making 0 (λ k. k) l.initial.at l.at 256 l.k
