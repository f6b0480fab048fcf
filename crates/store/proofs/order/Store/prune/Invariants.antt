use Rattle.store.specs.Words.{event_at}
use Rattle.store.specs.Orders.{above}
use Rattle.store.proofs.Pruning.{Pruning}
use Rattle.store.proofs.order.Store.prune.Given as goal

abbrev pub invariant-loop-slot : goal.invariant-loop-slot
invariant-loop-slot l = Pruning (λ v. above l.entries.entries (event_at l.words v)) l.slot-items l.fn.self.free l.self.order l.self.free l.slot-index
