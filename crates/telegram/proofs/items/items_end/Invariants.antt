use Rattle.telegram.proofs.Walks.{Walking}
use Rattle.telegram.proofs.items.items_end.Given as goal

abbrev pub invariant-loop : goal.invariant-loop
invariant-loop g l = Walking (g.I.Item.read_of l.names l.s) l.count l.at l.counter l.next
