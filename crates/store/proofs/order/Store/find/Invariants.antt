use lib.ListN.{drop}
use mathlib.Core.List.{map}
use Rattle.store.specs.Words.{event_at}
use Rattle.store.specs.Orders.{find_from}
use mathlib.Core.Path.{◌≡◌}
use Rattle.store.proofs.order.Store.find.Given as goal

abbrev pub invariant-loop-i : goal.invariant-loop-i
invariant-loop-i l = find_from l.id.idx.0 l.id.seq 0 (map (event_at l.words) l.slots) ≡ find_from l.id.idx.0 l.id.seq l.i (drop l.i (map (event_at l.words) l.slots))
