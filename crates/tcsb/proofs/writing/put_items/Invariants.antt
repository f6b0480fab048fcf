use lib.ListN.{length}
use Rattle.store.specs.Orders.{meant}
use Rattle.tcsb.specs.Writing.{AllWritable}
use Rattle.tcsb.proofs.Bodies.{Placed, item_in}
use Rattle.tcsb.proofs.writing.put_items.Given as goal

abbrev pub invariant-loop-slot : goal.invariant-loop-slot
invariant-loop-slot g l =
    Placed (AllWritable l.words l.fn.slots l.names) (item_in g.I.Written.bytes l.words l.fn.slots l.names) (length (meant l.fn.slots)) l.initial.out l.out l.at l.next l.slot-index
