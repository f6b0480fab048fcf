use Prim.Native.Nat.{◌≤◌}
use mathlib.Core.Path.{◌≡◌}
use lib.ListN.{length}
use Rattle.tcsb.specs.Writing.{wanted_by}
use Rattle.tcsb.proofs.Wanting.{Wanting}
use Rattle.tcsb.proofs.writing.wanted.Given as goal

abbrev pub invariant-loop-slot : goal.invariant-loop-slot
invariant-loop-slot l = record {
  long : length l.fn.order.at ≡ 256;
  wanting : Wanting ((l.ids.count ≤ 256) × (l.fn.order.count ≤ 256)) (wanted_by l.requester.0 l.requested.entries l.ids) l.words l.slot-items l.slots l.slot-index;
}
