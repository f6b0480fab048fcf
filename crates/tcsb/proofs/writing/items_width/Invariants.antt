use mathlib.Core.Path.{◌≡◌}
use lib.ListN.{length}
use Rattle.tcsb.specs.Writing.{AllWritable}
use Rattle.tcsb.proofs.Bodies.{Counting, item_in}
use Rattle.tcsb.proofs.writing.items_width.Given as goal

abbrev pub invariant-loop-slot : goal.invariant-loop-slot
invariant-loop-slot g l = record {
  long : length l.fn.slots.at ≡ 256;
  counting : Counting (AllWritable l.words l.fn.slots l.names) (item_in g.I.Written.bytes l.words l.fn.slots l.names) l.slot-index l.sum;
}
