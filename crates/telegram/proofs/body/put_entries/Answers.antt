use lib.ListN.{length}
use Rattle.telegram.specs.Meaning.{version_bytes}
use Rattle.telegram.proofs.Laying.{each_none, each-room, each_more, each_all}
use Rattle.telegram.proofs.Widths.{entry_bytes}
use Rattle.telegram.proofs.body.put_entries.Goals as goal

pub loop-entry-init : goal.loop-entry-init
unfolding version_bytes
loop-entry-init c = let v = c.args.version.now in each_none (entry_bytes v) (length v) c.args.out.now c.args.at c.requires

pub put_number-next-requires : goal.put_number-next-requires
put_number-next-requires c = each-room c.loop-entry.invariant c.loop-entry-test.true

pub loop-entry-preserved : goal.loop-entry-preserved
loop-entry-preserved c = each_more c.loop-entry.invariant c.loop-entry-test.true c.put_number-next.ensures

pub returns : goal.returns
unfolding version_bytes
returns c = each_all c.loop-entry.invariant c.loop-entry-test.false
