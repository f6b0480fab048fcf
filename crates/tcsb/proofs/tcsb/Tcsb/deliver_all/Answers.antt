use Rattle.tcsb.proofs.Flushes.{flush_skip, flush_more_lem, flush_ready, flush_all}
use Rattle.tcsb.proofs.tcsb.Tcsb.deliver_all.Goals as goal
use Rattle.tcsb.proofs.tcsb.Tcsb.deliver_all.Goals.{then-position-lt-SLOTS, else-position-lt-SLOTS}

pub returns-in_default : goal.returns-in_default
returns-in_default c = flush_ready c.loop.invariant c.row-row.ensures c.first_ready.ensures c.in_default.is

pub loop-preserved : goal.loop-preserved
loop-preserved c =
    elim c.if-position-lt-SLOTS.branch [
      | then-position-lt-SLOTS w ↦ rw (w.self-is, w.slots-is)
          (flush_more_lem c.loop.invariant c.loop-test.true c.row-row.ensures c.first_ready.ensures c.in-Some.is w.push.ensures w.deliver_at.ensures)
      | else-position-lt-SLOTS w ↦ rw (w.self-is, w.slots-is)
          (flush_skip c.loop.invariant c.loop-test.true c.row-row.ensures c.first_ready.ensures c.in-Some.is w.if-position-lt-SLOTS.false)
    ]

pub returns : goal.returns
returns c = flush_all c.loop.invariant c.loop-test.false
