use Rattle.tcsb.proofs.Delivers.{deliver_gap, deliver_far, deliver_waits, deliver_at}
use Rattle.tcsb.proofs.tcsb.Tcsb.deliver.Goals as goal
use Rattle.tcsb.proofs.tcsb.Tcsb.deliver.Goals.{then-position-ge-SLOTS-via-then-position-ge-SLOTS, then-position-ge-SLOTS-via-else-position-ge-SLOTS+then-not-is_causally_ready}

pub returns-in_default : goal.returns-in_default
returns-in_default c = deliver_gap c.args.id.idx.0 c.args.id.seq c.if-inbox-lt-INBOX.false c.find.ensures c.in_default.is

pub returns-then-position-ge-SLOTS : goal.returns-then-position-ge-SLOTS
returns-then-position-ge-SLOTS c =
    let i = c.args.id in
    elim c.then-position-ge-SLOTS.branch [
      | then-position-ge-SLOTS-via-then-position-ge-SLOTS w ↦ deliver_far i.idx.0 i.seq c.if-inbox-lt-INBOX.false c.find.ensures c.in-Ok.is w.if-position-ge-SLOTS.true
      | then-position-ge-SLOTS-via-else-position-ge-SLOTS+then-not-is_causally_ready w ↦
          deliver_waits i.idx.0 i.seq c.if-inbox-lt-INBOX.false c.find.ensures c.in-Ok.is w.load.ensures c.row-row.ensures w.is_causally_ready.ensures
          w.if-not-is_causally_ready.true
    ]

pub returns : goal.returns
returns c =
    let i = c.args.id in
    deliver_at i.idx.0 i.seq c.if-inbox-lt-INBOX.false c.find.ensures c.in-Ok.is c.load.ensures c.row-row.ensures c.is_causally_ready.ensures
    c.if-not-is_causally_ready.false c.deliver_at.ensures
