use Rattle.tcsb.proofs.Delivers.{next_none, next_at}
use Rattle.tcsb.proofs.tcsb.Tcsb.next_causally_ready.Goals as goal

pub returns-in-None : goal.returns-in-None
returns-in-None c = next_none c.row-row.ensures c.first_ready.ensures c.if-inbox-lt-INBOX.false c.in-None.is

pub returns-in-Some : goal.returns-in-Some
returns-in-Some c = next_at c.row-row.ensures c.first_ready.ensures c.if-inbox-lt-INBOX.false c.in-Some.is c.deliver_at.ensures
