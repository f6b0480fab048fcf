use Rattle.std.specs.Prelude.{◌≡◌, Err}
use borrow.Author.Rules.{rules}
use Rattle.tcsb.proofs.Delivers.{raised_is, delivers_none, delivers_refused, delivers_done}
use Rattle.tcsb.proofs.tcsb.Tcsb.deliver_at.Goals as goal

pub returns-then-position-ge-SLOTS : goal.returns-then-position-ge-SLOTS
returns-then-position-ge-SLOTS c = delivers_none c.if-position-ge-SLOTS.true

pub returns-in_err-self : goal.returns-in_err-self
returns-in_err-self c =
    let e : c.from_residual.result ≡ Err c.in_err-self.field-0.0 = search rules in
    rw e (delivers_refused c.args.inbox.now c.args.self.now c.load-event.ensures
    (raised_is c.args.self.now.matrix c.load-event.result c.row.result c.join-joined.result c.row.ensures c.join-joined.ensures c.put_row.ensures c.set_by_idx_incremental.ensures)
    c.in_err-self.was)

pub returns : goal.returns
returns c =
    delivers_done c.args.inbox.now c.args.self.now c.load-event.ensures
    (raised_is c.args.self.now.matrix c.load-event.result c.row.result c.join-joined.result c.row.ensures c.join-joined.ensures c.put_row.ensures c.set_by_idx_incremental.ensures)
    c.in_ok-self.was c.remove.ensures
