use borrow.Author.Rules.{rules}
use mathlib.Core.Path.{◌≡◌}
use native.Mathlib.Omega.{arith}
use Rattle.std.specs.Prelude.{Err}
use Rattle.tcsb.proofs.Writes.{unsent_short}
use Rattle.tcsb.proofs.Sends.{sent-long, sent_last, sent_full, sent_unwritten, sent-done}
use Rattle.tcsb.proofs.tcsb.Tcsb.send.Goals as goal
use Rattle.tcsb.proofs.tcsb.Tcsb.send.Goals.{then-outbox-lt-OUTBOX-via-then-outbox-lt-OUTBOX, then-outbox-lt-OUTBOX-via-else-outbox-lt-OUTBOX+then-operation-gt-OPERATION}

pub returns-then-outbox-lt-OUTBOX : goal.returns-then-outbox-lt-OUTBOX
returns-then-outbox-lt-OUTBOX c =
    let a = c.args in
    λ p. elim c.then-outbox-lt-OUTBOX.branch [
      | then-outbox-lt-OUTBOX-via-then-outbox-lt-OUTBOX w ↦ unsent_short _ w.if-outbox-lt-OUTBOX.true
      | then-outbox-lt-OUTBOX-via-else-outbox-lt-OUTBOX+then-operation-gt-OPERATION w ↦ sent-long a.self.now _ p _ _ a.operation.now
          w.if-outbox-lt-OUTBOX.false w.if-operation-gt-OPERATION.true
    ]

pub returns-then-get : goal.returns-then-get
returns-then-get c =
    let a = c.args in
    λ p. sent_last a.self.now _ p _ _ a.operation.now c.if-outbox-lt-OUTBOX.false c.if-operation-gt-OPERATION.false c.row.ensures c.get.ensures (omega (arith, c.if-get.true))

pub returns-in_err-room_for : goal.returns-in_err-room_for
returns-in_err-room_for c =
    let a = c.args in
    let e : c.from_residual.result ≡ Err c.in_err-room_for.field-0.0 = search (rules, c.from_residual.ensures) in
    λ p. rw e (sent_full a.self.now _ p _ _ a.operation.now c.if-outbox-lt-OUTBOX.false c.if-operation-gt-OPERATION.false c.row.ensures c.get.ensures
    (omega (arith, c.if-get.false, c.get.type_inv)) c.next_event-event.ensures c.id.ensures c.new_in.ensures c.room_for.ensures c.in_err-room_for.was)

pub returns-in_err-end : goal.returns-in_err-end
returns-in_err-end c =
    let a = c.args in
    let e : c.from_residual-in_err-end.result ≡ Err c.in_err-end.field-0.0 = search (rules, c.from_residual-in_err-end.ensures) in
    λ p. rw e (sent_unwritten a.self.now _ p _ _ a.operation.now c.if-outbox-lt-OUTBOX.false c.if-operation-gt-OPERATION.false c.row.ensures c.get.ensures
    (omega (arith, c.if-get.false, c.get.type_inv)) c.next_event-event.ensures c.id.ensures c.new_in.ensures c.room_for.ensures c.in_ok-room_for.was
    c.body_of.ensures c.write_event.ensures c.in_err-end.was)

pub returns : goal.returns
returns c =
    let a = c.args in
    λ p. sent-done a.self.now _ p _ _ a.operation.now c.if-outbox-lt-OUTBOX.false c.if-operation-gt-OPERATION.false c.row.ensures c.get.ensures
    (omega (arith, c.if-get.false, c.get.type_inv)) c.next_event-event.ensures c.id.ensures c.new_in.ensures c.room_for.ensures c.in_ok-room_for.was
    c.body_of.ensures c.write_event.ensures c.put.ensures c.put_row.ensures c.in_ok-end.was
