use Rattle.tcsb.proofs.Storing.{StoredSo}
use Rattle.tcsb.proofs.tcsb.Tcsb.record_bodies.Given as goal

abbrev pub invariant-loop : goal.invariant-loop
invariant-loop l =
    StoredSo l.initial.inbox l.inbox l.initial.outbox l.outbox l.initial.self l.row l.s l.batch.bodies l.batch.head.names.count l.batch.count l.self l.next l.counter
