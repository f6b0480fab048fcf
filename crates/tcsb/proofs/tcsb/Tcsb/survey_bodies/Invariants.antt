use Rattle.tcsb.proofs.Surveying.{SurveyedSo}
use Rattle.tcsb.proofs.tcsb.Tcsb.survey_bodies.Given as goal

abbrev pub invariant-loop : goal.invariant-loop
invariant-loop l = SurveyedSo l.inbox l.outbox l.self l.row l.s l.batch.bodies l.batch.head.names.count l.batch.count l.survey l.next l.counter
