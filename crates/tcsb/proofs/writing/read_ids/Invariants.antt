use Rattle.telegram.specs.Reading.{exception}
use Rattle.tcsb.proofs.Wanting.{Excepting}
use Rattle.tcsb.proofs.writing.read_ids.Given as goal

abbrev pub invariant-loop : goal.invariant-loop
invariant-loop l = Excepting l.row (exception l.since.head.names.count l.s) l.since.count l.since.exceptions l.ids l.counter l.next
