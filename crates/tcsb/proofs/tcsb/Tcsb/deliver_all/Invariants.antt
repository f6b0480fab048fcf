use Rattle.tcsb.proofs.Flushes.{Flushing}
use Rattle.tcsb.proofs.tcsb.Tcsb.deliver_all.Given as goal

abbrev pub invariant-loop : goal.invariant-loop
invariant-loop l = Flushing l.inbox l.initial.self l.self l.slots l.counter
