use Rattle.tcsb.proofs.Bodies.{exception-measured}
use Rattle.tcsb.proofs.writing.ExceptionWritten.width.Goals as goal

pub returns-clause-measures : goal.returns-clause-measures
returns-clause-measures c = exception-measured c.args.event.now c.args.names c.exception_of.ensures c.exception_width.ensures
