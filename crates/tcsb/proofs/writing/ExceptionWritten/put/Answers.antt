use Rattle.tcsb.proofs.Bodies.{exception-puts}
use Rattle.tcsb.proofs.writing.ExceptionWritten.put.Goals as goal

pub returns : goal.returns
returns c = exception-puts c.args.event.now c.args.names c.exception_of.ensures c.write_exception.ensures c.unwrap_or.ensures
