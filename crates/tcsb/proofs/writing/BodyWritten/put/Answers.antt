use borrow.Author.Rules.{rules}
use Rattle.tcsb.proofs.Bodies.{body-puts}
use Rattle.tcsb.proofs.writing.BodyWritten.put.Goals as goal

pub returns : goal.returns
returns c = body-puts c.args.event.now c.args.names (search rules) c.body_of.ensures c.write_body.ensures c.unwrap_or.ensures
