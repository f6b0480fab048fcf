use borrow.Author.Rules.{rules}
use Rattle.tcsb.proofs.Bodies.{body-measured}
use Rattle.tcsb.proofs.writing.BodyWritten.width.Goals as goal

pub returns-clause-measures : goal.returns-clause-measures
returns-clause-measures c = body-measured c.args.event.now c.args.names (search rules) c.body_of.ensures c.body_width.ensures
