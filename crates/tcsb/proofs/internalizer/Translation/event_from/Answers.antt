use Rattle.tcsb.specs.Internalizer.{event_of}
use Rattle.tcsb.proofs.internalizer.Translation.event_from.Goals as goal

pub returns : goal.returns
unfolding event_of
returns c = λ few i. record {
  origin = record { 0 = c.our_place.ensures i };
  number = c.args.body.now.number;
  version = record { entries = c.our_row.ensures few i };
  len = c.args.body.now.operation.len;
  operation = c.operation_of.ensures i;
}
