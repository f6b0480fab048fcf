use Rattle.tcsb.proofs.Taking.{put_stored}
use Rattle.tcsb.proofs.receive.put.Goals as goal

pub returns : goal.returns
returns c = put_stored c.insert.ensures
