use Rattle.telegram.specs.Meaning.{sized_bytes}
use Rattle.telegram.proofs.Laying.{put_then}
use Rattle.telegram.proofs.field.put_sized.Goals as goal

pub returns : goal.returns
unfolding sized_bytes
returns c = put_then c.requires.0 c.put_number-next.ensures c.put_text.ensures
