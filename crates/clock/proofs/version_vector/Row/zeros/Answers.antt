use Rattle.lists.proofs.Laws.{tab-same}
use Rattle.clock.proofs.version_vector.Row.zeros.Goals as goal

pub returns : goal.returns
returns c = tab-same 16 0
