use Rattle.lists.proofs.Laws.{tab-same}
use Rattle.tcsb.proofs.internalizer.Translation.none.Goals as goal

pub returns : goal.returns
returns c = λ i. record { count = 0; places = tab-same 16 0 i }
