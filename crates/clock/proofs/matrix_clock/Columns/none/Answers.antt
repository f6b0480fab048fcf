use mathlib.Core.Bool.{false}
use Rattle.lists.proofs.Laws.{tab-same}
use Rattle.clock.proofs.matrix_clock.Columns.none.Goals as goal

pub returns : goal.returns
returns c = tab-same 16 false
