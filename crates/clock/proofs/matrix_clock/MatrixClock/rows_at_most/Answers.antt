use Rattle.lists.proofs.Laws.{length_mapped}
use Rattle.clock.proofs.Matrices.{rows-at_most_told}
use borrow.Author.Rules.{rules}
use Rattle.clock.proofs.matrix_clock.MatrixClock.rows_at_most.Goals as goal

pub returns : goal.returns
returns c = rows-at_most_told c.all.result c.args.self.now.members c.args.self.now.rows c.args.top.entries (search (length_mapped, rules)) (search rules) (search rules)
