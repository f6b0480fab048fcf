use Rattle.lists.proofs.Laws.{length_mapped}
use Rattle.clock.proofs.Matrices.{same-rows_told}
use borrow.Author.Rules.{rules}
use Rattle.clock.proofs.matrix_clock.MatrixClock.same_rows.Goals as goal

pub returns : goal.returns
returns c = same-rows_told c.all.result c.args.self.now.members c.args.self.now.rows c.args.other.now.rows (search (length_mapped, rules)) (search (length_mapped, rules)) (search rules) (search rules)
