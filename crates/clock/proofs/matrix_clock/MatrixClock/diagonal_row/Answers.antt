use Rattle.clock.specs.Entries.{zero_entries}
use Rattle.clock.specs.Matrix.{cell}
use Rattle.lists.proofs.Laws.{length-tab, over_clamp}
use Rattle.lists.proofs.Turns.{make_none, make_more, make_all}
use Prim.Native.Nat.{ℕ}
use native.Mathlib.Omega.{arith}
use mathlib.Core.Path.{◌∙◌}
use Rattle.clock.proofs.matrix_clock.MatrixClock.diagonal_row.Goals as goal

pub loop-j-init : goal.loop-j-init
loop-j-init c = (c.min-n.ensures, rw c.zeros-r.ensures (make_none (omega (arith, c.min-n.ensures, length-tab {A = ℕ} 16 (λ k. 0)))))

pub loop-j-preserved : goal.loop-j-preserved
loop-j-preserved c = (c.loop-j.invariant.0, rw c.cell.ensures (make_more c.loop-j.invariant.1 (omega arith)))

pub returns : goal.returns
returns c =
    make_all c.loop-j.invariant.1 c.loop-j-test.false
    ∙ rw c.loop-j.invariant.0 (over_clamp 0 c.args.self.now.members 16 (λ k. cell c.args.self.now.rows k k) zero_entries (length-tab 16 (λ k. 0)))
