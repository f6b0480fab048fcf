use Rattle.lists.proofs.Turns.{scan_none, scan_more, scan_found, scan_all}
use native.Mathlib.Omega.{arith}
use mathlib.Core.Path.{sym, ◌∙◌}
use Rattle.clock.proofs.matrix_clock.MatrixClock.settled_entry.Goals as goal

pub loop-i-init : goal.loop-i-init
loop-i-init c = rw c.cell-low.ensures scan_none

pub returns-then-seq-last : goal.returns-then-seq-last
returns-then-seq-last c = scan_found c.loop-i.invariant (omega arith) (sym c.cell-seq.ensures ∙ c.if-seq-last.true)

pub loop-i-preserved : goal.loop-i-preserved
loop-i-preserved c = rw (c.min-low.ensures, c.cell-seq.ensures) (scan_more c.loop-i.invariant (omega arith) (λ e. c.if-seq-last.false (c.cell-seq.ensures ∙ e)))

pub returns : goal.returns
returns c = scan_all c.loop-i.invariant c.loop-i-test.false
