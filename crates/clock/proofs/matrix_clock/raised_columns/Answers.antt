use Rattle.lists.specs.Lists.{at}
use Rattle.clock.specs.Matrix.{no_columns}
use Rattle.lists.proofs.Laws.{length-tab, over_clamp}
use Rattle.lists.proofs.Turns.{make_none, make_more, make_all}
use mathlib.Core.Bool.{Bool, false}
use lib.Dec.{ltb}
use native.Mathlib.Omega.{arith}
use mathlib.Core.Path.{◌∙◌}
use Rattle.clock.proofs.matrix_clock.raised_columns.Goals as goal

pub loop-j-init : goal.loop-j-init
loop-j-init c = (c.min-n.ensures, rw c.none-r.ensures (make_none (omega (arith, c.min-n.ensures, length-tab {A = Bool} 16 (λ k. false)))))

pub loop-j-preserved : goal.loop-j-preserved
loop-j-preserved c = (c.loop-j.invariant.0, make_more c.loop-j.invariant.1 (omega arith))

pub returns : goal.returns
returns c =
    make_all c.loop-j.invariant.1 c.loop-j-test.false
    ∙ rw c.loop-j.invariant.0 (over_clamp false c.args.members 16 (λ j. ltb (at c.args.row.entries j) (at c.args.version.entries j)) no_columns (length-tab 16 (λ k. false)))
