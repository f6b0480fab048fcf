use native.Mathlib.Omega.{arith}
use Rattle.lists.specs.Lists.{at}
use Rattle.leb128.proofs.Spelling.{width_range}
use Rattle.telegram.specs.Meaning.{version_bytes}
use Rattle.telegram.proofs.Widths.{measure_none, measure_more, measure_all}
use Rattle.telegram.proofs.body.entries_width.Goals as goal

pub loop-entry-init : goal.loop-entry-init
loop-entry-init c = measure_none _ _ c.requires

pub overflow_add-sum : goal.overflow_add-sum
overflow_add-sum c = let m = c.loop-entry.invariant in omega (arith, m.small, m.few, c.width-sum.ensures, width_range (at c.args.version.now c.loop-entry.entry-index))

pub loop-entry-preserved : goal.loop-entry-preserved
loop-entry-preserved c =
    measure_more c.loop-entry.invariant c.loop-entry-test.true c.width-sum.ensures
    (omega (arith, c.width-sum.ensures, width_range (at c.args.version.now c.loop-entry.entry-index)))

pub returns : goal.returns
unfolding version_bytes
returns c = measure_all c.loop-entry.invariant c.loop-entry-test.false
