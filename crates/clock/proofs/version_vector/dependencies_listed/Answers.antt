use Rattle.lists.specs.Lists.{tab}
use Rattle.clock.proofs.Listing.{list-none, list_skip, list-more, list_all, no_id_is}
use mathlib.Core.Path.{refl}
use native.Mathlib.Omega.{arith}
use Rattle.clock.proofs.version_vector.dependencies_listed.Goals as goal
use Rattle.clock.proofs.version_vector.dependencies_listed.Goals.{then-seq-ne0, else-seq-ne0}

pub loop-i-init : goal.loop-i-init
unfolding tab
loop-i-init c = list-none c.requires (rw (no_id_is c.default.result c.default.ensures.0 c.default.ensures.1) refl)

pub loop-i-preserved : goal.loop-i-preserved
loop-i-preserved c = elim c.if-seq-ne0.branch [
  | then-seq-ne0 w ↦ rw (w.r-is, w.dependency.ensures) (list-more c.loop-i.invariant (omega arith) w.if-seq-ne0.true)
  | else-seq-ne0 w ↦ rw w.r-is (list_skip c.loop-i.invariant (omega arith) w.if-seq-ne0.false)
]

pub returns : goal.returns
returns c = list_all c.loop-i.invariant c.loop-i-test.false
