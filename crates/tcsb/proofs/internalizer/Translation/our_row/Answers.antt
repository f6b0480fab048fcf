use native.Mathlib.Omega.{arith}
use Rattle.tcsb.proofs.Placing.{move_none, move_more, move_all}
use Rattle.tcsb.proofs.internalizer.Translation.our_row.Goals as goal

pub loop-p-init : goal.loop-p-init
loop-p-init c = λ few. move_none c.zeros-row.ensures

pub loop-p-preserved : goal.loop-p-preserved
loop-p-preserved c = λ few. move_more (c.loop-p.invariant few) (omega arith) c.our_place.ensures c.set-row.ensures

pub returns : goal.returns
returns c = λ few. move_all (c.loop-p.invariant few) (omega arith)
