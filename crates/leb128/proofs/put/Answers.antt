use Rattle.leb128.proofs.Laws.{put_none, put_room, put_more, put_last}
use native.Mathlib.Omega.{arith}
use Rattle.leb128.proofs.put.Goals as goal

pub loop-i-init : goal.loop-i-init
loop-i-init c = put_none _ _ _ (omega arith) c.requires

pub returns-then-n-lt128 : goal.returns-then-n-lt128
returns-then-n-lt128 c = put_last c.loop-i.invariant c.if-n-lt128.true

pub loop-i-preserved : goal.loop-i-preserved
loop-i-preserved c = put_more c.loop-i.invariant c.if-n-lt128.false

pub returns : goal.returns
returns c = absurd (omega (arith, put_room c.loop-i.invariant, c.loop-i-test.false))
