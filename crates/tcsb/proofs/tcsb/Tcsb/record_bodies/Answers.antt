use Rattle.tcsb.proofs.Storing.{store_none, store_more, store_refused, store_all}
use Rattle.tcsb.proofs.tcsb.Tcsb.record_bodies.Goals as goal

pub loop-init : goal.loop-init
loop-init c = store_none

pub returns-in_default : goal.returns-in_default
returns-in_default c = store_refused c.loop.invariant c.loop-test.true c.read_body.ensures c.in_default.is

pub loop-preserved : goal.loop-preserved
loop-preserved c = store_more c.loop.invariant c.loop-test.true c.read_body.ensures c.in-Ok.is c.record_body.ensures

pub returns : goal.returns
returns c = store_all c.loop.invariant c.loop-test.false
