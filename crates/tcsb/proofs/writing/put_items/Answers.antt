use native.Mathlib.Omega.{arith}
use borrow.Author.Rules.{rules}
use Rattle.tcsb.proofs.Bodies.{placed-none, item_placed, items-placed}
use Rattle.tcsb.proofs.writing.put_items.Goals as goal

pub loop-slot-init : goal.loop-slot-init
loop-slot-init g c = placed-none

pub loop-slot-preserved : goal.loop-slot-preserved
loop-slot-preserved g c =
    let a = c.args in
    item_placed g.I.Written.bytes a.words.now a.slots a.names
    c.meant-slot-items.ensures c.load.ensures c.loop-slot-test.true c.loop-slot.invariant (search rules) c.put-next.ensures

pub returns : goal.returns
returns g c =
    let a = c.args in
    items-placed g.I.Written.bytes a.words.now a.slots a.names c.meant-slot-items.ensures c.loop-slot.invariant (omega arith)
