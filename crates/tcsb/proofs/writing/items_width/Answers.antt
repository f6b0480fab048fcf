use native.Mathlib.Omega.{arith}
use borrow.Author.Rules.{rules}
use Rattle.tcsb.proofs.Bodies.{count_none, item_counted, item_refused, items-counted}
use Rattle.tcsb.proofs.writing.items_width.Goals as goal

pub loop-slot-init : goal.loop-slot-init
loop-slot-init g c = record { long = search rules; counting = count_none }

pub returns-in_err-sum : goal.returns-in_err-sum
returns-in_err-sum g c =
    let a = c.args in
    item_refused g.I.Written.bytes a.words.now a.slots a.names
    c.loop-slot.invariant.long c.meant-slot-items.ensures c.load.ensures c.loop-slot-test.true (c.in_err-sum.ensures.measures)

pub loop-slot-preserved : goal.loop-slot-preserved
loop-slot-preserved g c =
    let a = c.args in
    record {
      long = c.loop-slot.invariant.long;
      counting = item_counted g.I.Written.bytes a.words.now a.slots a.names
          c.meant-slot-items.ensures c.load.ensures c.loop-slot-test.true c.loop-slot.invariant.counting (c.in_ok-sum.ensures.measures);
    }

pub returns : goal.returns
returns g c =
    let a = c.args in
    items-counted g.I.Written.bytes a.words.now a.slots a.names
    c.loop-slot.invariant.long c.meant-slot-items.ensures c.loop-slot.invariant.counting (omega arith)
