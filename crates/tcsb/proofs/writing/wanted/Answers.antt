use borrow.Author.Rules.{rules}
use Rattle.tcsb.specs.Writing.{wanted_by}
use Rattle.tcsb.proofs.Wanting.{want_none, want_more, want_not, meant_few, test_told}
use Rattle.tcsb.proofs.writing.wanted.Goals as goal
use Rattle.tcsb.proofs.writing.wanted.Goals.{then-is_wanted, else-is_wanted}

pub loop-slot-init : goal.loop-slot-init
loop-slot-init c = record { long = search rules; wanting = want_none c.none-slots.result c.none-slots.ensures }

pub loop-slot-preserved : goal.loop-slot-preserved
loop-slot-preserved c =
    let a = c.args in
    let l = c.loop-slot.invariant in
    let t = wanted_by a.requester.0 a.requested.entries a.ids.now in
    record {
      long = l.long;
      wanting = elim c.if-is_wanted.branch [
        | then-is_wanted w ↦ rw w.slots-is (want_more l.wanting (meant_few a.order l.long c.meant-slot-items.ensures) c.loop-slot-test.true w.push.ensures
            (λ h. test_told t c.load.ensures c.is_wanted.ensures w.if-is_wanted.true))
        | else-is_wanted w ↦ rw w.slots-is (want_not l.wanting c.loop-slot-test.true (λ h. test_told t c.load.ensures c.is_wanted.ensures w.if-is_wanted.false))
      ];
    }
