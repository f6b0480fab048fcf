use native.Mathlib.Omega.{arith}
use Rattle.store.proofs.Putting.{not_removed, removed}
use borrow.Author.Rules.{rules}
use Rattle.store.proofs.order.Store.remove.Goals as goal
use Rattle.store.proofs.order.Store.remove.Goals.{then-self-gt-SLOTS-via-then-self-gt-SLOTS}
use Rattle.store.proofs.order.Store.remove.Goals.{then-self-gt-SLOTS-via-else-self-gt-SLOTS+then-self-position}
use Rattle.store.proofs.order.Store.remove.Goals.{then-self-gt-SLOTS-via-else-self-gt-SLOTS+else-self-position+then-self-ge-SLOTS}

pub returns-then-self-gt-SLOTS : goal.returns-then-self-gt-SLOTS
returns-then-self-gt-SLOTS c =
    not_removed _ _ (λ n p G. elim c.then-self-gt-SLOTS.branch [
      | then-self-gt-SLOTS-via-then-self-gt-SLOTS w ↦ absurd (omega (arith, G.counts, G.size))
      | then-self-gt-SLOTS-via-else-self-gt-SLOTS+then-self-position w ↦ omega arith
      | then-self-gt-SLOTS-via-else-self-gt-SLOTS+else-self-position+then-self-ge-SLOTS w ↦ omega (arith, G.counts, G.size)
    ])

pub returns : goal.returns
returns c =
    rw (c.push.ensures, c.take_out-slot.ensures.rest, c.take_out-slot.ensures.slot)
    (removed c.args.self.now c.args.position (search rules) (search rules) (omega arith) (omega arith) (omega arith))
