use native.Mathlib.Omega.{arith}
use Rattle.store.proofs.Putting.{hit-below, gap_within, not_put, replaced, inserted}
use borrow.Author.Rules.{rules}
use Rattle.store.proofs.order.Store.insert.Goals as goal
use Rattle.store.proofs.order.Store.insert.Goals.{then-self-eq0-via-then-self-eq0}
use Rattle.store.proofs.order.Store.insert.Goals.{then-self-eq0-via-else-self-eq0+then-self-gt-SLOTS}
use Rattle.store.proofs.order.Store.insert.Goals.{then-self-eq0-via-else-self-eq0+else-self-gt-SLOTS+then-self-ge-SLOTS}

pub bounds-self-i : goal.bounds-self-i
bounds-self-i c = let a = c.args in (hit-below a.words.now a.self.now a.event (search rules) (search rules) c.in-Ok.is).1

pub returns-then-self-eq0 : goal.returns-then-self-eq0
returns-then-self-eq0 c = let a = c.args in
    not_put a.words.now a.self.now a.event (search rules) (search rules) c.in-Err.is (λ n G. elim c.then-self-eq0.branch [
      | then-self-eq0-via-then-self-eq0 w ↦ omega (arith, G.counts)
      | then-self-eq0-via-else-self-eq0+then-self-gt-SLOTS w ↦ absurd (omega (arith, G.counts, G.size))
      | then-self-eq0-via-else-self-eq0+else-self-gt-SLOTS+then-self-ge-SLOTS w ↦ omega (arith, G.counts, G.size)
    ])

pub put_at-requires : goal.put_at-requires
put_at-requires c = let a = c.args in (gap_within a.words.now a.self.now a.event (search rules) (search rules) c.in-Err.is, search rules)

pub returns-in-Ok : goal.returns-in-Ok
returns-in-Ok c = let a = c.args in
    replaced a.words.now a.self.now a.event (search rules) (search rules) _ (search rules) c.in-Ok.is c.save.ensures

pub returns-else-self-ge-SLOTS : goal.returns-else-self-ge-SLOTS
returns-else-self-ge-SLOTS c = let a = c.args in
    rw (c.put_at.ensures, c.pop-slot.ensures.rest, c.pop-slot.ensures.slot)
    (inserted a.words.now a.self.now a.event (search rules) (search rules) _ (search rules) c.in-Err.is (search rules) (omega arith) (omega arith) (omega arith)
    (rw c.pop-slot.ensures.slot at c.save-in-Err.ensures))
