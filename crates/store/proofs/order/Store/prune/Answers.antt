use lib.ListN.{length}
use native.Mathlib.Omega.{arith}
use mathlib.Core.Path.{◌≡◌, ap, sym, ◌∙◌}
use Prim.Native.Nat.{min}
use borrow.Author.Rules.{rules}
use Rattle.store.proofs.Moving.{length-meant}
use Rattle.store.proofs.Pruning.{prune_none, prune_keeps, prune_frees, not_pruned, pruned}
use Rattle.store.proofs.order.Store.prune.Goals as goal
use Rattle.store.proofs.order.Store.prune.Goals.{then-old-gt-SLOTS-via-then-old-gt-SLOTS, then-old-gt-SLOTS-via-else-old-gt-SLOTS+then-old-self, then-is_above, else-is_above}

pub returns-then-old-gt-SLOTS : goal.returns-then-old-gt-SLOTS
returns-then-old-gt-SLOTS c =
    not_pruned _ _ _ (λ n G. elim c.then-old-gt-SLOTS.branch [
      | then-old-gt-SLOTS-via-then-old-gt-SLOTS w ↦ omega (arith, G.counts, G.size)
      | then-old-gt-SLOTS-via-else-old-gt-SLOTS+then-old-self w ↦ omega (arith, G.counts, G.size)
    ])

pub loop-slot-init : goal.loop-slot-init
loop-slot-init c = prune_none _ _ c.args.self.now.order.at c.args.self.now.free (search rules) (search rules)

pub push-requires : goal.push-requires
push-requires c =
    let n : length c.meant-slot-items.result.now ≡ min c.args.self.now.order.count 256 = ap length c.meant-slot-items.ensures ∙ length-meant c.args.self.now.order (search rules) in
    omega (arith, c.loop-slot.invariant.few)

pub push-requires-else-is_above : goal.push-requires-else-is_above
push-requires-else-is_above c =
    let n : length c.meant-slot-items.result.now ≡ min c.args.self.now.order.count 256 = ap length c.meant-slot-items.ensures ∙ length-meant c.args.self.now.order (search rules) in
    omega (arith, c.loop-slot.invariant.all)

pub loop-slot-preserved : goal.loop-slot-preserved
loop-slot-preserved c =
    let P = c.loop-slot.invariant in
    elim c.if-is_above.branch [
      | then-is_above w ↦ rw (w.self-is, w.push.ensures) (prune_keeps P c.loop-slot-test.true (search rules) (sym c.is_above.ensures ∙ w.if-is_above.true))
      | else-is_above w ↦ rw (w.self-is, w.push-else-is_above.ensures) (prune_frees P c.loop-slot-test.true (search rules) (sym c.is_above.ensures ∙ w.if-is_above.false))
    ]

pub returns : goal.returns
returns c =
    let a = c.args in
    let l = c.loop-slot in
    let n = length-meant a.self.now.order (search rules) in
    pruned a.words.now a.self.now a.entries.entries l.self.order l.self.free
    (rw c.meant-slot-items.ensures at l.invariant) (rw c.meant-slot-items.ensures at c.loop-slot-test.false) (omega arith)
