use native.Mathlib.Omega.{arith}
use native.Mathlib.Nat.{le_antisymm}
use mathlib.Core.Path.{refl, ◌∙◌}
use Rattle.lists.proofs.Turns.{make_none, make_more}
use Rattle.store.proofs.Freeing.{free_all}
use Rattle.store.proofs.order.Slots.first.Goals as goal

pub loop-k-init : goal.loop-k-init
loop-k-init c = make_none (omega arith)

pub loop-k-preserved : goal.loop-k-preserved
loop-k-preserved c = make_more c.loop-k.invariant (omega arith)

pub returns : goal.returns
returns c =
    let l = c.loop-k in
    let m = le_antisymm l.auto.k-end c.loop-k-test.false ∙ c.min-count.ensures in
    let e = free_all c.args.count l.k l.at _ refl l.invariant.so_far m in
    λ i. record { at = e i; count = c.min-count.ensures i }
