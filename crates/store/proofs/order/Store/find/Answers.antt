use native.Mathlib.Nat.{le_antisymm}
use Rattle.store.proofs.Finding.{find_next, find_end}
use mathlib.Core.Path.{refl, sym, ◌∙◌}
use Rattle.store.proofs.order.Store.find.Goals as goal

pub loop-i-init : goal.loop-i-init
loop-i-init c = refl

pub returns-in-Equal : goal.returns-in-Equal
returns-in-Equal c =
    rw (← c.meant-slots.ensures) (sym (c.loop-i.invariant ∙ find_next c.args.id _ _ _ _ _ _ c.loop-i-test.true c.id_at.ensures c.compare.ensures c.in-Equal.is))

pub returns-in-Greater : goal.returns-in-Greater
returns-in-Greater c =
    rw (← c.meant-slots.ensures) (sym (c.loop-i.invariant ∙ find_next c.args.id _ _ _ _ _ _ c.loop-i-test.true c.id_at.ensures c.compare.ensures c.in-Greater.is))

pub loop-i-preserved : goal.loop-i-preserved
loop-i-preserved c = c.loop-i.invariant ∙ find_next c.args.id _ _ _ _ _ _ c.loop-i-test.true c.id_at.ensures c.compare.ensures c.in-Less.is

pub returns : goal.returns
returns c =
    rw (← c.meant-slots.ensures, ← le_antisymm c.loop-i.auto.i-end c.loop-i-test.false) (sym (c.loop-i.invariant ∙ find_end c.args.id _ _ _ c.loop-i-test.false))
