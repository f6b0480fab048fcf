use Rattle.leb128.proofs.Laws.{begin, scale_most, group_most, ends, large, goes, over}
use native.Mathlib.Omega.{arith}
use mathlib.Core.Path.{sym}
use borrow.Author.Rules.{rules}
use Rattle.leb128.proofs.read.Goals as goal

pub loop-i-init : goal.loop-i-init
loop-i-init c = begin _ _

pub last-requires : goal.last-requires
last-requires c =
    let r = c.loop-i.invariant in
    (search rules, scale_most r, omega (arith, scale_most r, r.small))

pub returns-then-b-lt128 : goal.returns-then-b-lt128
returns-then-b-lt128 c =
    ends c.loop-i.invariant c.loop-i-test.true c.from-b.ensures c.if-b-lt128.true c.last.ensures

pub returns-then-scale-eq-FIFTH_SCALE : goal.returns-then-scale-eq-FIFTH_SCALE
returns-then-scale-eq-FIFTH_SCALE c =
    sym (large c.loop-i.invariant c.loop-i-test.true c.from-b.ensures c.if-b-lt128.false c.if-scale-eq-FIFTH_SCALE.true)

pub overflow_mul-sum : goal.overflow_mul-sum
overflow_mul-sum c =
    let l = c.loop-i in
    omega (arith, group_most l.invariant c.if-b-lt128.false (search (rules, c.type_inv.s c.loop-i.i)))

pub overflow_add-sum : goal.overflow_add-sum
overflow_add-sum c =
    let l = c.loop-i in
    omega (arith, group_most l.invariant c.if-b-lt128.false (search (rules, c.type_inv.s c.loop-i.i)), scale_most l.invariant, l.invariant.small)

pub overflow_mul-scale : goal.overflow_mul-scale
overflow_mul-scale c = omega (arith, scale_most c.loop-i.invariant)

pub loop-i-preserved : goal.loop-i-preserved
loop-i-preserved c =
    goes c.loop-i.invariant c.loop-i-test.true c.from-b.ensures c.if-b-lt128.false (search (rules, c.type_inv.s c.loop-i.i)) c.if-scale-eq-FIFTH_SCALE.false

pub returns : goal.returns
returns c = sym (over c.loop-i.invariant c.loop-i-test.false)
