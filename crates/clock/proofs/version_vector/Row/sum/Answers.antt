use Prim.Native.Nat.{◌<◌}
use Rattle.lists.specs.Lists.{at}
use Rattle.lists.proofs.Laws.{sum_clamp}
use Rattle.clock.proofs.Entrywise.{past_end}
use Rattle.lists.proofs.Turns.{sum-none, sum_one, sum-all}
use lib.ListN.{length}
use native.Mathlib.Omega.{arith}
use mathlib.Core.Path.{◌≡◌, ◌∙◌}
use borrow.Author.Rules.{rules}
use Rattle.clock.proofs.version_vector.Row.sum.Goals as goal

pub loop-i-init : goal.loop-i-init
loop-i-init c = (search rules, sum-none (omega arith))

pub loop-i-preserved : goal.loop-i-preserved
loop-i-preserved c = (c.loop-i.invariant.0, rw c.from-total.ensures (sum_one c.loop-i.invariant.1 (omega arith) (search rules)))

pub returns : goal.returns
returns c = let e : length c.args.self.entries ≡ 16 = search rules in sum-all c.loop-i.invariant.1 c.loop-i-test.false ∙ rw c.loop-i.invariant.0 (sum_clamp c.args.members 16 (at c.args.self.entries) (λ j g. past_end c.args.self.entries 16 j e g))

pub overflow_add-total : goal.overflow_add-total
overflow_add-total c =
    let v = c.loop-i.invariant.1 in
    let h : c.from-total.result < 4294967296 = rw c.from-total.ensures (search rules) in
    omega (arith, v.small, v.within, v.few)
