use borrow.Author.Tests.{le-leb, lt-leb}
use Rattle.clock.proofs.Entrywise.{at_most_clamp}
use Rattle.lists.proofs.Turns.{pass_none, pass_more, pass_fails, pass_all}
use lib.ListN.{length}
use native.Mathlib.Omega.{arith}
use mathlib.Core.Path.{◌≡◌, sym, ◌∙◌}
use borrow.Author.Rules.{rules}
use Rattle.clock.proofs.version_vector.Row.at_most.Goals as goal

pub loop-i-init : goal.loop-i-init
loop-i-init c = (search rules, pass_none)

pub returns-then-other-i : goal.returns-then-other-i
returns-then-other-i c = let e : length c.args.self.entries ≡ 16 = search rules in sym (sym (at_most_clamp c.args.members 16 c.args.self.entries c.args.other.entries e) ∙ rw (← c.loop-i.invariant.0) (pass_fails c.loop-i.invariant.1 (omega arith) (lt-leb _ _ c.if-other-i.true)))

pub loop-i-preserved : goal.loop-i-preserved
loop-i-preserved c = (c.loop-i.invariant.0, pass_more c.loop-i.invariant.1 (omega arith) (le-leb _ _ c.if-other-i.false))

pub returns : goal.returns
returns c = let e : length c.args.self.entries ≡ 16 = search rules in sym (sym (at_most_clamp c.args.members 16 c.args.self.entries c.args.other.entries e) ∙ rw (← c.loop-i.invariant.0) (pass_all c.loop-i.invariant.1 c.loop-i-test.false))
