use mathlib.Core.Path.{sym, ◌∙◌}
use borrow.Author.Rules.{rules}
use Rattle.telegram.proofs.Walks.{walk_none, walk_more, walk_bad, walk_all}
use Rattle.telegram.proofs.items.items_end.Goals as goal

pub loop-init : goal.loop-init
loop-init g c = walk_none

pub returns-in_err-item : goal.returns-in_err-item
returns-in_err-item g c = rw (← walk_bad c.loop.invariant c.loop-test.true (sym c.read.ensures ∙ c.in_err-item.was)) (search rules)

pub loop-preserved : goal.loop-preserved
loop-preserved g c = walk_more c.loop.invariant c.loop-test.true (sym c.read.ensures ∙ c.in_ok-item.was)

pub returns : goal.returns
returns g c = walk_all c.loop.invariant c.loop-test.false
