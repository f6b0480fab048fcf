use Prim.Native.Nat.{ℕ}
use mathlib.Core.Path.{sym, ◌∙◌}
use borrow.Author.Rules.{rules}
use Rattle.lists.proofs.Laws.{tab-same}
use Rattle.telegram.specs.Reading.{entries}
use Rattle.telegram.proofs.Walks.{fill_none, fill_more, fill_bad, fill_all}
use Rattle.telegram.proofs.body.read_entries.Goals as goal

pub loop-i-init : goal.loop-i-init
loop-i-init c = fill_none c.requires _ (tab-same {A = ℕ} 16 0)

pub returns-in_err-number : goal.returns-in_err-number
unfolding entries
returns-in_err-number c = rw (fill_bad c.loop-i.invariant c.loop-i-test.true (sym c.read.ensures ∙ c.in_err-number.was)) (search rules)

pub loop-i-preserved : goal.loop-i-preserved
loop-i-preserved c = fill_more c.loop-i.invariant c.loop-i-test.true (sym c.read.ensures ∙ c.in_ok-number.was)

pub returns : goal.returns
unfolding entries
returns c = rw ((fill_all c.loop-i.invariant c.loop-i-test.false).0, c.loop-i.invariant.holds)
