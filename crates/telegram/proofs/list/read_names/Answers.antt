use mathlib.Core.Path.{sym, ◌∙◌}
use borrow.Author.Rules.{rules}
use Rattle.lists.proofs.Laws.{tab-same}
use Rattle.telegram.specs.Reading.{names, nowhere}
use Rattle.telegram.proofs.Walks.{fill_none, fill_more, fill_bad, fill_all}
use Rattle.telegram.proofs.list.read_names.Goals as goal

pub loop-i-init : goal.loop-i-init
loop-i-init c = fill_none c.requires _ (tab-same 16 nowhere)

pub returns-in_err-name : goal.returns-in_err-name
unfolding names
returns-in_err-name c = rw (fill_bad c.loop-i.invariant c.loop-i-test.true (sym c.read_sized.ensures ∙ c.in_err-name.was)) (search rules)

pub loop-i-preserved : goal.loop-i-preserved
loop-i-preserved c = fill_more c.loop-i.invariant c.loop-i-test.true (sym c.read_sized.ensures ∙ c.in_ok-name.was)

pub returns : goal.returns
unfolding names
returns c = let f = fill_all c.loop-i.invariant c.loop-i-test.false in rw (f.0, f.1, c.loop-i.invariant.holds)
