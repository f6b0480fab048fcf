use mathlib.Core.Path.{refl}
use borrow.Author.Rules.{rules}
use Rattle.telegram.proofs.Spelt.{list_spelt_lem, list-not-judged, fits_within}
use Rattle.telegram.proofs.list.judge_list.Goals as goal

pub returns-in_err-list_width : goal.returns-in_err-list_width
returns-in_err-list_width c = rw (← list-not-judged _ c.args.names.now c.list_width.ensures c.in_err-list_width.was) (search rules)

pub is_fair-requires : goal.is_fair-requires
is_fair-requires c = (fits_within _ c.args.names.now (list_spelt_lem _ c.args.names.now c.list_width.ensures c.in_ok-list_width.was).fits).few

pub returns-then-not-is_fair : goal.returns-then-not-is_fair
returns-then-not-is_fair c = rw ((list_spelt_lem _ c.args.names.now c.list_width.ensures c.in_ok-list_width.was).fits, ← c.if-not-is_fair.ensures) refl

pub returns : goal.returns
returns c = rw ((list_spelt_lem _ c.args.names.now c.list_width.ensures c.in_ok-list_width.was).fits, ← c.if-not-is_fair.ensures) refl
