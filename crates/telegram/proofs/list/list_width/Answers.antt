use native.Mathlib.Omega.{arith}
use borrow.Author.Rules.{rules}
use borrow.Author.Tests.{lt-leb, le-leb}
use Rattle.telegram.specs.Writing.{list_spelt, list_fits}
use Rattle.telegram.proofs.Spelt.{list-measured, names_small}
use Rattle.telegram.proofs.list.list_width.Goals as goal
use Rattle.telegram.proofs.list.list_width.Goals.{then-names-lt1-via-then-names-lt1, then-names-lt1-via-else-names-lt1+then-names-gt-MEMBERS}

pub returns-then-names-lt1 : goal.returns-then-names-lt1
unfolding list_spelt list_fits
returns-then-names-lt1 c =
    elim c.then-names-lt1.branch [
      | then-names-lt1-via-then-names-lt1 w ↦ rw (lt-leb _ _ w.if-names-lt1.true)
      | then-names-lt1-via-else-names-lt1+then-names-gt-MEMBERS w ↦ rw (le-leb _ _ w.if-names-lt1.false, lt-leb _ _ w.if-names-gt-MEMBERS.true)
    ]

pub returns-in_err-sum : goal.returns-in_err-sum
returns-in_err-sum c =
    rw (← list-measured c.args.s.now c.args.names.now c.if-names-lt1.false c.if-names-gt-MEMBERS.false c.names_width.ensures c.in_err-sum.was) (search rules)

pub overflow_add-result : goal.overflow_add-result
overflow_add-result c =
    let l = c.args.names.now in
    omega (arith, names_small c.args.s.now l l.count c.if-names-gt-MEMBERS.false c.names_width.ensures c.in_ok-sum.was)

pub returns : goal.returns
returns c = list-measured c.args.s.now c.args.names.now c.if-names-lt1.false c.if-names-gt-MEMBERS.false c.names_width.ensures c.in_ok-sum.was
