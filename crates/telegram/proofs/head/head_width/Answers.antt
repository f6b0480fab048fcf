use native.Mathlib.Omega.{arith}
use mathlib.Core.Path.{sym}
use borrow.Author.Rules.{rules}
use borrow.Author.Tests.{lt-leb, lt-ltb, le-ltb}
use Rattle.leb128.proofs.Spelling.{width_range}
use Rattle.telegram.specs.Fields.{number_of}
use Rattle.telegram.specs.Writing.{head_spelt}
use Rattle.telegram.proofs.Parts.{fits_list}
use Rattle.telegram.proofs.Widths.{version_most}
use Rattle.telegram.proofs.Spelt.{list_spelt_lem, list_small, head-refused, head-measured}
use Rattle.telegram.proofs.head.head_width.Goals as goal

pub returns-in_err-list : goal.returns-in_err-list
returns-in_err-list c =
    let a = c.args in
    rw (head-refused (number_of a.kind) a.limit a.s.now a.head.now a.count c.list_width.ensures c.in_err-list.was) (search rules)

pub returns-then-names-head : goal.returns-then-names-head
unfolding head_spelt
returns-then-names-head c =
    let a = c.args in
    let g = list_spelt_lem a.s.now a.head.now.names c.list_width.ensures c.in_ok-list.was in
    rw (g.fits, le-ltb _ _ c.if-names-head.true)

pub returns-then-limit-count : goal.returns-then-limit-count
unfolding head_spelt
returns-then-limit-count c =
    let a = c.args in
    let g = list_spelt_lem a.s.now a.head.now.names c.list_width.ensures c.in_ok-list.was in
    rw (g.fits, lt-ltb _ _ c.if-names-head.false, lt-leb _ _ c.if-limit-count.true)

pub shared_ref_as_front-entries_width : goal.shared_ref_as_front-entries_width
shared_ref_as_front-entries_width c =
    let a = c.args in
    let g = list_spelt_lem a.s.now a.head.now.names c.list_width.ensures c.in_ok-list.was in
    (fits_list a.s.now a.head.now.names g.fits).few

pub overflow_add-result : goal.overflow_add-result
overflow_add-result c =
    let a = c.args in
    let h = a.head.now in
    let g = list_spelt_lem a.s.now h.names c.list_width.ensures c.in_ok-list.was in
    omega (arith, c.width.ensures, width_range c.number.result, list_small g)

pub overflow_add-result-2 : goal.overflow_add-result-2
overflow_add-result-2 c =
    let a = c.args in
    let h = a.head.now in
    let g = list_spelt_lem a.s.now h.names c.list_width.ensures c.in_ok-list.was in
    omega (arith, c.width.ensures, width_range c.number.result, list_small g)

pub overflow_add-result-3 : goal.overflow_add-result-3
overflow_add-result-3 c =
    let a = c.args in
    let h = a.head.now in
    let g = list_spelt_lem a.s.now h.names c.list_width.ensures c.in_ok-list.was in
    let few = (fits_list a.s.now h.names g.fits).few in
    omega (arith, c.width.ensures, width_range c.number.result, list_small g, c.entries_width-version.ensures, version_most h.entries h.names.count few)

pub overflow_add-result-4 : goal.overflow_add-result-4
overflow_add-result-4 c =
    let a = c.args in
    let h = a.head.now in
    let g = list_spelt_lem a.s.now h.names c.list_width.ensures c.in_ok-list.was in
    let few = (fits_list a.s.now h.names g.fits).few in
    let version = version_most h.entries h.names.count few in
    omega (arith, c.width.ensures, width_range c.number.result, list_small g, c.entries_width-version.ensures, version, c.width-2.ensures, width_range a.count)

pub returns : goal.returns
returns c =
    let a = c.args in
    let g = list_spelt_lem a.s.now a.head.now.names c.list_width.ensures c.in_ok-list.was in
    rw (c.width-2.ensures, c.entries_width-version.ensures, c.width.ensures, c.number.ensures, ← g.spelt.long)
    (sym (head-measured (number_of a.kind) a.limit a.s.now a.head.now a.count g.fits c.if-names-head.false c.if-limit-count.false))
