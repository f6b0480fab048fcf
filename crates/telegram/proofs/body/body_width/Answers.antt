use native.Mathlib.Omega.{arith}
use mathlib.Core.Path.{sym}
use Rattle.leb128.proofs.Spelling.{width_range}
use Rattle.telegram.proofs.Parts.{fits_part}
use Rattle.telegram.proofs.Widths.{version_most}
use Rattle.telegram.proofs.Spelt.{body-measured}
use Rattle.telegram.proofs.body.body_width.Goals as goal

pub overflow_add-result : goal.overflow_add-result
overflow_add-result c = let b = c.args.body.now in omega (arith, c.width.ensures, width_range b.number)

pub overflow_add-result-2 : goal.overflow_add-result-2
overflow_add-result-2 c =
    let b = c.args.body.now in
    omega (arith, c.width.ensures, width_range b.number, c.entries_width-version.ensures, version_most b.entries c.args.count c.if-count-gt-MEMBERS.false)

pub overflow_add-result-3 : goal.overflow_add-result-3
overflow_add-result-3 c =
    let b = c.args.body.now in
    omega (arith, c.width.ensures, width_range b.number, c.entries_width-version.ensures, version_most b.entries c.args.count c.if-count-gt-MEMBERS.false)

pub overflow_add-result-4 : goal.overflow_add-result-4
overflow_add-result-4 c =
    let b = c.args.body.now in
    let fits = fits_part 0 32 c.args.s.now b.operation (sym c.if-not-part_fits.ensures) in
    omega (arith, c.width.ensures, width_range b.number, c.entries_width-version.ensures, version_most b.entries c.args.count c.if-count-gt-MEMBERS.false, fits.most)

pub returns : goal.returns
returns c =
    let a = c.args in
    rw (c.width.ensures, c.entries_width-version.ensures)
    (sym (body-measured a.count a.s.now a.body.now c.if-count-gt-MEMBERS.false c.if-count-body.false (sym c.if-not-part_fits.ensures)))
