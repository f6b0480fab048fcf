use native.Mathlib.Omega.{arith}
use mathlib.Core.Path.{◌≡◌, sym}
use borrow.Author.Rules.{rules}
use lib.ListN.{length, take, get_or, length-take}
use Rattle.lists.proofs.Laws.{length_mapped}
use Rattle.lists.proofs.Turns.{pass_none, pass_more, pass_fails, pass_all}
use Rattle.telegram.specs.Reading.{nowhere}
use Rattle.telegram.proofs.Parts.{part_of, listed, fits_part}
use Rattle.telegram.proofs.Widths.{measure_none, measure_more, measure_all, sized_width}
use Rattle.telegram.proofs.list.names_width.Goals as goal

pub loop-part-init : goal.loop-part-init
loop-part-init c = (pass_none, measure_none _ _ c.requires)

pub returns-then-not-part_fits : goal.returns-then-not-part_fits
returns-then-not-part_fits c =
    let p = listed c.args.names.now c.loop-part.part-index c.loop-part-test.true in
    let e = rw p.1 at c.if-not-part_fits.ensures in
    rw (pass_fails c.loop-part.invariant.0 p.0 (sym e))

pub overflow_add-sum : goal.overflow_add-sum
overflow_add-sum c =
    let l = c.args.names.now in
    omega (arith, (fits_part 1 16 c.args.s.now (get_or (take l.count l.parts) c.loop-part.part-index nowhere) (sym c.if-not-part_fits.ensures)).most)

pub overflow_add-sum-in-loop-part : goal.overflow_add-sum-in-loop-part
overflow_add-sum-in-loop-part c =
    let l = c.args.names.now in
    let m = c.loop-part.invariant.1 in
    omega (arith, (fits_part 1 16 c.args.s.now (get_or (take l.count l.parts) c.loop-part.part-index nowhere) (sym c.if-not-part_fits.ensures)).most, m.small, m.few)

pub loop-part-preserved : goal.loop-part-preserved
loop-part-preserved c =
    let l = c.args.names.now in
    let p = listed l c.loop-part.part-index c.loop-part-test.true in
    let e = rw p.1 at c.if-not-part_fits.ensures in
    let fits = fits_part 1 16 c.args.s.now (part_of l c.loop-part.part-index) (sym e) in
    rw p.1 (
      pass_more c.loop-part.invariant.0 p.0 (sym e),
      measure_more c.loop-part.invariant.1 p.0 (sym (sized_width (omega arith) fits)) (omega (arith, fits.most)),
    )

pub returns : goal.returns
returns c =
    let l = c.args.names.now in
    let n : length l.parts ≡ 16 = search (length_mapped, rules) in
    let i = c.loop-part.invariant in
    rw (pass_all i.0 (omega (arith, length-take l.count l.parts)), ← measure_all i.1 (omega (arith, length-take l.count l.parts)))
