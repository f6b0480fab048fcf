use native.Mathlib.Omega.{arith}
use mathlib.Core.Path.{◌≡◌, ap, ◌∙◌}
use borrow.Author.Rules.{rules}
use lib.ListN.{length, length-take}
use Rattle.lists.proofs.Laws.{length_mapped}
use Rattle.telegram.specs.Fields.{text}
use Rattle.leb128.specs.Leb128.{spell}
use Rattle.lists.specs.Lists.{chain}
use Rattle.telegram.proofs.Parts.{part_of, listed, fits_list, length-text}
use Rattle.telegram.proofs.Laying.{each_none, each-room, each_more, each_all, put_then, room-first, room_second}
use Rattle.telegram.proofs.Widths.{name_bytes, list_bytes_lem}
use Rattle.telegram.proofs.list.put_list.Goals as goal

pub overflow_cast-names : goal.overflow_cast-names
overflow_cast-names c = omega (arith, (fits_list _ _ c.requires.0).few)

pub put_number-next-requires : goal.put_number-next-requires
put_number-next-requires c =
    let a = c.args in
    let l = a.names.now in
    room-first a.out.now a.at (spell l.count) (chain l.count (name_bytes a.s.now l)) (rw (list_bytes_lem a.s.now l) at c.requires.1)

pub shared_ref_as_front-part-items : goal.shared_ref_as_front-part-items
shared_ref_as_front-part-items c = (fits_list _ _ c.requires.0).few

pub loop-part-init : goal.loop-part-init
loop-part-init c =
    let a = c.args in
    let l = a.names.now in
    each_none (name_bytes a.s.now l) l.count _ _
    (room_second (chain l.count (name_bytes a.s.now l)) (rw (list_bytes_lem a.s.now l) at c.requires.1) c.put_number-next.ensures)

pub put_sized-next-requires : goal.put_sized-next-requires
put_sized-next-requires c =
    let l = c.args.names.now in
    let p = listed l c.loop-part.part-index c.loop-part-test.true in
    let e = c.of.ensures ∙ ap (text c.args.s.now) p.1 in
    let part = (fits_list _ _ c.requires.0).parts c.loop-part.part-index p.0 in
    rw e (each-room c.loop-part.invariant p.0, omega (arith, length-text c.args.s.now (part_of l c.loop-part.part-index) part.within, part.most))

pub loop-part-preserved : goal.loop-part-preserved
loop-part-preserved c =
    let p = listed c.args.names.now c.loop-part.part-index c.loop-part-test.true in
    let e = c.of.ensures ∙ ap (text c.args.s.now) p.1 in
    each_more c.loop-part.invariant p.0 (rw e at c.put_sized-next.ensures)

pub returns : goal.returns
returns c =
    let a = c.args in
    let l = a.names.now in
    let n : length l.parts ≡ 16 = search (length_mapped, rules) in
    let e = list_bytes_lem a.s.now l in
    let few = (fits_list _ _ c.requires.0).few in
    rw e (put_then (rw e at c.requires.1) c.put_number-next.ensures (each_all c.loop-part.invariant (omega (arith, length-take l.count l.parts))))
