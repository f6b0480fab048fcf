use native.Mathlib.Omega.{arith}
use Rattle.telegram.specs.Fields.{number_of}
use Rattle.telegram.proofs.Spelt.{head_spelt_lem, spelt_room, wrote_put}
use Rattle.telegram.proofs.head.write_head.Goals as goal

pub overflow_cast-count : goal.overflow_cast-count
overflow_cast-count c =
    let a = c.args in
    let g = head_spelt_lem (number_of a.kind) a.limit a.s.now a.head.now a.count c.head_width.ensures c.in_ok-width.was in
    omega (arith, g.few, c.requires)

pub put_head-requires : goal.put_head-requires
put_head-requires c =
    let a = c.args in
    let g = head_spelt_lem (number_of a.kind) a.limit a.s.now a.head.now a.count c.head_width.ensures c.in_ok-width.was in
    (g.fits, g.listed, spelt_room a.out.now 0 a.behind g.spelt c.if-not-has_room.ensures)

pub returns : goal.returns
returns c =
    let a = c.args in
    let g = head_spelt_lem (number_of a.kind) a.limit a.s.now a.head.now a.count c.head_width.ensures c.in_ok-width.was in
    wrote_put a.out.now 0 a.behind g.spelt c.if-not-has_room.ensures c.put_head.ensures
