use native.Mathlib.Omega.{arith}
use Rattle.leb128.specs.Leb128.{spell}
use Rattle.telegram.specs.Meaning.{exception_bytes}
use Rattle.telegram.proofs.Laying.{room-first, room_second, put_then}
use Rattle.telegram.proofs.Spelt.{exception_spelt_lem, spelt_room, wrote_put}
use Rattle.telegram.proofs.since.write_exception.Goals as goal

pub overflow_cast-exception : goal.overflow_cast-exception
overflow_cast-exception c =
    let a = c.args in
    let g = exception_spelt_lem a.count a.exception c.exception_width.ensures c.in_ok-width.was in
    omega (arith, g.few, g.listed)

pub put_number-behind_place-requires : goal.put_number-behind_place-requires
unfolding exception_bytes
put_number-behind_place-requires c =
    let a = c.args in
    let g = exception_spelt_lem a.count a.exception c.exception_width.ensures c.in_ok-width.was in
    room-first a.out.now a.at (spell a.exception.place.0) (spell a.exception.number) (spelt_room a.out.now a.at 0 g.spelt c.if-not-has_room.ensures)

pub put_number-requires : goal.put_number-requires
unfolding exception_bytes
put_number-requires c =
    let a = c.args in
    let g = exception_spelt_lem a.count a.exception c.exception_width.ensures c.in_ok-width.was in
    room_second (spell a.exception.number) (spelt_room a.out.now a.at 0 g.spelt c.if-not-has_room.ensures) c.put_number-behind_place.ensures

pub returns : goal.returns
unfolding exception_bytes
returns c =
    let a = c.args in
    let g = exception_spelt_lem a.count a.exception c.exception_width.ensures c.in_ok-width.was in
    let f = c.if-not-has_room.ensures in
    wrote_put a.out.now a.at 0 g.spelt f (put_then (spelt_room a.out.now a.at 0 g.spelt f) c.put_number-behind_place.ensures c.put_number.ensures)
