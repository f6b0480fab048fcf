use native.Mathlib.Omega.{arith}
use mathlib.Core.List.{◌++◌}
use borrow.Author.Rules.{rules}
use Rattle.leb128.specs.Leb128.{spell}
use Rattle.telegram.specs.Reading.{texts}
use Rattle.telegram.specs.Meaning.{list_bytes, body_bytes, body_of}
use Rattle.telegram.proofs.Laying.{room-first, room_second, room_between, put_then}
use Rattle.telegram.proofs.Spelt.{event_spelt_lem, event-list-refused, event-body-refused, list_small, body_small, wrote-refused, wrote-short, spelt_room, wrote_put}
use Rattle.telegram.proofs.event.write_event.Goals as goal

pub returns-in_err-list : goal.returns-in_err-list
returns-in_err-list c =
    let a = c.args in
    let w = wrote-refused a.out.now 0 0 (event-list-refused a.t.now a.names.now a.s.now a.body.now c.list_width.ensures c.in_err-list.was) in
    search (rules, w)

pub returns-in_err-rest : goal.returns-in_err-rest
returns-in_err-rest c =
    let a = c.args in
    let w = wrote-refused a.out.now 0 0 (event-body-refused a.t.now a.names.now a.s.now a.body.now c.list_width.ensures c.in_ok-list.was c.body_width.ensures c.in_err-rest.was) in
    search (rules, w)

pub overflow_add-list : goal.overflow_add-list
overflow_add-list c =
    let a = c.args in
    let g = event_spelt_lem a.t.now a.names.now a.s.now a.body.now c.list_width.ensures c.in_ok-list.was c.body_width.ensures c.in_ok-rest.was in
    omega (arith, list_small g.list)

pub overflow_add-list-2 : goal.overflow_add-list-2
overflow_add-list-2 c =
    let a = c.args in
    let g = event_spelt_lem a.t.now a.names.now a.s.now a.body.now c.list_width.ensures c.in_ok-list.was c.body_width.ensures c.in_ok-rest.was in
    omega (arith, list_small g.list, body_small g.body)

pub returns-then-not-has_room : goal.returns-then-not-has_room
returns-then-not-has_room c =
    let a = c.args in
    let g = event_spelt_lem a.t.now a.names.now a.s.now a.body.now c.list_width.ensures c.in_ok-list.was c.body_width.ensures c.in_ok-rest.was in
    wrote-short a.out.now 0 0 g.spelt c.if-not-has_room.ensures

pub put_number-behind_kind-requires : goal.put_number-behind_kind-requires
put_number-behind_kind-requires c =
    let a = c.args in
    let g = event_spelt_lem a.t.now a.names.now a.s.now a.body.now c.list_width.ensures c.in_ok-list.was c.body_width.ensures c.in_ok-rest.was in
    let room = spelt_room a.out.now 0 0 g.spelt c.if-not-has_room.ensures in
    rw c.number.ensures (room-first a.out.now 0 (spell 1) (list_bytes (texts a.t.now a.names.now) ++ body_bytes (body_of a.names.now.count a.s.now a.body.now)) room)

pub put_list-behind_list-requires : goal.put_list-behind_list-requires
put_list-behind_list-requires c =
    let a = c.args in
    let g = event_spelt_lem a.t.now a.names.now a.s.now a.body.now c.list_width.ensures c.in_ok-list.was c.body_width.ensures c.in_ok-rest.was in
    let room = spelt_room a.out.now 0 0 g.spelt c.if-not-has_room.ensures in
    let kind = rw c.number.ensures at c.put_number-behind_kind.ensures in
    (g.list.fits, room_between (list_bytes (texts a.t.now a.names.now)) (body_bytes (body_of a.names.now.count a.s.now a.body.now)) room kind)

pub put_body-requires : goal.put_body-requires
put_body-requires c =
    let a = c.args in
    let g = event_spelt_lem a.t.now a.names.now a.s.now a.body.now c.list_width.ensures c.in_ok-list.was c.body_width.ensures c.in_ok-rest.was in
    let body = body_bytes (body_of a.names.now.count a.s.now a.body.now) in
    let room = spelt_room a.out.now 0 0 g.spelt c.if-not-has_room.ensures in
    let kind = rw c.number.ensures at c.put_number-behind_kind.ensures in
    let room2 = room_second (list_bytes (texts a.t.now a.names.now) ++ body) room kind in
    (g.body.few, g.body.listed, g.body.fits, room_second body room2 c.put_list-behind_list.ensures)

pub returns : goal.returns
returns c =
    let a = c.args in
    let g = event_spelt_lem a.t.now a.names.now a.s.now a.body.now c.list_width.ensures c.in_ok-list.was c.body_width.ensures c.in_ok-rest.was in
    let f = c.if-not-has_room.ensures in
    let room = spelt_room a.out.now 0 0 g.spelt f in
    let kind = rw c.number.ensures at c.put_number-behind_kind.ensures in
    let room2 = room_second (list_bytes (texts a.t.now a.names.now) ++ body_bytes (body_of a.names.now.count a.s.now a.body.now)) room kind in
    wrote_put a.out.now 0 0 g.spelt f (put_then room kind (put_then room2 c.put_list-behind_list.ensures c.put_body.ensures))
