use lib.ListN.{take}
use native.Mathlib.Omega.{arith}
use Rattle.leb128.specs.Leb128.{spell}
use Rattle.telegram.specs.Fields.{number_of}
use Rattle.telegram.specs.Reading.{texts}
use Rattle.telegram.specs.Meaning.{list_bytes, version_bytes, head_bytes}
use Rattle.telegram.proofs.Parts.{fits_list}
use Rattle.telegram.proofs.Laying.{room-first, room_second, room_between, put_then}
use Rattle.telegram.proofs.Widths.{after_kind, after_list, after_sender}
use Rattle.telegram.proofs.head.put_head.Goals as goal

pub put_number-behind_kind-requires : goal.put_number-behind_kind-requires
unfolding head_bytes
put_number-behind_kind-requires c =
    let a = c.args in
    rw c.number.ensures (room-first a.out.now 0 (spell (number_of a.kind)) (after_kind a.s.now a.head.now a.count) c.requires.2)

pub put_list-behind_list-requires : goal.put_list-behind_list-requires
unfolding head_bytes
put_list-behind_list-requires c =
    let a = c.args in
    let kind = rw c.number.ensures at c.put_number-behind_kind.ensures in
    (c.requires.0, room_between (list_bytes (texts a.s.now a.head.now.names)) (after_list a.head.now a.count) c.requires.2 kind)

pub overflow_cast-head : goal.overflow_cast-head
overflow_cast-head c =
    let a = c.args in
    omega (arith, c.requires.1, (fits_list a.s.now a.head.now.names c.requires.0).few)

pub put_number-behind_sender-requires : goal.put_number-behind_sender-requires
unfolding head_bytes
put_number-behind_sender-requires c =
    let a = c.args in
    let kind = rw c.number.ensures at c.put_number-behind_kind.ensures in
    let room = room_second (after_kind a.s.now a.head.now a.count) c.requires.2 kind in
    room_between (spell a.head.now.sender.0) (after_sender a.head.now a.count) room c.put_list-behind_list.ensures

pub shared_ref_as_front-put_entries : goal.shared_ref_as_front-put_entries
shared_ref_as_front-put_entries c = (fits_list _ _ c.requires.0).few

pub put_entries-behind_version-requires : goal.put_entries-behind_version-requires
unfolding head_bytes
put_entries-behind_version-requires c =
    let a = c.args in
    let h = a.head.now in
    let kind = rw c.number.ensures at c.put_number-behind_kind.ensures in
    let room = room_second (after_kind a.s.now h a.count) c.requires.2 kind in
    let room2 = room_second (after_list h a.count) room c.put_list-behind_list.ensures in
    room_between (version_bytes (take h.names.count h.entries)) (spell a.count) room2 c.put_number-behind_sender.ensures

pub put_number-requires : goal.put_number-requires
unfolding head_bytes
put_number-requires c =
    let a = c.args in
    let h = a.head.now in
    let kind = rw c.number.ensures at c.put_number-behind_kind.ensures in
    let room = room_second (after_kind a.s.now h a.count) c.requires.2 kind in
    let room2 = room_second (after_list h a.count) room c.put_list-behind_list.ensures in
    let room3 = room_second (after_sender h a.count) room2 c.put_number-behind_sender.ensures in
    room_second (spell a.count) room3 c.put_entries-behind_version.ensures

pub returns : goal.returns
unfolding head_bytes
returns c =
    let a = c.args in
    let h = a.head.now in
    let kind = rw c.number.ensures at c.put_number-behind_kind.ensures in
    let room = room_second (after_kind a.s.now h a.count) c.requires.2 kind in
    let room2 = room_second (after_list h a.count) room c.put_list-behind_list.ensures in
    let room3 = room_second (after_sender h a.count) room2 c.put_number-behind_sender.ensures in
    put_then c.requires.2 kind
    (put_then room c.put_list-behind_list.ensures (put_then room2 c.put_number-behind_sender.ensures (put_then room3 c.put_entries-behind_version.ensures c.put_number.ensures)))
