use native.Mathlib.Omega.{arith}
use lib.ListN.{take}
use Rattle.leb128.specs.Leb128.{spell}
use Rattle.telegram.specs.Fields.{text}
use Rattle.telegram.specs.Meaning.{sized_bytes, version_bytes, body_bytes}
use Rattle.telegram.proofs.Parts.{fits_part, length-text}
use Rattle.telegram.proofs.Laying.{room-first, room_second, room_between, put_then}
use Rattle.telegram.proofs.Widths.{after_place, after_number}
use Rattle.telegram.proofs.body.put_body.Goals as goal

pub put_number-behind_place-requires : goal.put_number-behind_place-requires
unfolding body_bytes
put_number-behind_place-requires c =
    let a = c.args in
    room-first a.out.now a.at (spell a.body.now.place.0) (after_place a.count a.s.now a.body.now) c.requires.3

pub put_number-behind_number-requires : goal.put_number-behind_number-requires
unfolding body_bytes
put_number-behind_number-requires c =
    let a = c.args in
    room_between (spell a.body.now.number) (after_number a.count a.s.now a.body.now) c.requires.3 c.put_number-behind_place.ensures

pub put_entries-behind_version-requires : goal.put_entries-behind_version-requires
unfolding body_bytes
put_entries-behind_version-requires c =
    let a = c.args in
    let room = room_second (after_place a.count a.s.now a.body.now) c.requires.3 c.put_number-behind_place.ensures in
    room_between (version_bytes (take a.count a.body.now.entries)) (sized_bytes (text a.s.now a.body.now.operation)) room c.put_number-behind_number.ensures

pub put_sized-requires : goal.put_sized-requires
unfolding body_bytes
put_sized-requires c =
    let a = c.args in
    let o = a.body.now.operation in
    let room = room_second (after_place a.count a.s.now a.body.now) c.requires.3 c.put_number-behind_place.ensures in
    let room2 = room_second (after_number a.count a.s.now a.body.now) room c.put_number-behind_number.ensures in
    let part = fits_part 0 32 a.s.now o c.requires.2 in
    rw c.of.ensures (room_second (sized_bytes (text a.s.now o)) room2 c.put_entries-behind_version.ensures, omega (arith, length-text a.s.now o part.within, part.most))

pub returns : goal.returns
unfolding body_bytes
returns c =
    let a = c.args in
    let room = room_second (after_place a.count a.s.now a.body.now) c.requires.3 c.put_number-behind_place.ensures in
    let room2 = room_second (after_number a.count a.s.now a.body.now) room c.put_number-behind_number.ensures in
    let last = rw c.of.ensures at c.put_sized.ensures in
    put_then c.requires.3 c.put_number-behind_place.ensures (put_then room c.put_number-behind_number.ensures (put_then room2 c.put_entries-behind_version.ensures last))
