use Rattle.telegram.proofs.Spelt.{list_spelt_lem, spelt_room, wrote_put}
use Rattle.telegram.proofs.list.write_list.Goals as goal

pub put_list-requires : goal.put_list-requires
put_list-requires c =
    let a = c.args in
    let g = list_spelt_lem a.s.now a.names.now c.list_width.ensures c.in_ok-width.was in
    (g.fits, spelt_room a.out.now a.at 0 g.spelt c.if-not-has_room.ensures)

pub returns : goal.returns
returns c =
    let a = c.args in
    let g = list_spelt_lem a.s.now a.names.now c.list_width.ensures c.in_ok-width.was in
    wrote_put a.out.now a.at 0 g.spelt c.if-not-has_room.ensures c.put_list.ensures
