use Rattle.telegram.proofs.Spelt.{body_spelt_lem, spelt_room, wrote_put}
use Rattle.telegram.proofs.body.write_body.Goals as goal

pub put_body-requires : goal.put_body-requires
put_body-requires c =
    let a = c.args in
    let g = body_spelt_lem a.count a.s.now a.body.now c.body_width.ensures c.in_ok-width.was in
    (g.few, g.listed, g.fits, spelt_room a.out.now a.at 0 g.spelt c.if-not-has_room.ensures)

pub returns : goal.returns
returns c =
    let a = c.args in
    let g = body_spelt_lem a.count a.s.now a.body.now c.body_width.ensures c.in_ok-width.was in
    wrote_put a.out.now a.at 0 g.spelt c.if-not-has_room.ensures c.put_body.ensures
