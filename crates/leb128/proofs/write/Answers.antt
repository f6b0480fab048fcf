use native.Mathlib.Omega.{arith}
use Rattle.leb128.proofs.Laws.{wrote}
use Rattle.leb128.proofs.write.Goals as goal

pub returns : goal.returns
returns c =
    let a = c.args in
    let w = c.width-count.ensures in
    wrote a.out.now _ a.at a.value _ (omega arith) w c.put.ensures
