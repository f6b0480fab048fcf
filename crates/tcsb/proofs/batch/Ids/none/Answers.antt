use mathlib.Core.Path.{◌≡◌}
use Rattle.lists.proofs.Laws.{tab-same}
use Rattle.clock.specs.Version.{no_id}
use Rattle.tcsb.proofs.batch.Ids.none.Goals as goal

pub returns : goal.returns
returns c =
    let e : c.default.result ≡ no_id = λ i. record { idx = record { 0 = c.default.ensures.0 i }; seq = c.default.ensures.1 i } in
    rw (e, tab-same 256 no_id)
