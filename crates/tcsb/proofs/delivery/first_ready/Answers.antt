use Prim.Native.Nat.{ℕ}
use Rattle.std.proofs.Common.{rules, tests}
use Rattle.std.proofs.lemmas.Iterator.{YieldsList-from_slice}
use Rattle.std.proofs.lemmas.Iterator.Search.{position_from_yields_List}
use Rattle.store.specs.Words.{event_at}
use Rattle.tcsb.specs.Replica.{ready_by}
use Rattle.tcsb.proofs.Ready.{first_told}
use Rattle.tcsb.proofs.delivery.first_ready.Goals as goal

pub returns : goal.returns
returns c =
    let a = c.args in
    first_told a.row a.members c.meant.ensures (λ few.
    position_from_yields_List (λ (s : ℕ). ready_by a.members a.row.entries (event_at a.words.now s)) _ _ _ c.position.ensures.ran (YieldsList-from_slice c.meant.result.now cc)
    (λ x b q k. search (rules, tests)))
