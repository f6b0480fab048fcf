use native.Mathlib.Omega.{arith}
use mathlib.Core.Path.{◌≡◌, refl, ◌∙◌}
use Rattle.std.proofs.Common.{rules, tests}
use Rattle.std.proofs.lemmas.Iterator.{YieldsList-from_range}
use Rattle.std.proofs.lemmas.Iterator.Search.{all_from_yields_List}
use Rattle.telegram.proofs.Fair.{all-counted}
use Rattle.tcsb.proofs.Ready.{ready_at}
use Rattle.tcsb.proofs.delivery.is_causally_ready.Goals as goal

pub returns : goal.returns
returns c =
    let a = c.args in
    let test = ready_at a.row.entries a.event.now.version.entries a.event.now.origin.0 in
    λ few. let e : c.min.result ≡ a.members = omega (arith, c.min.ensures) in
    rw e at (all_from_yields_List test _ _ _ c.all.ensures.ran (YieldsList-from_range 0 c.min.result c.min.result refl (omega arith)) (λ x b q k. search (rules, tests))
    ∙ all-counted test c.min.result)
