use native.Mathlib.Omega.{arith}
use mathlib.Core.Path.{refl, sym, ◌∙◌}
use Rattle.std.proofs.Common.{rules, tests}
use Rattle.std.proofs.lemmas.Iterator.{YieldsList-from_range}
use Rattle.std.proofs.lemmas.Iterator.Search.{all_from_yields_List}
use Rattle.telegram.specs.Reading.{texts, fair_at}
use Rattle.telegram.proofs.Fair.{all-counted, fair-all}
use Rattle.telegram.proofs.list.is_fair.Goals as goal

pub returns : goal.returns
returns c =
    let l = c.args.names.now in
    let s = c.args.s.now in
    all_from_yields_List (fair_at (texts s l)) _ _ _ c.all.ensures.ran (YieldsList-from_range 0 l.count l.count refl (omega arith)) (λ x b q k. search (rules, tests))
    ∙ (all-counted (fair_at (texts s l)) l.count ∙ sym (fair-all s l))
