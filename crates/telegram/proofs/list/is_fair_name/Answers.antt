use mathlib.Core.Bool.{◌&&◌}
use mathlib.Core.Path.{◌∙◌}
use lib.Dec.{leb}
use Rattle.std.proofs.Common.{rules, tests}
use Rattle.std.proofs.lemmas.Iterator.{YieldsList-from_slice}
use Rattle.std.proofs.lemmas.Iterator.Search.{all_from_yields_List}
use Rattle.telegram.proofs.Fair.{fair-listed}
use Rattle.telegram.proofs.list.is_fair_name.Goals as goal

pub returns : goal.returns
returns c =
    all_from_yields_List (λ b. leb 33 b && leb b 126) _ _ _ c.all.ensures.ran (YieldsList-from_slice c.args.name.now cc) (λ x b q k. search (rules, tests))
    ∙ fair-listed c.args.name.now
