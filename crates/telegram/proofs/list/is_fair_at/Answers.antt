use native.Mathlib.Omega.{arith}
use mathlib.Core.Bool.{not}
use mathlib.Core.Path.{◌≡◌, refl, ◌∙◌}
use lib.ListN.{length, take}
use Rattle.std.proofs.Common.{rules, tests}
use Rattle.std.proofs.lemmas.Iterator.{YieldsList-from_slice}
use Rattle.std.proofs.lemmas.Iterator.Search.{all_from_yields_List}
use Rattle.lists.proofs.Laws.{length_mapped}
use Rattle.telegram.specs.Fields.{text}
use Rattle.telegram.specs.Reading.{same_bytes}
use Rattle.telegram.proofs.Fair.{fair-at, fair-before}
use Rattle.telegram.proofs.list.is_fair_at.Goals as goal

pub returns-then-is_fair_name : goal.returns-then-is_fair_name
returns-then-is_fair_name c =
    let s = c.args.s.now in
    let l = c.args.names.now in
    let n : length l.parts ≡ 16 = search (length_mapped, rules) in
    let each =
    all_from_yields_List (λ p. not (same_bytes (text s p) c.of-name.result.now)) _ _ c.all.result c.all.ensures.ran (YieldsList-from_slice (take c.args.place l.parts) cc)
    (λ x b q k. search (rules, tests))
    in
    (rw c.of-name.ensures at each) ∙ fair-before s l c.args.place c.requires.1 (omega (arith, c.requires)) (rw c.of-name.ensures at c.if-is_fair_name.ensures)

pub returns-else-is_fair_name : goal.returns-else-is_fair_name
returns-else-is_fair_name c =
    rw (fair-at c.args.s.now c.args.names.now c.args.place c.requires.1, ← c.of-name.ensures, ← c.is_fair_name.ensures, c.if-is_fair_name.false) refl
