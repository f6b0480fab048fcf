use mathlib.Core.Path.{◌≡◌, ◌∙◌}
use lib.ListN.{length}
use Rattle.std.proofs.Common.{rules, tests}
use Rattle.std.proofs.lemmas.Iterator.{YieldsList-from_slice, YieldsList-from_take}
use Rattle.std.proofs.lemmas.Iterator.Search.{position_from_yields_List}
use Rattle.lists.proofs.Laws.{length_mapped}
use Rattle.telegram.specs.Fields.{text}
use Rattle.telegram.specs.Reading.{same_bytes}
use Rattle.tcsb.proofs.Placing.{member-listed}
use Rattle.tcsb.proofs.internalizer.member_of.Goals as goal

pub returns-clause-place : goal.returns-clause-place
returns-clause-place c =
    let a = c.args in
    let t = text a.s.now a.name in
    let n : length a.names.now.parts ≡ 16 = search (length_mapped, rules) in
    λ few.
    position_from_yields_List (λ p. same_bytes (text a.list.now p) t) _ _ c.position.result c.position.ensures.ran
    (YieldsList-from_take a.names.now.count (YieldsList-from_slice a.names.now.parts cc) cc) (λ x b q k. search (rules, tests))
    ∙ member-listed a.list.now a.names.now t (rw n few)
