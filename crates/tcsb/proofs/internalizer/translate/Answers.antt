use mathlib.Core.Path.{sym, ◌∙◌}
use native.Mathlib.Omega.{arith}
use Rattle.tcsb.proofs.Placing.{translate_none, translate_more, translate_fails, translate_all}
use Rattle.tcsb.proofs.internalizer.translate.Goals as goal

pub loop-p-init : goal.loop-p-init
loop-p-init c = λ h few. translate_none few

pub returns-in_default : goal.returns-in_default
returns-in_default c =
    let a = c.args in
    λ h few. sym (translate_fails a.list.now a.names.now a.s.now a.listed.now c.loop-p.p (omega arith) (sym c.in_default.is ∙ c.member_of.ensures.place h))

pub loop-p-preserved : goal.loop-p-preserved
loop-p-preserved c = λ h few. translate_more (c.loop-p.invariant h few) (omega arith) (sym c.in-Some.is ∙ c.member_of.ensures.place h)

pub returns : goal.returns
returns c =
    let a = c.args in
    λ h few. translate_all a.list.now a.names.now a.s.now a.listed.now c.loop-p.places c.loop-p.p (c.loop-p.invariant h few) (omega arith) few
