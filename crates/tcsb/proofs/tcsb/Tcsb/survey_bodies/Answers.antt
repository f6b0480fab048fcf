use mathlib.Core.Path.{◌≡◌}
use native.Mathlib.Omega.{arith}
use Rattle.std.proofs.Common.{rules, Err}
use Rattle.tcsb.proofs.Surveying.{survey_none, survey_more, survey_refused, survey_all, few_up}
use Rattle.tcsb.proofs.tcsb.Tcsb.survey_bodies.Goals as goal

pub loop-init : goal.loop-init
loop-init c = survey_none _ c.none-survey.ensures

pub returns-in_err-body : goal.returns-in_err-body
returns-in_err-body c =
    let e : c.from_residual.result ≡ Err c.in_err-body.field-0.0 = search rules in
    rw e (survey_refused c.loop.invariant c.loop-test.true c.read_body.ensures c.in_err-body.was)

pub survey_body-requires : goal.survey_body-requires
survey_body-requires c = few_up c.loop.invariant.few (omega arith)

pub loop-preserved : goal.loop-preserved
loop-preserved c = survey_more c.loop.invariant c.loop-test.true c.read_body.ensures c.in_ok-body.was c.survey_body.ensures

pub returns : goal.returns
returns c = survey_all c.loop.invariant c.loop-test.false
