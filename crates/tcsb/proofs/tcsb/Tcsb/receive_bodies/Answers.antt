use mathlib.Core.Path.{◌≡◌}
use Rattle.std.proofs.Common.{rules, Err}
use Rattle.tcsb.proofs.Batching.{own-refused, number-refused, walk_refused, room-refused, batch-taken}
use Rattle.tcsb.proofs.tcsb.Tcsb.receive_bodies.Goals as goal

pub returns-in_err-survey : goal.returns-in_err-survey
returns-in_err-survey c =
    let e : c.from_residual.result ≡ Err c.in_err-survey.field-0.0 = search rules in
    rw e (λ list. walk_refused _ c.in_err-survey.ensures)

pub returns-then-survey : goal.returns-then-survey
returns-then-survey c = λ list. own-refused c.in_ok-survey.ensures c.if-survey.true

pub returns-then-survey-2 : goal.returns-then-survey-2
returns-then-survey-2 c = λ list. number-refused c.in_ok-survey.ensures c.if-survey.false c.if-survey-2.true

pub returns-in_err-room_for : goal.returns-in_err-room_for
returns-in_err-room_for c =
    let e : c.from_residual-in_err-room_for.result ≡ Err c.in_err-room_for.field-0.0 = search rules in
    rw e (λ list. room-refused _ c.in_ok-survey.ensures c.if-survey.false c.if-survey-2.false c.room_for.ensures c.in_err-room_for.was)

pub returns : goal.returns
returns c =
    λ list.
    batch-taken c.in_ok-survey.ensures c.if-survey.false c.if-survey-2.false c.room_for.ensures c.in_ok-room_for.was c.record_bodies.ensures c.our_place.ensures c.extend.ensures
