use mathlib.Core.Path.{sym, ◌∙◌}
use Rattle.tcsb.proofs.Surveying.{is_taken_lem}
use Rattle.tcsb.proofs.Storing.{body-taken, body_left}
use Rattle.tcsb.proofs.tcsb.Tcsb.record_body.Goals as goal

pub returns-then-eq : goal.returns-then-eq
returns-then-eq c =
    body-taken c.event_from-event.ensures c.judge.ensures (sym (is_taken_lem c.judge.result) ∙ (sym c.eq.ensures ∙ c.if-eq.true)) c.record.ensures

pub returns-else-eq : goal.returns-else-eq
returns-else-eq c = body_left c.event_from-event.ensures c.judge.ensures (sym (is_taken_lem c.judge.result) ∙ (sym c.eq.ensures ∙ c.if-eq.false))
