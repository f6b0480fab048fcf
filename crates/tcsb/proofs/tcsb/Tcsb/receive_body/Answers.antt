use mathlib.Core.Path.{◌≡◌}
use Rattle.std.proofs.Common.{rules, Err}
use Rattle.tcsb.proofs.Heeding.{body_refused, body-misnumbered, tried, body_full, body-taken}
use Rattle.tcsb.proofs.tcsb.Tcsb.receive_body.Goals as goal

pub returns-in_err-row : goal.returns-in_err-row
returns-in_err-row c =
    let a = c.args in
    let e : c.from_residual.result ≡ Err c.in_err-row.field-0.0 = search rules in
    rw e (body_refused a.self.now a.list.now a.inbox.now a.outbox.now a.s.now a.read.now c.admit.ensures c.in_err-row.was)

pub returns-then-is_misnumbered : goal.returns-then-is_misnumbered
returns-then-is_misnumbered c =
    let a = c.args in
    body-misnumbered a.self.now a.list.now a.inbox.now a.outbox.now a.s.now a.read.now c.admit.ensures c.in_ok-row.was c.is_misnumbered.ensures c.if-is_misnumbered.true

pub returns-in_err-verdict : goal.returns-in_err-verdict
returns-in_err-verdict c =
    let a = c.args in
    let e : c.from_residual-in_err-verdict.result ≡ Err c.in_err-verdict.field-0.0 = search rules in
    let T =
    tried a.self.now a.list.now a.inbox.now a.outbox.now a.s.now a.read.now c.admit.ensures c.in_ok-row.was c.is_misnumbered.ensures c.if-is_misnumbered.false
    c.event_from.ensures c.take.ensures
    in
    rw e (body_full a.self.now a.list.now a.inbox.now a.outbox.now a.s.now a.read.now T c.in_err-verdict.was)

pub returns : goal.returns
returns c =
    let a = c.args in
    let T =
    tried a.self.now a.list.now a.inbox.now a.outbox.now a.s.now a.read.now c.admit.ensures c.in_ok-row.was c.is_misnumbered.ensures c.if-is_misnumbered.false
    c.event_from.ensures c.take.ensures
    in
    body-taken a.self.now a.list.now a.inbox.now a.outbox.now a.s.now a.read.now T c.in_ok-verdict.was c.our_place.ensures c.extend.ensures
