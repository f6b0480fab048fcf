use mathlib.Core.Path.{◌≡◌, sym, ◌∙◌}
use Rattle.std.proofs.Common.{rules, Err}
use Rattle.tcsb.proofs.Heeding.{receive_unread, receive_read}
use Rattle.tcsb.proofs.tcsb.Tcsb.receive.Goals as goal

pub returns-in_err-read : goal.returns-in_err-read
returns-in_err-read c =
    let a = c.args in
    let e : c.from_residual.result ≡ Err c.in_err-read.field-0.0 = search rules in
    rw e (receive_unread a.self.now a.list.now a.inbox.now a.outbox.now a.s.now (sym c.if-not-has_words.ensures) (sym c.read_event.ensures ∙ c.in_err-read.was))

pub returns : goal.returns
returns c =
    let a = c.args in
    receive_read a.self.now a.list.now a.inbox.now a.outbox.now a.s.now (sym c.if-not-has_words.ensures) (sym c.read_event.ensures ∙ c.in_ok-read.was) c.receive_body.ensures
