use borrow.Author.Rules.{rules}
use mathlib.Core.Path.{◌≡◌, sym, ◌∙◌}
use Rattle.std.specs.Prelude.{Err}
use Rattle.tcsb.proofs.Writes.{unsent_short}
use Rattle.tcsb.proofs.Pulls.{since_held, pull_bad, pull_strange, pull_answered}
use Rattle.tcsb.proofs.tcsb.Tcsb.pull.Goals as goal

pub returns-then-outbox-lt-OUTBOX : goal.returns-then-outbox-lt-OUTBOX
returns-then-outbox-lt-OUTBOX c = λ p. unsent_short _ c.if-outbox-lt-OUTBOX.true

pub answer-requires : goal.answer-requires
answer-requires c = (since_held c.args.s.now c.in_ok-since.since (sym c.read_since.ensures ∙ c.in_ok-since.was)).few

pub returns-in_err-since : goal.returns-in_err-since
returns-in_err-since c =
    let a = c.args in
    let e : c.from_residual.result ≡ Err c.in_err-since.field-0.0 = search rules in
    λ p. rw e (pull_bad a.self.now _ _ a.s.now _ c.if-outbox-lt-OUTBOX.false p (sym c.read_since.ensures ∙ c.in_err-since.was))

pub returns-in_err-row : goal.returns-in_err-row
returns-in_err-row c =
    let a = c.args in
    let e : c.from_residual-in_err-row.result ≡ Err c.in_err-row.field-0.0 = search rules in
    λ p. rw e (pull_strange a.self.now _ _ a.s.now _ c.if-outbox-lt-OUTBOX.false p (sym c.read_since.ensures ∙ c.in_ok-since.was) c.admit.ensures c.in_err-row.was)

pub returns : goal.returns
returns c =
    let a = c.args in
    λ p. pull_answered a.self.now _ _ a.s.now _ c.if-outbox-lt-OUTBOX.false p (sym c.read_since.ensures ∙ c.in_ok-since.was) c.admit.ensures c.in_ok-row.was (c.answer.ensures p)
