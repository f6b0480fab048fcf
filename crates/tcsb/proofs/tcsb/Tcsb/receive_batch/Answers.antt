use mathlib.Core.Path.{◌≡◌, sym, ◌∙◌}
use Rattle.std.proofs.Common.{rules, Err}
use Rattle.tcsb.proofs.Batching.{batch-few, call_unread, call_unadmitted, call_admitted}
use Rattle.tcsb.proofs.tcsb.Tcsb.receive_batch.Goals as goal

pub returns-in_err-batch : goal.returns-in_err-batch
returns-in_err-batch c =
    let e : c.from_residual.result ≡ Err c.in_err-batch.field-0.0 = search rules in
    rw e (call_unread c.args.s.now _ (sym c.has_words.ensures ∙ c.if-not-has_words.false) c.read_batch.ensures c.in_err-batch.was)

pub returns-in_err-row : goal.returns-in_err-row
returns-in_err-row c =
    let e : c.from_residual-in_err-row.result ≡ Err c.in_err-row.field-0.0 = search rules in
    rw e (call_unadmitted c.args.s.now _ (sym c.has_words.ensures ∙ c.if-not-has_words.false) c.read_batch.ensures c.in_ok-batch.was c.admit.ensures c.in_err-row.was)

pub receive_bodies-requires : goal.receive_bodies-requires
receive_bodies-requires c = batch-few c.args.s.now c.read_batch.ensures c.in_ok-batch.was

pub returns : goal.returns
returns c =
    call_admitted c.args.s.now (sym c.has_words.ensures ∙ c.if-not-has_words.false) c.read_batch.ensures c.in_ok-batch.was c.admit.ensures c.in_ok-row.was
    (c.receive_bodies.ensures c.args.list.now)
