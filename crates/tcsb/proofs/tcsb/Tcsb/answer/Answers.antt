use mathlib.Core.Path.{◌≡◌}
use Rattle.std.specs.Prelude.{Err}
use Rattle.tcsb.proofs.Writes.{passed_on}
use Rattle.tcsb.proofs.Pulls.{answer_refused, answer_done}
use Rattle.tcsb.proofs.tcsb.Tcsb.answer.Goals as goal

pub returns-in_err-end : goal.returns-in_err-end
returns-in_err-end c =
    let a = c.args in
    let e : c.from_residual.result ≡ Err c.in_err-end.field-0.0 = passed_on c.from_residual.result c.in_err-end.field-0.0 c.from_residual.ensures.1 (λ j p. p) in
    λ p. rw e (answer_refused a.self.now _ _ a.s.now _ a.since.now a.row
    c.our_place-requester.ensures c.our_row-requested.ensures c.read_ids-ids.ensures c.requires c.wanted-slots.ensures c.write_batch.ensures p c.in_err-end.was)

pub returns : goal.returns
returns c =
    let a = c.args in
    λ p. answer_done a.self.now _ _ a.s.now _ a.since.now a.row
    c.our_place-requester.ensures c.our_row-requested.ensures c.read_ids-ids.ensures c.requires c.wanted-slots.ensures c.write_batch.ensures p c.in_ok-end.was c.extend.ensures
