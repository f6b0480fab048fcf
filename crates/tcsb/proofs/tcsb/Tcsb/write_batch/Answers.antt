use borrow.Author.Rules.{rules}
use mathlib.Core.Path.{◌≡◌}
use Rattle.std.specs.Prelude.{Err}
use Rattle.tcsb.proofs.Batches.{batch_wide, batch_refused, batch-wrote}
use Rattle.tcsb.proofs.tcsb.Tcsb.write_batch.Goals as goal

pub returns-in_err-behind : goal.returns-in_err-behind
returns-in_err-behind c =
    let e : c.from_residual.result ≡ Err c.in_err-behind.field-0.0 = search rules in
    rw e (batch_wide _ _ c.head-head.ensures c.items_width.ensures c.in_err-behind.was)

pub returns-in_err-at : goal.returns-in_err-at
returns-in_err-at c =
    let e : c.from_residual-in_err-at.result ≡ Err c.in_err-at.field-0.0 = search rules in
    rw e (batch_refused _ _ c.head-head.ensures c.items_width.ensures c.in_ok-behind.was c.write_batch_head.ensures c.in_err-at.was)

pub returns : goal.returns
returns c = batch-wrote _ _ c.head-head.ensures c.items_width.ensures c.in_ok-behind.was c.write_batch_head.ensures c.in_ok-at.was c.put_items.ensures
