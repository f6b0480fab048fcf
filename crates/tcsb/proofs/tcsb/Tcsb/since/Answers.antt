use borrow.Author.Rules.{rules}
use mathlib.Core.Path.{◌≡◌}
use Rattle.std.specs.Prelude.{Err}
use Rattle.tcsb.proofs.Batches.{since-short, since_wide, since_refused, since-wrote}
use Rattle.tcsb.proofs.tcsb.Tcsb.since.Goals as goal

pub returns-then-inbox-lt-INBOX : goal.returns-then-inbox-lt-INBOX
returns-then-inbox-lt-INBOX c = since-short c.if-inbox-lt-INBOX.true

pub returns-in_err-behind : goal.returns-in_err-behind
returns-in_err-behind c =
    let e : c.from_residual.result ≡ Err c.in_err-behind.field-0.0 = search rules in
    rw e (since_wide _ _ c.if-inbox-lt-INBOX.false c.head-head.ensures c.items_width.ensures c.in_err-behind.was)

pub returns-in_err-at : goal.returns-in_err-at
returns-in_err-at c =
    let e : c.from_residual-in_err-at.result ≡ Err c.in_err-at.field-0.0 = search rules in
    rw e (since_refused _ _ c.if-inbox-lt-INBOX.false c.head-head.ensures c.items_width.ensures c.in_ok-behind.was c.write_since_head.ensures c.in_err-at.was)

pub returns : goal.returns
returns c =
    since-wrote _ _ c.if-inbox-lt-INBOX.false c.head-head.ensures c.items_width.ensures c.in_ok-behind.was c.write_since_head.ensures c.in_ok-at.was c.put_items.ensures
