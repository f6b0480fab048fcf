use borrow.Author.Rules.{rules}
use mathlib.Core.Path.{◌≡◌, sym, ◌∙◌}
use Rattle.std.specs.Prelude.{Err}
use Rattle.tcsb.proofs.Calls.{words_none, writes_short}
use Rattle.tcsb.proofs.Flushes.{flush_refused, flush_written}
use Rattle.tcsb.proofs.tcsb.Tcsb.flush.Goals as goal

pub returns-then-not-has_words : goal.returns-then-not-has_words
returns-then-not-has_words c = writes_short (words_none (sym c.has_words.ensures ∙ c.if-not-has_words.true))

pub returns-in_err-end : goal.returns-in_err-end
returns-in_err-end c =
    let e : c.from_residual.result ≡ Err c.in_err-end.field-0.0 = search rules in
    rw e (flush_refused c.deliver_all-slots.ensures (c.is_stable.ensures.does _ _) c.write_batch.ensures (sym c.has_words.ensures ∙ c.if-not-has_words.false) c.in_err-end.was)

pub returns : goal.returns
returns c =
    flush_written c.deliver_all-slots.ensures (c.is_stable.ensures.does _ _) c.write_batch.ensures (sym c.has_words.ensures ∙ c.if-not-has_words.false) c.in_ok-end.was
