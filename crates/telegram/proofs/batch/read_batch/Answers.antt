use mathlib.Core.Path.{sym, ap, ◌∙◌}
use borrow.Author.Rules.{rules}
use Rattle.std.specs.Prelude.{Ok}
use Rattle.refusal.specs.Refusal.{then}
use Rattle.telegram.specs.Reading.{Whole}
use Rattle.telegram.specs.declared.items.Items.{Items}
use Rattle.telegram.proofs.Made.{as_batch, batch_made}
use Rattle.telegram.proofs.batch.read_batch.Goals as goal

pub returns-in_err-items : goal.returns-in_err-items
returns-in_err-items c =
    rw (batch_made c.args.s.now ∙ ap (λ (w : Whole Items). then w (λ i. Ok (as_batch i))) (sym c.read_items.ensures ∙ c.in_err-items.was)) (search rules)

pub returns : goal.returns
returns c = sym (batch_made c.args.s.now ∙ ap (λ (w : Whole Items). then w (λ i. Ok (as_batch i))) (sym c.read_items.ensures ∙ c.in_ok-items.was))
