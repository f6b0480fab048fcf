use mathlib.Core.Path.{◌≡◌}
use borrow.Author.Rules.{rules}
use Rattle.store.specs.Words.{word_of}
use Rattle.store.proofs.Made.{made}
use Rattle.store.proofs.event.words_of.Goals as goal

pub returns : goal.returns
unfolding word_of
returns c =
    let b = c.args.operation.now in
    made c.from_fn.ensures.items 0 (λ f. f.0.now ≡ b) (word_of b) (search rules) (λ p q k y a l t. search rules)
