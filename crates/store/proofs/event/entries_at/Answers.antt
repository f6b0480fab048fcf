use Prim.Native.Nat.{ℕ, ◌+◌, ◌*◌}
use lib.ListN.{get_or}
use mathlib.Core.Path.{◌≡◌}
use borrow.Author.Rules.{rules}
use Rattle.store.proofs.Made.{made}
use Rattle.store.proofs.event.entries_at.Goals as goal

pub returns : goal.returns
returns c =
    let w = c.args.words.now in
    let a : ℕ = 27 * c.args.slot + 3 in
    made c.from_fn.ensures.items 0 (λ f. (f.0.now ≡ w) × (f.1.now ≡ a)) (λ k. get_or w (a + k) 0) (search rules) (λ p q k y a l t. search rules)
