use lib.ListN.{length}
use mathlib.Core.Path.{◌≡◌}
use borrow.Author.Rules.{rules}
use Rattle.store.specs.Orders.{moved_up}
use Rattle.store.proofs.Moving.{raised}
use Rattle.store.proofs.order.Slots.put_at.Goals as goal

pub returns : goal.returns
returns c =
    let s = c.args.self.now in
    let n : length s.at ≡ 256 = search rules in
    let b = c.copy_within.ensures.by_index in
    let e = raised s c.args.position c.args.slot c.copy_within.new.self n c.copy_within.ensures.len c.requires.0 c.requires.1 b.0 b.1 b.2 in
    λ i. record { at = e i; count = (moved_up s c.args.position c.args.slot).count }
