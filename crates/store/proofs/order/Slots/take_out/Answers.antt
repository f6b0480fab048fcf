use lib.ListN.{length}
use mathlib.Core.Path.{◌≡◌}
use borrow.Author.Rules.{rules}
use Rattle.store.specs.Orders.{moved_down}
use Rattle.store.proofs.Moving.{lowered}
use Rattle.store.proofs.order.Slots.take_out.Goals as goal

pub returns-clause-rest : goal.returns-clause-rest
returns-clause-rest c =
    let s = c.args.self.now in
    let n : length s.at ≡ 256 = search rules in
    let b = c.copy_within.ensures.by_index in
    let e = lowered s c.args.position c.copy_within.new.self n c.copy_within.ensures.len c.requires.0 b.0 b.1 b.2 in
    λ i. record { at = e i; count = (moved_down s c.args.position).count }
