use Rattle.clock.proofs.Entrywise.{same_both}
use Rattle.clock.proofs.version_vector.Row.eq.Goals as goal

pub returns-then-at_most : goal.returns-then-at_most
returns-then-at_most c = rw (← same_both c.args.members c.args.self.entries c.args.other.entries, ← c.at_most-then-at_most.ensures, ← c.at_most.ensures, c.if-at_most.true)

pub returns-else-at_most : goal.returns-else-at_most
returns-else-at_most c = rw (← same_both c.args.members c.args.self.entries c.args.other.entries, ← c.at_most.ensures, c.if-at_most.false)
