use Rattle.store.specs.Words.{event_from}
use Rattle.store.proofs.order.id_at.Goals as goal

pub returns : goal.returns
unfolding event_from
returns c = rw (c.word-2.ensures, c.word.ensures)
