use Rattle.store.specs.Words.{event_from}
use Rattle.store.proofs.event.load.Goals as goal

pub returns : goal.returns
unfolding event_from
returns c = rw (c.operation_at.ensures, c.word-3.ensures, c.entries_at.ensures, c.word-2.ensures, c.word.ensures)
