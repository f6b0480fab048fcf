use mathlib.Core.Path.{sym, ◌∙◌}
use Rattle.telegram.proofs.Inside.{event-names}
use Rattle.telegram.proofs.event.read_event.Goals as goal

pub is_fair-requires : goal.is_fair-requires
is_fair-requires c = (event-names _ _ (sym c.read_form.ensures ∙ c.in_ok-event.was)).few
