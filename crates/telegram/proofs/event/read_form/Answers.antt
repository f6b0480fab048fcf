use mathlib.Core.Path.{sym, ◌∙◌}
use Rattle.telegram.proofs.Inside.{list-names}
use Rattle.telegram.proofs.event.read_form.Goals as goal

pub read_fields-requires : goal.read_fields-requires
read_fields-requires c = (list-names _ _ _ _ (sym c.read_list.ensures ∙ c.in_ok-list.was)).few
