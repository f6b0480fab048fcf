use mathlib.Core.Path.{sym, ◌∙◌}
use Rattle.telegram.proofs.Inside.{head-names}
use Rattle.telegram.proofs.items.read_form.Goals as goal

pub items_end-requires : goal.items_end-requires
items_end-requires g c = (head-names _ _ _ _ (sym c.read_head.ensures ∙ c.in_ok-head.was)).few
