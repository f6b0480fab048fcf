use mathlib.Core.Path.{sym, ◌∙◌}
use Rattle.telegram.proofs.Inside.{items-names}
use Rattle.telegram.proofs.items.read_items.Goals as goal

pub is_fair-requires : goal.is_fair-requires
is_fair-requires g c = (items-names _ _ g.I.Item.read_of _ _ (sym c.read_form.ensures ∙ c.in_ok-items.was)).few
