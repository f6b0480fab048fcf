use mathlib.Core.Path.{sym, ◌∙◌}
use Rattle.telegram.proofs.Inside.{list-names}
use Rattle.telegram.proofs.head.read_head.Goals as goal

pub read_entries-requires : goal.read_entries-requires
read_entries-requires c = (list-names _ _ _ _ (sym c.read_list.ensures ∙ c.in_ok-list.was)).few
