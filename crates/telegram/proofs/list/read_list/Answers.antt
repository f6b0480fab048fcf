use mathlib.Core.Path.{sym, ◌∙◌}
use Rattle.telegram.proofs.Inside.{counted_range}
use Rattle.telegram.proofs.list.read_list.Goals as goal

pub read_names-requires : goal.read_names-requires
read_names-requires c = (counted_range _ _ _ _ _ _ (sym c.read_count.ensures ∙ c.in_ok-count.was)).most
