use mathlib.Core.Path.{sym, ◌∙◌}
use Rattle.telegram.specs.Fields.{sized}
use Rattle.telegram.proofs.Inside.{counted_range, part-whole}
use Rattle.telegram.proofs.field.read_sized.Goals as goal

pub overflow_sub-s : goal.overflow_sub-s
overflow_sub-s c = (counted_range _ _ _ _ _ _ (sym c.read_count.ensures ∙ c.in_ok-length.was)).inside

pub returns : goal.returns
unfolding sized
returns c =
    let e = sym c.read_count.ensures ∙ c.in_ok-length.was in
    rw e (sym (part-whole _ _ _ (counted_range _ _ _ _ _ _ e).inside c.if-s-start.false))
