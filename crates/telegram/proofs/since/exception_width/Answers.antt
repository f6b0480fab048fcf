use native.Mathlib.Omega.{arith}
use Rattle.leb128.proofs.Spelling.{width_range}
use Rattle.telegram.proofs.since.exception_width.Goals as goal

pub overflow_add-result : goal.overflow_add-result
overflow_add-result c = let x = c.args.exception in omega (arith, c.width.ensures, c.width-2.ensures, width_range x.place.0, width_range x.number)
