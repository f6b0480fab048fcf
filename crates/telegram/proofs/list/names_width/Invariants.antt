use Rattle.lists.proofs.Turns.{Passing}
use Rattle.telegram.specs.Writing.{part_fits}
use Rattle.telegram.proofs.Parts.{part_of}
use Rattle.telegram.proofs.Widths.{Measuring, name_bytes}
use Rattle.telegram.proofs.list.names_width.Given as goal

abbrev pub invariant-loop-part : goal.invariant-loop-part
invariant-loop-part l =
    Passing (λ j. part_fits 1 16 l.s (part_of l.names j)) l.names.count l.part-index × Measuring (name_bytes l.s l.names) l.names.count l.part-index l.sum
