use Rattle.telegram.proofs.Laying.{PuttingEach}
use Rattle.telegram.proofs.Widths.{name_bytes}
use Rattle.telegram.proofs.list.put_list.Given as goal

abbrev pub invariant-loop-part : goal.invariant-loop-part
invariant-loop-part l = PuttingEach (name_bytes l.s l.names) l.names.count l.initial.out l.out l.initial.next l.next l.part-index
