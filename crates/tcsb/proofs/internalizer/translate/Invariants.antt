use Prim.Native.Nat.{◌≤◌}
use Rattle.tcsb.proofs.Placing.{Translating}
use Rattle.tcsb.proofs.internalizer.translate.Given as goal

abbrev pub invariant-loop-p : goal.invariant-loop-p
invariant-loop-p l = l.names.count ≤ 16 → l.listed.count ≤ 16 → Translating l.list l.names l.s l.listed l.places l.p
