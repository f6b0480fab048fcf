use Prim.Native.Nat.{◌≤◌}
use Rattle.tcsb.proofs.Placing.{Moving}
use Rattle.tcsb.proofs.internalizer.Translation.our_row.Given as goal

abbrev pub invariant-loop-p : goal.invariant-loop-p
invariant-loop-p l = l.self.count ≤ 16 → Moving l.self l.entries l.row.entries l.p
