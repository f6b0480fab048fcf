use Rattle.clock.proofs.Listing.{Listing}
use Rattle.clock.proofs.version_vector.dependencies_listed.Given as goal

abbrev pub invariant-loop-i : goal.invariant-loop-i
invariant-loop-i l = Listing l.version l.version.members l.i l.r
