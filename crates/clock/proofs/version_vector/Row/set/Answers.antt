use mathlib.Core.Path.{◌≡◌, sym}
use native.Mathlib.Omega.{arith}
use lib.ListN.{length}
use lib.Seq.{set_out}
use borrow.Author.Rules.{rules}
use Rattle.clock.proofs.version_vector.Row.set.Goals as goal

pub returns-else-at-lt-MEMBERS : goal.returns-else-at-lt-MEMBERS
returns-else-at-lt-MEMBERS c = let e : length c.args.self.entries ≡ 16 = search rules in sym (set_out c.args.self.entries c.args.idx.0 c.args.value (omega arith))
