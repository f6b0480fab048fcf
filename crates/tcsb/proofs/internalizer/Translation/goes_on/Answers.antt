use borrow.Author.Tests.{lt-leb}
use mathlib.Core.Path.{◌∙◌}
use Rattle.std.proofs.Common.{rules}
use Rattle.tcsb.proofs.Placing.{continues_told, continues-short}
use Rattle.tcsb.proofs.internalizer.Translation.goes_on.Goals as goal

pub returns-then-known-self : goal.returns-then-known-self
returns-then-known-self c =
    let a = c.args in
    λ few. continues_told c.all.result a.known.now a.self.now few c.if-known-self.true (search rules)

pub returns-else-known-self : goal.returns-else-known-self
returns-else-known-self c =
    let a = c.args in
    let e = lt-leb a.known.now.count a.self.now.count c.if-known-self.false in
    λ few. e ∙ continues-short a.known.now a.self.now e
