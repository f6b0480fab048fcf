use Rattle.lists.specs.Lists.{at}
use Rattle.lists.proofs.Laws.{over_clamp}
use Rattle.lists.proofs.Turns.{make_none, make_more, make_all}
use lib.ListN.{length}
use native.Mathlib.Omega.{arith}
use mathlib.Core.Path.{◌≡◌, ◌∙◌}
use borrow.Author.Rules.{rules}
use Rattle.clock.proofs.version_vector.Row.merge.Goals as goal

pub loop-i-init : goal.loop-i-init
loop-i-init g c = let e : length c.args.self.entries ≡ 16 = search rules in (search rules, make_none {f = λ j. g.by (at c.args.self.entries j) (at c.args.other.entries j)} (omega arith))

pub loop-i-preserved : goal.loop-i-preserved
loop-i-preserved g c = (c.loop-i.invariant.0, rw (c.requires.1.1 _ _ _ (search rules) (search rules) c.pick.ensures) (make_more c.loop-i.invariant.1 (omega arith)))

pub returns : goal.returns
returns g c =
    let e : length c.args.self.entries ≡ 16 = search rules in
    make_all {f = λ j. g.by (at c.args.self.entries j) (at c.args.other.entries j)} c.loop-i.invariant.1 c.loop-i-test.false
    ∙ rw c.loop-i.invariant.0 (over_clamp 0 c.args.members 16 (λ j. g.by (at c.args.self.entries j) (at c.args.other.entries j)) c.args.self.entries e)
