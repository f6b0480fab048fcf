use lib.ListN.{length}
use Rattle.lists.specs.Lists.{at}
use Rattle.clock.specs.Matrix.{column, settled}
use Rattle.lists.proofs.Laws.{over_clamp}
use Rattle.lists.proofs.Turns.{make_none, make_more, make_skip, make_all}
use native.Mathlib.Omega.{arith}
use mathlib.Core.Path.{◌≡◌, refl, ◌∙◌}
use borrow.Author.Rules.{rules}
use Rattle.clock.proofs.matrix_clock.MatrixClock.settled_cut.Goals as goal
use Rattle.clock.proofs.matrix_clock.MatrixClock.settled_cut.Goals.{then-columns-j, else-columns-j}

pub loop-j-init : goal.loop-j-init
loop-j-init c = let e : length c.args.cut.entries ≡ 16 = search rules in (c.min-n.ensures, make_none (omega (arith, c.min-n.ensures)))

pub loop-j-preserved : goal.loop-j-preserved
loop-j-preserved c =
    let m = c.loop-j.invariant.1 in
    let j = c.loop-j.j in
    let clock = c.args.self.now in
    let raised = c.args.columns.raised in
    let last = at c.args.cut.entries j in (
      c.loop-j.invariant.0,
      elim c.if-columns-j.branch [
        | then-columns-j w ↦
            let e : column clock.rows clock.members raised j last ≡ settled clock.rows clock.members j last = rw w.if-columns-j.true refl in
            rw (w.r-is, w.settled_entry.ensures, ← e) (make_more m (omega arith))
        | else-columns-j w ↦
            let e : column clock.rows clock.members raised j last ≡ last = rw w.if-columns-j.false refl in
            rw w.r-is (make_skip m (omega arith) e)
      ],
    )

pub returns : goal.returns
returns c =
    let e : length c.args.cut.entries ≡ 16 = search rules in
    make_all c.loop-j.invariant.1 c.loop-j-test.false
    ∙ rw c.loop-j.invariant.0
    (over_clamp 0 c.args.self.now.members 16 (λ k. column c.args.self.now.rows c.args.self.now.members c.args.columns.raised k (at c.args.cut.entries k)) c.args.cut.entries e)
