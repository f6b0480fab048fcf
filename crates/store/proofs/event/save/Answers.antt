use Rattle.store.proofs.Runs.{saved}
use mir.Val.{Fits}
use mir.Syntax.{w8}
use lib.ListN.{get_or}
use Prim.Native.Nat.{ℕ}
use borrow.Author.Rules.{rules}
use Rattle.store.proofs.event.save.Goals as goal

pub returns : goal.returns
returns c =
    let e = c.args.event in
    let fit : (i : ℕ) → Fits w8 (get_or e.operation i 0) = search rules in
    saved _ _ _ _ _ e _ (search rules) (search rules) (λ i. (fit i).fits) c.words_of.ensures c.put_run.ensures c.put_run-2.ensures c.put_run-3.ensures
