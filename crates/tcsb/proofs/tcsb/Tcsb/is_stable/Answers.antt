use Rattle.tcsb.proofs.Stable.{stable_same, stable_moved}
use Rattle.tcsb.proofs.tcsb.Tcsb.is_stable.Goals as goal

pub returns-then-eq-clause-does : goal.returns-then-eq-clause-does
returns-then-eq-clause-does c =
    stable_same c.if-outbox-lt-OUTBOX.false c.column_wise_min_incremental.ensures c.in_ok-frontier.was c.eq.ensures c.if-eq.true

pub returns-clause-does : goal.returns-clause-does
returns-clause-does c =
    stable_moved c.if-outbox-lt-OUTBOX.false c.column_wise_min_incremental.ensures c.in_ok-frontier.was c.eq.ensures c.if-eq.false c.prune.ensures
