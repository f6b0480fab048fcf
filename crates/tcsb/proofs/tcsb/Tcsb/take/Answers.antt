use mathlib.Core.Path.{◌≡◌, sym}
use Rattle.std.proofs.Common.{rules, Err}
use denote.Enum.Bare.{same_true}
use Rattle.tcsb.specs.contracts.receive.Verdict.{the_type}
use Rattle.tcsb.specs.declared.receive.Verdict.TheVariants.{Taken}
use Rattle.tcsb.proofs.Taking.{roomed, takes_not, takes_one, more_in, more_out}
use Rattle.tcsb.proofs.tcsb.Tcsb.take.Goals as goal

pub returns-in_err-room_for : goal.returns-in_err-room_for
returns-in_err-room_for c =
    let a = c.args in
    let e : c.from_residual.result ≡ Err c.in_err-room_for.field-0.0 = search rules in
    let v : c.judge-verdict.result ≡ Taken = same_true the_type (search rules) _ _ (sym c.if-eq.ensures) in
    let m : c.new_in-more.result ≡ more_in a.self.now a.inbox.now a.outbox.now a.event = search rules in
    let x : c.new_in-extra.result ≡ more_out a.self.now a.inbox.now a.outbox.now a.event = search rules in
    let R = roomed a.self.now a.inbox.now a.outbox.now a.event c.judge-verdict.ensures v m x c.room_for.ensures in
    rw e (takes_not a.self.now a.inbox.now a.outbox.now a.event R c.in_err-room_for.was)

pub returns-in_ok-room_for : goal.returns-in_ok-room_for
returns-in_ok-room_for c =
    let a = c.args in
    let v : c.judge-verdict.result ≡ Taken = same_true the_type (search rules) _ _ (sym c.if-eq.ensures) in
    let m : c.new_in-more.result ≡ more_in a.self.now a.inbox.now a.outbox.now a.event = search rules in
    let x : c.new_in-extra.result ≡ more_out a.self.now a.inbox.now a.outbox.now a.event = search rules in
    let R = roomed a.self.now a.inbox.now a.outbox.now a.event c.judge-verdict.ensures v m x c.room_for.ensures in
    rw v (takes_one a.self.now a.inbox.now a.outbox.now a.event R c.in_ok-room_for.was c.record.ensures)
