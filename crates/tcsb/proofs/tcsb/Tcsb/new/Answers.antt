use mathlib.Core.Path.{◌≡◌, sym}
use lib.ListN.{replicate}
use Rattle.std.proofs.Common.{rules, Err}
use Rattle.lists.specs.Lists.{tab}
use Rattle.lists.proofs.Laws.{tab-same}
use Rattle.tcsb.specs.Internalizer.{no_translation}
use Rattle.tcsb.proofs.Beginning.{founds_short, founds_few, founds_unjudged, judged, founds_nowhere, matrix_made, cut_made, cut_refused, founds_done}
use Rattle.tcsb.proofs.tcsb.Tcsb.new.Goals.{then-not-has_words-via-then-not-has_words, then-not-has_words-via-else-not-has_words+then-names-lt2}
use Rattle.tcsb.proofs.tcsb.Tcsb.new.Goals as goal

pub returns-then-not-has_words : goal.returns-then-not-has_words
returns-then-not-has_words c =
    let a = c.args in
    elim c.then-not-has_words.branch [
      | then-not-has_words-via-then-not-has_words w ↦ founds_short a.list.now a.names.now a.place a.inbox.now a.outbox.now (sym w.if-not-has_words.ensures)
      | then-not-has_words-via-else-not-has_words+then-names-lt2 w ↦ founds_few a.list.now a.names.now a.place a.inbox.now a.outbox.now w.if-names-lt2.true
    ]

pub returns-in_err-judge_list : goal.returns-in_err-judge_list
returns-in_err-judge_list c =
    let a = c.args in
    let e : c.from_residual.result ≡ Err c.in_err-judge_list.field-0.0 = search rules in
    let w = sym c.if-not-has_words.ensures in
    rw e (founds_unjudged a.list.now a.names.now a.place a.inbox.now a.outbox.now w c.if-names-lt2.false c.judge_list.ensures c.in_err-judge_list.was)

pub returns-in_err-new : goal.returns-in_err-new
returns-in_err-new c =
    let a = c.args in
    let e : c.from_residual-in_err-new.result ≡ Err c.in_err-new.field-0.0 = search rules in
    let J = judged a.list.now a.names.now a.place a.inbox.now a.outbox.now (sym c.if-not-has_words.ensures) c.if-names-lt2.false c.judge_list.ensures c.in_ok-judge_list.was in
    rw e (founds_nowhere a.list.now a.names.now a.place a.inbox.now a.outbox.now J c.new.ensures c.in_err-new.was)

pub returns-in_err-new-2 : goal.returns-in_err-new-2
returns-in_err-new-2 c =
    let a = c.args in
    let J = judged a.list.now a.names.now a.place a.inbox.now a.outbox.now (sym c.if-not-has_words.ensures) c.if-names-lt2.false c.judge_list.ensures c.in_ok-judge_list.was in
    absurd (cut_refused a.list.now a.names.now a.place a.inbox.now a.outbox.now J c.new-2.ensures c.in_err-new-2.was)

pub returns : goal.returns
returns c =
    let a = c.args in
    let J = judged a.list.now a.names.now a.place a.inbox.now a.outbox.now (sym c.if-not-has_words.ensures) c.if-names-lt2.false c.judge_list.ensures c.in_ok-judge_list.was in
    let M = matrix_made a.list.now a.names.now a.place a.inbox.now a.outbox.now J c.new.ensures c.in_ok-new.was in
    let F = cut_made a.list.now a.names.now a.place a.inbox.now a.outbox.now J c.new-2.ensures c.in_ok-new-2.was in
    let K : replicate 16 c.none-2.result ≡ tab 16 (λ i. no_translation) = rw c.none-2.ensures (tab-same 16 no_translation) in
    founds_done a.list.now a.names.now a.place a.inbox.now a.outbox.now J M.0 (λ i. record {
      names = a.names.now;
      matrix = M.1 i;
      frontier = F i;
      raised = record { raised = c.none.ensures i };
      known = K i;
      inbox = c.new-3.ensures i;
      outbox = c.new-4.ensures i;
    })
