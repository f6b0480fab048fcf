use mathlib.Core.Path.{◌≡◌, refl, sym, ◌∙◌}
use mathlib.Core.Bool.{◌||◌}
use Rattle.std.proofs.Common.{rules}
use Rattle.tcsb.proofs.Surveying.{own_so_far, wrong_so_far, surveys_more, noting_taken, noting_none, is_taken_lem}
use Rattle.tcsb.proofs.tcsb.Tcsb.survey_body.Goals as goal

pub returns-then-eq : goal.returns-then-eq
returns-then-eq c =
    let a = c.args in
    let own : (a.survey.now.own || c.eq.result) ≡ own_so_far a.self.now a.row.now a.survey.now a.body.now = search rules in
    let wrong : (a.survey.now.misnumbered || c.is_misnumbered.result) ≡ wrong_so_far a.survey.now a.body.now = search rules in
    surveys_more c.requires c.event_from-event.ensures c.judge-verdict.ensures c.count.ensures own wrong
    (noting_taken (sym (is_taken_lem c.judge-verdict.result) ∙ (sym c.eq-2.ensures ∙ c.if-eq.true)) c.note.ensures)

pub returns-else-eq : goal.returns-else-eq
returns-else-eq c =
    let a = c.args in
    let own : (a.survey.now.own || c.eq.result) ≡ own_so_far a.self.now a.row.now a.survey.now a.body.now = search rules in
    let wrong : (a.survey.now.misnumbered || c.is_misnumbered.result) ≡ wrong_so_far a.survey.now a.body.now = search rules in
    surveys_more c.requires c.event_from-event.ensures c.judge-verdict.ensures c.count.ensures own wrong
    (noting_none (sym (is_taken_lem c.judge-verdict.result) ∙ (sym c.eq-2.ensures ∙ c.if-eq.false)) refl)
