-- What the walk over a batch's bodies finds, body by body. Assumes nothing.
use mathlib.Core.Path.{◌≡◌, refl, sym, ap, ◌∙◌}
use mathlib.Core.Bool.{Bool, true, false, cond, ◌&&◌, ◌||◌, or-false}
use mathlib.Core.List.{List, [], ◌∷◌, ◌++◌, map, append-nil}
use Prim.Native.Nat.{ℕ, zero, suc, ◌+◌, ◌-◌, ◌≤◌, ◌<◌}
use native.Mathlib.Numerals.{add-one}
use native.Mathlib.Omega.{arith}
use lib.ListN.{length, get_or, take}
use lib.Seq.{get_or-set_same, get_or-set_other}
use lib.Dec.{eqb}
use Rattle.std.specs.List.{list_any}
use Rattle.std.proofs.lemmas.List.Folds.{list_any_more}
use Rattle.lists.specs.Lists.{any}
use Rattle.refusal.specs.declared.Refusal.{Refusal}
use Rattle.clock.specs.declared.id.EventId.{EventId}
use Rattle.clock.specs.Version.{no_id, same_id}
use Rattle.leb128.specs.declared.Got.{Got}
use Rattle.telegram.specs.Fields.{many}
use Rattle.telegram.specs.Reading.{body, body_at}
use Rattle.telegram.specs.declared.body.Body.{Body}
use Rattle.store.specs.declared.event.Event.{Event}
use Rattle.store.specs.Orders.{Sorted, find_from, events, keep}
use Rattle.tcsb.specs.declared.internalizer.Translation.{Translation}
use Rattle.tcsb.specs.declared.tcsb.Tcsb.{Tcsb}
use Rattle.tcsb.specs.declared.receive.Verdict.{Verdict}
use Rattle.tcsb.specs.declared.receive.Verdict.TheVariants.{Taken, Duplicate, Stale}
use Rattle.tcsb.specs.contracts.receive.VerdictPartialEq.TheImpl as derived
use Rattle.tcsb.specs.declared.batch.Tally.{Tally}
use Rattle.tcsb.specs.declared.batch.Ids.{Ids}
use Rattle.tcsb.specs.declared.batch.Survey.{Survey}
use Rattle.tcsb.specs.Internalizer.{our_place, event_of}
use Rattle.tcsb.specs.Replica.{State, misnumbered, verdict_by, verdict_of, is_duplicate, is_stale, is_taken, taken_of, same_verdict, insert_all, count_of, tally_of, some_own, some_misnumbered}
use Rattle.tcsb.specs.Tcsb.{view}
use Rattle.tcsb.specs.Receive.{new_to}
use Rattle.tcsb.specs.Survey.{has_id, with_id, has_in, raised_tally, no_survey, Long, Few, noted_by, Surveys, SurveysMore, SurveysAll}
use Rattle.store.proofs.Pruning.{keep_append}
use Rattle.tcsb.proofs.Inserting.{id_is, is_id, has-append, one_again, one_more_lem, keep_yes, keep-no, count-append, own-append, misnumbered-append, map-append, insert_all-none}
use Rattle.tcsb.proofs.Walked.{Reached, reach_none, reach_more, reach_bad, reach_all, body-done, body_refused, many-fails, many-same, many-ends}
use Rattle.std.specs.Prelude.{Result, Ok, Err}
use Rattle.leb128.specs.Leb128.{Read, got}

-- ---- ids

-- some of the first n things of a list
any-taken : {A : Type 0} (d : A) (p : A → Bool) (l : List A) (n : ℕ) → n ≤ length l → list_any p (take n l) ≡ any n (λ k. p (get_or l k d))
unfolding any
any-taken d p l zero h = refl
any-taken d p l (suc n) h =
    let m : n < length l = omega arith in
    rw (← add-one n) (list_any_more p l n d m) ∙ ap (λ (b : Bool). b || p (get_or l n d)) (any-taken d p l n (omega arith))

-- tests that agree below n
any_same : (n : ℕ) (p q : ℕ → Bool) → ((j : ℕ) → j < n → p j ≡ q j) → any n p ≡ any n q
unfolding any
any_same zero p q h = refl
any_same (suc n) p q h = rw (any_same n p q (λ j lt. h j (omega arith)), h n (omega arith)) refl

abbrev pub id_of : ℕ → ℕ → EventId
id_of o n = record { idx = record { 0 = o }; seq = n }

-- a test of each id that is held
pub has-taken : (ids : Ids) (o n : ℕ) → Long ids → ids.count ≤ 256 → list_any (λ x. same_id x (id_of o n)) (take ids.count ids.at) ≡ has_id ids o n
has-taken ids o n l h = any-taken no_id (λ x. same_id x (id_of o n)) ids.at ids.count (omega (arith, l.places))

-- one id more
pub with_id_lem : (ids : Ids) (a b o n : ℕ) → ids.count < length ids.at → has_id (with_id ids a b) o n ≡ (has_id ids o n || (eqb a o && eqb b n))
unfolding any
with_id_lem ids a b o n f =
    let k = ids.count in
    let id_at : Ids → ℕ → Bool = λ ids k. same_id (get_or ids.at k no_id) (id_of o n) in
    rw (
      add-one,
      any_same k (id_at (with_id ids a b)) (id_at ids) (λ j lt. rw (get_or-set_other ids.at k j (id_of a b) no_id (λ q. omega arith)) refl),
      get_or-set_same ids.at k (id_of a b) no_id f,
    )
    refl

-- ---- an id noted

new_small : (f : Result ℕ ℕ) → new_to f ≤ 1
new_small (Ok i) = omega arith
new_small (Err i) = omega arith

-- ---- one body more: no count grows by more than one

-- what is noted for a verdict
abbrev pub note_for : List ℕ → List ℕ → Tcsb → Survey → Event → Verdict → Survey
note_for p q t v e Taken = noted_by p q t v e
note_for p q t v e Duplicate = v
note_for p q t v e Stale = v

-- the ids have their places where one is noted
abbrev pub LongFor : Survey → Verdict → Type 0
LongFor v Taken = Long v.ids
LongFor v Duplicate = Unit {0}
LongFor v Stale = Unit {0}

few-tally : (n : ℕ) (t : Tally) (w : Verdict) → t.taken ≤ n → t.duplicate ≤ n → t.stale ≤ n
    → ((raised_tally t w).taken ≤ n + 1) × (((raised_tally t w).duplicate ≤ n + 1) × ((raised_tally t w).stale ≤ n + 1))
few-tally n t Taken a b c = (omega arith, (omega arith, omega arith))
few-tally n t Duplicate a b c = (omega arith, (omega arith, omega arith))
few-tally n t Stale a b c = (omega arith, (omega arith, omega arith))

abbrev Fewer : ℕ → Survey → Type 0
Fewer n v = (v.ids.count ≤ n) × ((v.waiting ≤ n) × (v.kept ≤ n))

few_noted : (p q : List ℕ) (t : Tcsb) (v : Survey) (e : Event) (n : ℕ) (w : Verdict) → Fewer n v → Fewer (n + 1) (note_for p q t v e w)
few_noted p q t v e n Taken f =
    go (has_id v.ids e.origin.0 e.number)
    (new_small (find_from e.origin.0 e.number 0 (events p t.inbox.order))) (new_small (find_from e.origin.0 e.number 0 (events q t.outbox.order)))
  where
    go : (b : Bool) → new_to (find_from e.origin.0 e.number 0 (events p t.inbox.order)) ≤ 1 → new_to (find_from e.origin.0 e.number 0 (events q t.outbox.order)) ≤ 1
        → Fewer (n + 1) (cond b v (record {
          own = v.own;
          misnumbered = v.misnumbered;
          tally = v.tally;
          ids = with_id v.ids e.origin.0 e.number;
          waiting = v.waiting + new_to (find_from e.origin.0 e.number 0 (events p t.inbox.order));
          kept = v.kept + new_to (find_from e.origin.0 e.number 0 (events q t.outbox.order));
        }))
    go true h g = (omega (arith, f), (omega (arith, f), omega (arith, f)))
    go false h g = (omega (arith, f), (omega (arith, f), omega (arith, f)))
few_noted p q t v e n Duplicate f = (omega (arith, f), (omega (arith, f), omega (arith, f)))
few_noted p q t v e n Stale f = (omega (arith, f), (omega (arith, f), omega (arith, f)))

-- what is noted leaves all but ids and room
record Rest (v r : Survey) : Type 0 where
  pub own : r.own ≡ v.own
  pub misnumbered : r.misnumbered ≡ v.misnumbered
  pub tally : r.tally ≡ v.tally

rest_if : (b : Bool) (v x : Survey) → Rest v x → Rest v (cond b v x)
rest_if true v x r = record { own = refl; misnumbered = refl; tally = refl }
rest_if false v x r = r

rest_noted : (p q : List ℕ) (t : Tcsb) (v : Survey) (e : Event) (w : Verdict) → Rest v (note_for p q t v e w)
rest_noted p q t v e Taken = rest_if (has_id v.ids e.origin.0 e.number) v _ (record { own = refl; misnumbered = refl; tally = refl })
rest_noted p q t v e Duplicate = record { own = refl; misnumbered = refl; tally = refl }
rest_noted p q t v e Stale = record { own = refl; misnumbered = refl; tally = refl }

-- ---- one body more: what is counted

pub tally-more : (st : State) (es : List Event) (e : Event) → raised_tally (tally_of st es) (verdict_of st e) ≡ tally_of st (es ++ (e ∷ []))
tally-more st es e =
    go (verdict_of st e)
    ∙ (λ i. record { taken = sym (count-append st Taken es e) i; duplicate = sym (count-append st Duplicate es e) i; stale = sym (count-append st Stale es e) i })
  where
    none : (n : ℕ) → n ≡ n + 0
    none n = omega arith

    go : (w : Verdict) → raised_tally (tally_of st es) w
        ≡ record {
          taken = count_of st Taken es + cond (same_verdict w Taken) 1 0;
          duplicate = count_of st Duplicate es + cond (same_verdict w Duplicate) 1 0;
          stale = count_of st Stale es + cond (same_verdict w Stale) 1 0;
        }
    go Taken = λ i. record { taken = count_of st Taken es + 1; duplicate = none (count_of st Duplicate es) i; stale = none (count_of st Stale es) i }
    go Duplicate = λ i. record { taken = none (count_of st Taken es) i; duplicate = count_of st Duplicate es + 1; stale = none (count_of st Stale es) i }
    go Stale = λ i. record { taken = none (count_of st Taken es) i; duplicate = none (count_of st Duplicate es) i; stale = count_of st Stale es + 1 }

pub taken_more : (st : State) (es : List Event) (e : Event) → is_taken (verdict_of st e) ≡ true → taken_of st (es ++ (e ∷ [])) ≡ taken_of st es ++ (e ∷ [])
taken_more st es e h =
    keep_append (λ e. is_taken (verdict_of st e)) es (e ∷ []) ∙ ap (λ (l : List Event). taken_of st es ++ l) (keep_yes (λ e. is_taken (verdict_of st e)) e h)

pub taken-same : (st : State) (es : List Event) (e : Event) → is_taken (verdict_of st e) ≡ false → taken_of st (es ++ (e ∷ [])) ≡ taken_of st es
taken-same st es e h =
    keep_append (λ e. is_taken (verdict_of st e)) es (e ∷ [])
    ∙ (ap (λ (l : List Event). taken_of st es ++ l) (keep-no (λ e. is_taken (verdict_of st e)) e h) ∙ append-nil (taken_of st es))

-- an id that is there stays the only one
has_again : (o n : ℕ) (es : List Event) (e : Event) → has_in e.origin.0 e.number es ≡ true → has_in o n es ≡ has_in o n (es ++ (e ∷ []))
has_again o n es e h = go (id_is o n e) refl ∙ sym (has-append o n es e)
  where
    go : (b : Bool) → id_is o n e ≡ b → has_in o n es ≡ (has_in o n es || b)
    go true q = let r = is_id o n e q in let y : has_in o n es ≡ true = rw (← r.0, ← r.1) h in rw y refl
    go false q = sym (or-false (has_in o n es))

-- ---- one body more: ids and lengths

-- what is noted of the events that are taken, over two lists
record Notes (es inbox outbox : List Event) (v : Survey) : Type 0 where
  pub ids : (o n : ℕ) → has_id v.ids o n ≡ has_in o n es
  pub waiting : length inbox + v.waiting ≡ length (insert_all es inbox)
  pub kept : length outbox + v.kept ≡ length (insert_all es outbox)

notes_more : (p q : List ℕ) (t : Tcsb) (v : Survey) (es : List Event) (e : Event) → Sorted (events p t.inbox.order) → Sorted (events q t.outbox.order)
    → v.ids.count < length v.ids.at
    → Notes es (events p t.inbox.order) (events q t.outbox.order) v
    → Notes (es ++ (e ∷ [])) (events p t.inbox.order) (events q t.outbox.order) (noted_by p q t v e)
notes_more p q t v es e sp sq f h =
    go (has_id v.ids e.origin.0 e.number) (h.ids e.origin.0 e.number)
  where
    go : (b : Bool) → b ≡ has_in e.origin.0 e.number es
        → Notes (es ++ (e ∷ [])) (events p t.inbox.order) (events q t.outbox.order) (cond b v (record {
          own = v.own;
          misnumbered = v.misnumbered;
          tally = v.tally;
          ids = with_id v.ids e.origin.0 e.number;
          waiting = v.waiting + new_to (find_from e.origin.0 e.number 0 (events p t.inbox.order));
          kept = v.kept + new_to (find_from e.origin.0 e.number 0 (events q t.outbox.order));
        }))
    go true c = record {
      ids = λ o n. h.ids o n ∙ has_again o n es e (sym c);
      waiting = h.waiting ∙ sym (one_again es (events p t.inbox.order) e sp (sym c));
      kept = h.kept ∙ sym (one_again es (events q t.outbox.order) e sq (sym c));
    }
    go false c = record {
      ids = λ o n. with_id_lem v.ids e.origin.0 e.number o n f ∙ (ap (λ (b : Bool). b || id_is o n e) (h.ids o n) ∙ sym (has-append o n es e));
      waiting = omega (arith, h.waiting, one_more_lem es (events p t.inbox.order) e sp (sym c));
      kept = omega (arith, h.kept, one_more_lem es (events q t.outbox.order) e sq (sym c));
    }

-- a verdict is by matrix and frontier
pub verdict_by_lem : (st : State) (e : Event) → verdict_by st.matrix st.frontier e ≡ verdict_of st e
unfolding verdict_of is_duplicate is_stale
verdict_by_lem st e = refl

-- the derived test for the verdict that an event is to be taken
pub is_taken_lem : (v : Verdict) → (derived.ghosts).eq v Taken ≡ is_taken v
is_taken_lem Taken = refl
is_taken_lem Duplicate = refl
is_taken_lem Stale = refl

-- ---- the step

-- what is noted of an event by its verdict; whether an origin so far is ourselves, and whether an event so far is numbered wrong
pub record Noting (p q : List ℕ) (t : Tcsb) (v : Survey) (e : Event) (w : Verdict) (r : Survey) : Type 0 where
  pub is : r ≡ note_for p q t v e w
  pub long : LongFor v w

abbrev pub own_so_far : Tcsb → Translation → Survey → Body → Bool
own_so_far t row v b = v.own || eqb (our_place row b.place.0) t.matrix.origin.0

abbrev pub wrong_so_far : Survey → Body → Bool
wrong_so_far v b = v.misnumbered || misnumbered b

-- the survey with both, and the tally with one verdict more
abbrev pub counted_in : Survey → Bool → Bool → Tally → Survey
counted_in v own wrong tally = record { own = own; misnumbered = wrong; tally = tally; ids = v.ids; waiting = v.waiting; kept = v.kept }

module _ {p q : List ℕ} {t : Tcsb} {v : Survey} {e : Event} {r : Survey} where
  pub noting_taken : {w : Verdict} → is_taken w ≡ true → (r ≡ noted_by p q t v e) × Long v.ids → Noting p q t v e w r
  noting_taken {w} c h = go w c
    where
      go : (w : Verdict) → is_taken w ≡ true → Noting p q t v e w r
      go Taken c = record { is = h.0; long = h.1 }
      go Duplicate c = absurd (let z : ◌≡◌ {A = ℕ} 0 1 = cc in omega arith)
      go Stale c = absurd (let z : ◌≡◌ {A = ℕ} 0 1 = cc in omega arith)

  pub noting_none : {w : Verdict} → is_taken w ≡ false → r ≡ v → Noting p q t v e w r
  noting_none {w} c g = go w c
    where
      go : (w : Verdict) → is_taken w ≡ false → Noting p q t v e w r
      go Taken c = absurd (let z : ◌≡◌ {A = ℕ} 0 1 = cc in omega arith)
      go Duplicate c = record { is = g; long = tt }
      go Stale c = record { is = g; long = tt }

module _ {p q s : List ℕ} {t : Tcsb} {row : Translation} {v r : Survey} {b : Body} {e : Event} {verdict : Verdict} {ours wrong : Bool} {tally : Tally} where
  pub surveys_more : Few 255 v → (row.count ≤ 16 → e ≡ event_of row s b)
      → verdict ≡ verdict_by t.matrix t.frontier e → tally ≡ raised_tally v.tally verdict → ours ≡ own_so_far t row v b → wrong ≡ wrong_so_far v b
      → Noting p q t (counted_in v ours wrong tally) e verdict r → SurveysMore p q t row s v b r
  surveys_more few ee ev et eo ew noted = record {
    few = λ n f.
        let a = few-tally n v.tally verdict f.taken f.duplicate f.stale in
        let c = few_noted p q t (counted_in v ours wrong tally) e n verdict (f.ids, (f.waiting, f.kept)) in
        record {
          taken = rw tallied a.0;
          duplicate = rw tallied a.1.0;
          stale = rw tallied a.1.1;
          ids = rw noted.is c.0;
          waiting = rw noted.is c.1.0;
          kept = rw noted.is c.1.1;
        };
    more = λ list bs h sp sq g.
        let st = view t list p q in
        let es = map (event_of row s) bs in
        let w : verdict ≡ verdict_of st e = ev ∙ verdict_by_lem st e in
        let l : map (event_of row s) (bs ++ (b ∷ [])) ≡ es ++ (e ∷ []) = map-append (event_of row s) bs b ∙ ap (λ (x : Event). es ++ (x ∷ [])) (sym (ee h)) in
        let k = notes list es sp sq w (record { ids = g.ids; waiting = g.waiting; kept = g.kept }) in
        record {
          own =
              ap (λ (x : Survey). x.own) noted.is
              ∙ (rest.own ∙ (eo ∙ (ap (λ (x : Bool). x || eqb (our_place row b.place.0) t.matrix.origin.0) g.own ∙ sym (own-append st row bs b))));
          misnumbered =
              ap (λ (x : Survey). x.misnumbered) noted.is
              ∙ (rest.misnumbered ∙ (ew ∙ (ap (λ (x : Bool). x || misnumbered b) g.misnumbered ∙ sym (misnumbered-append bs b))));
          tally = tallied ∙ rw (l, g.tally, w) (tally-more st es e);
          ids = rw (l, noted.is) k.ids;
          waiting = rw (l, noted.is) k.waiting;
          kept = rw (l, noted.is) k.kept;
        };
  }
    where
      rest : Rest (counted_in v ours wrong tally) (note_for p q t (counted_in v ours wrong tally) e verdict)
      rest = rest_noted p q t (counted_in v ours wrong tally) e verdict

      tallied : r.tally ≡ raised_tally v.tally verdict
      tallied = ap (λ (x : Survey). x.tally) noted.is ∙ (rest.tally ∙ et)

      notes : (list : List ℕ) (es : List Event) → Sorted (events p t.inbox.order) → Sorted (events q t.outbox.order) → verdict ≡ verdict_of (view t list p q) e
          → Notes (taken_of (view t list p q) es) (events p t.inbox.order) (events q t.outbox.order) (counted_in v ours wrong tally)
          → Notes (taken_of (view t list p q) (es ++ (e ∷ []))) (events p t.inbox.order) (events q t.outbox.order) (note_for p q t (counted_in v ours wrong tally) e verdict)
      notes list es sp sq w k = go verdict (sym w) noted.long
        where
          go : (x : Verdict) → verdict_of (view t list p q) e ≡ x → LongFor (counted_in v ours wrong tally) x
              → Notes (taken_of (view t list p q) (es ++ (e ∷ []))) (events p t.inbox.order) (events q t.outbox.order) (note_for p q t (counted_in v ours wrong tally) e x)
          go Taken c z =
              rw (taken_more (view t list p q) es e (ap is_taken c))
              (notes_more p q t (counted_in v ours wrong tally) (taken_of (view t list p q) es) e sp sq (omega (arith, few.ids, z.places)) k)
          go Duplicate c z = rw (taken-same (view t list p q) es e (ap is_taken c)) k
          go Stale c z = rw (taken-same (view t list p q) es e (ap is_taken c)) k

-- ---- the loop over bodies

has_no : (o n : ℕ) → false ≡ has_in o n []
unfolding has_in
has_no o n = refl

any-no : (p : ℕ → Bool) → any 0 p ≡ false
unfolding any
any-no p = refl

pub surveys_none : (st : State) (row : Translation) (s : List ℕ) → Surveys st row s [] no_survey
unfolding keep count_of some_own some_misnumbered
surveys_none st row s = record {
  own = refl;
  misnumbered = refl;
  tally = refl;
  ids = λ o n. any-no _ ∙ has_no o n;
  waiting = rw (insert_all-none st.inbox) (omega arith);
  kept = rw (insert_all-none st.outbox) (omega arith);
}

-- how far the walk has come
pub record SurveyedSo (p q : List ℕ) (t : Tcsb) (row : Translation) (s : List ℕ) (at names count : ℕ) (v : Survey) (next i : ℕ) : Type 0 where
  pub within : i ≤ count
  pub few : Few i v
  pub reached : (list : List ℕ) (bs : List Body) (end : ℕ) → row.count ≤ 16 → names ≤ 16 → Sorted (events p t.inbox.order) → Sorted (events q t.outbox.order)
      → many count (body names s) at ≡ got bs end → Reached (body names s) count bs end i next (λ l. Surveys (view t list p q) row s l v)
  pub fails : (k : Refusal) → names ≤ 16 → many count (body names s) at ≡ Err k → many (count - i) (body names s) next ≡ Err k

module _ {p q s : List ℕ} {t : Tcsb} {row : Translation} {at names count : ℕ} where
  pub survey_none : (v : Survey) → v ≡ no_survey → SurveyedSo p q t row s at names count v at 0
  survey_none v e = record {
    within = omega arith;
    few = rw e (record { taken = omega arith; duplicate = omega arith; stale = omega arith; ids = omega arith; waiting = omega arith; kept = omega arith });
    reached = λ list bs end h few sp sq m. reach_none m (rw e (surveys_none (view t list p q) row s));
    fails = λ k few m. let n : count - 0 ≡ count = omega arith in rw n m;
  }

  pub survey_more : {v v' : Survey} {next i : ℕ} {r : Read Body} {g : Got Body} → SurveyedSo p q t row s at names count v next i → i < count → r ≡ body_at names s next
      → r ≡ Ok g → SurveysMore p q t row s v g.value v' → SurveyedSo p q t row s at names count v' g.next (i + 1)
  survey_more {v} {v'} {next} {i} {r} {g} S lt e o m = record {
    within = omega arith;
    few = m.few i S.few;
    reached = λ list bs end h few sp sq k.
        reach_more (λ l. Surveys (view t list p q) row s l v') g.value g.next (S.reached list bs end h few sp sq k) lt (body-done names s next few e o)
        (λ l z x. m.more list l h sp sq x);
    fails = λ k few z.
        many-fails (body names s) (count - i) (count - (i + 1)) next k g.value g.next (omega arith) (body-done names s next few e o) (S.fails k few z);
  }

  pub survey_refused : {v : Survey} {next i : ℕ} {r : Read Body} {k : Refusal} → SurveyedSo p q t row s at names count v next i → i < count
      → r ≡ body_at names s next → r ≡ Err k → SurveysAll p q t row s at names count (Err k)
  survey_refused {v} {next} {i} {r} {k} S lt e o =
      record {
        all = λ list bs end h few sp sq m. absurd (reach_bad (S.reached list bs end h few sp sq m) lt (body_refused names s next few e o));
        fails = λ j few z.
            ap Err (many-same (body names s) (count - i) (count - (i + 1)) next j k (omega arith) (body_refused names s next few e o) (S.fails j few z));
      }

  pub survey_all : {v : Survey} {next i : ℕ} → SurveyedSo p q t row s at names count v next i → count ≤ i → SurveysAll p q t row s at names count (Ok v)
  survey_all {v} {next} {i} S le =
      record {
        all = λ list bs end h few sp sq m. (v, (refl, reach_all (λ l. Surveys (view t list p q) row s l v) (S.reached list bs end h few sp sq m) le));
        fails = λ k few z. absurd (many-ends (body names s) (count - i) next k (omega arith) (S.fails k few z));
      }

pub few_up : {m n : ℕ} {v : Survey} → Few m v → m ≤ n → Few n v
few_up f h = record {
  taken = omega (arith, f.taken);
  duplicate = omega (arith, f.duplicate);
  stale = omega (arith, f.stale);
  ids = omega (arith, f.ids);
  waiting = omega (arith, f.waiting);
  kept = omega (arith, f.kept);
}
