-- A batch that was read and whose list is admitted: each way through the call gives what the definition says. Assumes nothing.
use mathlib.Core.Path.{◌≡◌, refl, sym, ap, ◌∙◌}
use mathlib.Core.Bool.{Bool, true, false, cond}
use mathlib.Core.List.{List, [], map}
use Prim.Native.Nat.{ℕ, ◌+◌, ◌≤◌}
use native.Mathlib.Omega.{arith}
use lib.ListN.{length, get_or, set}
use lib.Dec.{leb}
use borrow.Author.Tests.{lt-ltb, le-leb, leb-true}
use Rattle.refusal.specs.declared.Refusal.{Refusal}
use Rattle.refusal.specs.Refusal.{no, then}
use Rattle.telegram.specs.Fields.{counted, many}
use Rattle.telegram.specs.Reading.{body, head, batch, batch_form, texts}
use Rattle.telegram.specs.Writing.{list_fits}
use Rattle.telegram.specs.declared.body.Body.{Body}
use Rattle.telegram.specs.declared.batch.Batch.{Batch}
use Rattle.telegram.proofs.Filled.{count-texts}
use Rattle.telegram.proofs.Steps.{got_carry, after_is, whole_same, ended_is, fairly-is}
use Rattle.telegram.proofs.Inside.{counted_range}
use Rattle.store.specs.declared.event.Event.{Event}
use Rattle.store.specs.Orders.{events, in_range}
use Rattle.tcsb.specs.declared.internalizer.Translation.{Translation}
use Rattle.tcsb.specs.declared.tcsb.Tcsb.{Tcsb}
use Rattle.tcsb.specs.declared.batch.Tally.{Tally}
use Rattle.tcsb.specs.declared.batch.Survey.{Survey}
use Rattle.tcsb.specs.Internalizer.{no_translation, our_place, event_of}
use Rattle.tcsb.specs.Replica.{State, members, own, Call, done, not_done, answer_of, state_after, first, admitted_by, admitted, extended, taken_of, insert_all, recorded, tally_of, some_own, some_misnumbered, batch_of}
use Rattle.tcsb.specs.Tcsb.{view, Stores, with_stores, with_known, Good, Does, DoesIf}
use Rattle.tcsb.specs.Receive.{room_of}
use Rattle.tcsb.specs.Survey.{Surveys, SurveysAll, RecordsAll, Admits}
use Rattle.tcsb.proofs.Valid.{members_range}
use Rattle.tcsb.proofs.Heard.{BodyHeard, bodies_heard, batch_heard}
use Rattle.tcsb.proofs.Admitted.{AdmittedRow}
use Rattle.tcsb.proofs.Receiving.{changed, heard_row, batch-well}
use Rattle.tcsb.proofs.Storing.{taken-fixed}
use Rattle.tcsb.proofs.Calls.{refused_if, refused_call, does_part, not_both}
use Rattle.tcsb.proofs.Counting.{events-length}
use Rattle.std.specs.Prelude.{Result, Ok, Err}
use Rattle.leb128.specs.Leb128.{got}

-- ---- the bodies of a batch that was read

pub record Bodies (s : List ℕ) (b : Batch) : Type 0 where
  pub items : List Body
  pub end : ℕ
  pub reads : many b.count (body b.head.names.count s) b.bodies ≡ got items end
  pub few : b.count ≤ 256

pub batch-bodies : (s : List ℕ) (b : Batch) → batch s ≡ Ok b → Bodies s b
unfolding batch_form
batch-bodies s b e =
    after_is (head 2 s) _ (ended_is s _ (fairly-is s (λ (t : Batch). t.head.names) (batch_form s) e).0) (λ h mid eh e1.
    after_is (counted 0 256 s mid) _ e1 (λ count start ec e2.
    after_is (many count (body h.names.count s) start) _ e2 (λ items end em eq.
    got_carry (λ (b : Batch) next. Bodies s b) eq (record { items = items; end = end; reads = em; few = (counted_range 0 256 s mid count start ec).most }))))

-- what the definition comes to
abbrev pub goes_on : State → Translation → List ℕ → Batch → List Body → Call Tally
goes_on st row s b bs =
    cond (some_own st row bs) (not_done (no 10))
    (cond (some_misnumbered bs) (not_done (no 11))
    (first (recorded st (map (event_of row s) bs)) (λ after.
    done (tally_of st (map (event_of row s) bs)) (extended after (our_place row b.head.sender.0) row))))

pub batch-is : (st : State) (s : List ℕ) (b : Batch) (row : Translation) (bs : List Body) (end : ℕ) → batch s ≡ Ok b
    → many b.count (body b.head.names.count s) b.bodies ≡ got bs end → admitted st (texts s b.head.names) b.head.sender.0 ≡ Ok row
    → batch_of st s ≡ goes_on st row s b bs
unfolding batch_of
batch-is st s b row bs end e m a = rw (e, m, a) refl

pub not-admitted : (st : State) (s : List ℕ) (b : Batch) (k : Refusal) → batch s ≡ Ok b → admitted st (texts s b.head.names) b.head.sender.0 ≡ Err k
    → batch_of st s ≡ not_done k
unfolding batch_of
not-admitted st s b k e a = let m = batch-bodies s b e in rw (e, m.reads, a) refl

pub not_read : (st : State) (s : List ℕ) (k : Refusal) → batch s ≡ Err k → batch_of st s ≡ not_done k
unfolding batch_of
not_read st s k e = rw e refl

-- ---- what the first walk tells of it

record Judged (list p q : List ℕ) (t : Tcsb) (s : List ℕ) (b : Batch) (row : Translation) (v : Survey) : Type 0 where
  pub bodies : List Body
  pub end : ℕ
  pub reads : many b.count (body b.head.names.count s) b.bodies ≡ got bodies end
  pub names : b.head.names.count ≤ 16
  pub heard : AdmittedRow (members (view t list p q)) (own (view t list p q)) b.head.names.count b.head.sender.0 row
  pub surveys : Surveys (view t list p q) row s bodies v
  pub is : batch_of (view t list p q) s ≡ goes_on (view t list p q) row s b bodies

module _ {list p q s : List ℕ} {t : Tcsb} {b : Batch} {row : Translation} {v : Survey} where
  judged : SurveysAll p q t row s b.bodies b.head.names.count b.count (Ok v) → Admits list p q t s b row → Good t list p q → Judged list p q t s b row v
  judged sv a g =
      let m = batch-bodies s b a.0 in
      let h = batch_heard s b a.0 in
      let r = heard_row row g.well h a.1 in
      let y = sv.all list m.items m.end r.good.few h.few g.well.inbox_sorted g.well.outbox_sorted m.reads in
      record {
        bodies = m.items;
        end = m.end;
        reads = m.reads;
        names = h.few;
        heard = r;
        surveys = rw (whole_same y.1.0) y.1.1;
        is = batch-is (view t list p q) s b row m.items m.end a.0 m.reads a.1;
      }

  pub own-refused : SurveysAll p q t row s b.bodies b.head.names.count b.count (Ok v) → v.own ≡ true
      → DoesIf (Admits list p q t s b row) list p p q q t t (Err (no 10)) (λ st. batch_of st s)
  own-refused sv e = refused_if {k = no 10} {want = λ st. batch_of st s} (λ a g. let J = judged sv a g in J.is ∙ rw (sym J.surveys.own ∙ e) refl)

  pub number-refused : SurveysAll p q t row s b.bodies b.head.names.count b.count (Ok v) → v.own ≡ false → v.misnumbered ≡ true
      → DoesIf (Admits list p q t s b row) list p p q q t t (Err (no 11)) (λ st. batch_of st s)
  number-refused sv o e =
      refused_if {k = no 11} {want = λ st. batch_of st s} (λ a g. let J = judged sv a g in J.is ∙ rw (sym J.surveys.own ∙ o, sym J.surveys.misnumbered ∙ e) refl)

-- the walk goes through
pub walk_refused : {list p q s : List ℕ} {t : Tcsb} {b : Batch} {row : Translation} (k : Refusal) → SurveysAll p q t row s b.bodies b.head.names.count b.count (Err k)
    → DoesIf (Admits list p q t s b row) list p p q q t t (Err k) (λ st. batch_of st s)
walk_refused {list} {p} {q} {s} {t} {b} {row} k sv =
    refused_if {k = k} {want = λ st. batch_of st s}
    (λ a g.
    let m = batch-bodies s b a.0 in
    let h = batch_heard s b a.0 in
    let r = heard_row row g.well h a.1 in
    let y = sv.all list m.items m.end r.good.few h.few g.well.inbox_sorted g.well.outbox_sorted m.reads in
    absurd (not_both (sym y.1.0)))

-- ---- room

abbrev room_by : {A : Type 0} → Bool → Bool → A → A → A → A
room_by x y a b c = cond x (cond y a b) c

room_told_lem : (w : Result State Refusal) (x y : Bool)
    → room_by x y w (Err (no 13)) (Err (no 12)) ≡ then (room_by {A = Result (Unit {0}) Refusal} x y (Ok tt) (Err (no 13)) (Err (no 12))) (λ _. w)
room_told_lem w true true = refl
room_told_lem w true false = refl
room_told_lem w false y = refl

room-done : (m n : ℕ) → room_by {A = Result (Unit {0}) Refusal} (leb m 64) (leb n 256) (Ok tt) (Err (no 13)) (Err (no 12)) ≡ Ok tt → (m ≤ 64) × (n ≤ 256)
room-done m n = go (leb m 64) (leb n 256) refl refl
  where
    go : (x y : Bool) → leb m 64 ≡ x → leb n 256 ≡ y → room_by {A = Result (Unit {0}) Refusal} x y (Ok tt) (Err (no 13)) (Err (no 12)) ≡ Ok tt → (m ≤ 64) × (n ≤ 256)
    go true true e f h = (leb-true m 64 e, leb-true n 256 f)
    go true false e f h = absurd (not_both (sym h))
    go false y e f h = absurd (not_both (sym h))

-- what is recorded, by the counts
abbrev pub stored_in : State → List Event → State
stored_in st es = changed st st.known (insert_all (taken_of st es) st.inbox) (insert_all (taken_of st es) st.outbox)

recorded_by : (st : State) (es : List Event) (m n : ℕ) → m ≡ length (insert_all (taken_of st es) st.inbox) → n ≡ length (insert_all (taken_of st es) st.outbox)
    → recorded st es ≡ then (room_by {A = Result (Unit {0}) Refusal} (leb m 64) (leb n 256) (Ok tt) (Err (no 13)) (Err (no 12))) (λ _. Ok (stored_in st es))
unfolding recorded
recorded_by st es m n em en =
    rw (em, en)
    (room_told_lem (Ok (stored_in st es)) (leb (length (insert_all (taken_of st es) st.inbox)) 64) (leb (length (insert_all (taken_of st es) st.outbox)) 256))

module _ {list p q s : List ℕ} {t : Tcsb} {b : Batch} {row : Translation} {v : Survey} where
  -- the counts of the survey are those of the definition
  waiting-is : Good t list p q → (J : Judged list p q t s b row v)
      → t.inbox.order.count + v.waiting ≡ length (insert_all (taken_of (view t list p q) (map (event_of row s) J.bodies)) (events p t.inbox.order))
  waiting-is g J = ap (λ (n : ℕ). n + v.waiting) (sym (events-length p t.inbox.order t.inbox.free g.sound.stores.inbox)) ∙ J.surveys.waiting

  kept-is : Good t list p q → (J : Judged list p q t s b row v)
      → t.outbox.order.count + v.kept ≡ length (insert_all (taken_of (view t list p q) (map (event_of row s) J.bodies)) (events q t.outbox.order))
  kept-is g J = ap (λ (n : ℕ). n + v.kept) (sym (events-length q t.outbox.order t.outbox.free g.sound.stores.outbox)) ∙ J.surveys.kept

  recorded-is : {o : Result (Unit {0}) Refusal} → Good t list p q → (J : Judged list p q t s b row v) → o ≡ room_of t.inbox.order.count v.waiting t.outbox.order.count v.kept
      → recorded (view t list p q) (map (event_of row s) J.bodies) ≡ then o (λ _. Ok (stored_in (view t list p q) (map (event_of row s) J.bodies)))
  recorded-is {o} g J e =
      rw e
      (recorded_by (view t list p q) (map (event_of row s) J.bodies) (t.inbox.order.count + v.waiting) (t.outbox.order.count + v.kept) (waiting-is g J) (kept-is g J))

  pub room-refused : {o : Result (Unit {0}) Refusal} (k : Refusal) → SurveysAll p q t row s b.bodies b.head.names.count b.count (Ok v) → v.own ≡ false → v.misnumbered ≡ false
      → o ≡ room_of t.inbox.order.count v.waiting t.outbox.order.count v.kept → o ≡ Err k
      → DoesIf (Admits list p q t s b row) list p p q q t t (Err k) (λ st. batch_of st s)
  room-refused {o} k sv e1 e2 eo ek =
      refused_if {k = k} {want = λ st. batch_of st s}
      (λ a g.
      let J = judged sv a g in
      let x : recorded (view t list p q) (map (event_of row s) J.bodies) ≡ Err k =
      recorded-is g J eo ∙ ap (λ (o : Result (Unit {0}) Refusal). then o (λ _. Ok (stored_in (view t list p q) (map (event_of row s) J.bodies)))) ek in
      J.is ∙ rw (sym J.surveys.own ∙ e1, sym J.surveys.misnumbered ∙ e2, x) refl)

-- ---- stored

-- an event of a body that was read, of a list that is admitted, is in range
event_in_range : {n ours count sender : ℕ} {row : Translation} (s : List ℕ) (b : Body) → n ≤ 16 → AdmittedRow n ours count sender row → BodyHeard count b
    → in_range (event_of row s b) ≡ true
unfolding event_of
event_in_range {n} {ours} {count} {sender} {row} s b few r h =
    rw (lt-ltb (our_place row b.place.0) 16 (omega (arith, r.good.members b.place.0 (omega (arith, r.counts, h.listed)))), le-leb b.operation.len 32 h.short) refl

view-after : (list p' q' : List ℕ) (t r : Tcsb) {inbox outbox : List Event} (i : ℕ) (row : Translation) → r ≡ with_stores t r.inbox r.outbox
    → events p' r.inbox.order ≡ inbox → events q' r.outbox.order ≡ outbox
    → view (with_known r i row) list p' q'
    ≡ record {
      names = texts list t.names;
      matrix = t.matrix;
      frontier = t.frontier;
      raised = t.raised;
      known = set t.known i row;
      inbox = inbox;
      outbox = outbox;
    }
view-after list p' q' t r i row h a b = λ j. record {
  names = texts list (h j).names;
  matrix = (h j).matrix;
  frontier = (h j).frontier;
  raised = (h j).raised;
  known = set (h j).known i row;
  inbox = a j;
  outbox = b j;
}

-- a batch that is taken
record Ended (list p p' q q' : List ℕ) (t : Tcsb) (s : List ℕ) (b : Batch) (row : Translation) (v : Survey) (r : Tcsb) : Type 0 where
  pub es : List Event
  pub is : batch_of (view t list p q) s ≡ done (tally_of (view t list p q) es) (extended (stored_in (view t list p q) es) (our_place row b.head.sender.0) row)
  pub tally : v.tally ≡ tally_of (view t list p q) es
  pub inbox : events p' r.inbox.order ≡ insert_all (taken_of (view t list p q) es) (events p t.inbox.order)
  pub outbox : events q' r.outbox.order ≡ insert_all (taken_of (view t list p q) es) (events q t.outbox.order)
  pub stores : Stores r p' q'

module _ {list p p' q q' s : List ℕ} {t r : Tcsb} {b : Batch} {row : Translation} {v : Survey} {o : Result (Unit {0}) Refusal} where
  ended : SurveysAll p q t row s b.bodies b.head.names.count b.count (Ok v) → v.own ≡ false → v.misnumbered ≡ false
      → o ≡ room_of t.inbox.order.count v.waiting t.outbox.order.count v.kept → o ≡ Ok tt
      → RecordsAll p p' q q' t row s b.bodies b.head.names.count b.count r → Admits list p q t s b row → Good t list p q → Ended list p p' q q' t s b row v r
  ended sv e1 e2 eo ed ra a g =
      let J = judged sv a g in
      let st = view t list p q in
      let es = map (event_of row s) J.bodies in
      let x : recorded st es ≡ Ok (stored_in st es) = recorded-is g J eo ∙ ap (λ (o : Result (Unit {0}) Refusal). then o (λ _. Ok (stored_in st es))) ed in
      let room = room-done (t.inbox.order.count + v.waiting) (t.outbox.order.count + v.kept) (sym eo ∙ ed) in
      let heard = bodies_heard b.head.names.count s b.count b.bodies J.bodies J.end J.reads in
      let R = ra.puts J.bodies J.end g.sound.stores J.heard.good.few J.names J.reads
      (λ y m. event_in_range s y (members_range g.well).1 J.heard (heard y m)) in
      let same = taken-fixed t t list [] p p q q es refl in
      record {
        es = es;
        is = J.is ∙ rw (sym J.surveys.own ∙ e1, sym J.surveys.misnumbered ∙ e2, x) refl;
        tally = J.surveys.tally;
        inbox = rw same (R.inbox (rw (← same) (omega (arith, room.0, waiting-is g J))));
        outbox = rw same (R.outbox (rw (← same) (omega (arith, room.1, kept-is g J))));
        stores = R.stores;
      }

  pub batch-taken : {t' : Tcsb} {place : ℕ} → SurveysAll p q t row s b.bodies b.head.names.count b.count (Ok v) → v.own ≡ false → v.misnumbered ≡ false
      → o ≡ room_of t.inbox.order.count v.waiting t.outbox.order.count v.kept → o ≡ Ok tt
      → RecordsAll p p' q q' t row s b.bodies b.head.names.count b.count r → place ≡ our_place row b.head.sender.0 → t' ≡ with_known r place row
      → DoesIf (Admits list p q t s b row) list p p' q q' t t' (Ok v.tally) (λ st. batch_of st s)
  batch-taken {t'} {place} sv e1 e2 eo ed ra ep et = record {
    answers = λ a g. let E = ended sv e1 e2 eo ed ra a g in ap Ok E.tally ∙ sym (ap answer_of E.is);
    leaves = λ a g.
        let E = ended sv e1 e2 eo ed ra a g in
        ap (λ (x : Tcsb). view x list p' q') (et ∙ ap (λ (i : ℕ). with_known r i row) ep)
        ∙ (view-after list p' q' t r (our_place row b.head.sender.0) row ra.fixed E.inbox E.outbox ∙ sym (ap (state_after (view t list p q)) E.is));
    sound = λ a g.
        let E = ended sv e1 e2 eo ed ra a g in
        rw et (record {
          stores = record { inbox = E.stores.inbox; outbox = E.stores.outbox };
          inside = ap (λ (x : Tcsb). list_fits list x.names) ra.fixed ∙ g.sound.inside;
        });
    kept = λ k e. absurd (not_both e);
  }

-- ---- reading and admitting

-- what the code asks of a list
abbrev pub Answered : List ℕ → Tcsb → List ℕ → Batch → Result Translation Refusal → Type 0
Answered list t s b a =
    t.names.count ≤ 16 → b.head.names.count ≤ 16 → ((i : ℕ) → (get_or t.known i no_translation).count ≤ 16)
    → a ≡ admitted_by (texts list t.names) t.known t.matrix.origin.0 (texts s b.head.names) b.head.sender.0

admitted_told : (list p q s : List ℕ) (t : Tcsb) (b : Batch) (a : Result Translation Refusal) → batch s ≡ Ok b → Answered list t s b a → Good t list p q
    → admitted (view t list p q) (texts s b.head.names) b.head.sender.0 ≡ a
unfolding admitted
admitted_told list p q s t b a e h g =
    let n = count-texts list t.names in
    sym (h (omega (arith, n, g.well.listed, (members_range g.well).1)) (batch_heard s b e).few (λ i. (g.well.known i).few))

-- ---- the call

pub batch-few : {r : Result Batch Refusal} {b : Batch} (s : List ℕ) → r ≡ batch s → r ≡ Ok b → b.count ≤ 256
batch-few {r} {b} s e o = (batch-bodies s b (sym e ∙ o)).few

module _ (s : List ℕ) {list p q : List ℕ} {t : Tcsb} {words : Bool} {r : Result Batch Refusal} where
  pub call_unread : (k : Refusal) → words ≡ true → r ≡ batch s → r ≡ Err k → Does list p p q q words t t (Err k) (λ st. batch_of st s)
  call_unread k w e o = refused_call {k = k} {want = λ st. batch_of st s} w (λ g. not_read (view t list p q) s k (sym e ∙ o))

  pub call_unadmitted : {b : Batch} {a : Result Translation Refusal} (k : Refusal) → words ≡ true → r ≡ batch s → r ≡ Ok b → Answered list t s b a → a ≡ Err k
      → Does list p p q q words t t (Err k) (λ st. batch_of st s)
  call_unadmitted {b} {a} k w e o h x =
      refused_call {k = k} {want = λ st. batch_of st s} w
      (λ g. not-admitted (view t list p q) s b k (sym e ∙ o) (admitted_told list p q s t b a (sym e ∙ o) h g ∙ x))

  pub call_admitted : {p' q' : List ℕ} {t' : Tcsb} {answer : Result Tally Refusal} {b : Batch} {a : Result Translation Refusal} {row : Translation} → words ≡ true → r ≡ batch s
      → r ≡ Ok b → Answered list t s b a → a ≡ Ok row → DoesIf (Admits list p q t s b row) list p p' q q' t t' answer (λ st. batch_of st s)
      → Does list p p' q q' words t t' answer (λ st. batch_of st s)
  call_admitted {b = b} {a = a} w e o h x d =
      does_part (λ st. batch_of st s) w (λ g. (sym e ∙ o, admitted_told list p q s t b a (sym e ∙ o) h g ∙ x)) (λ st. batch-well st s) d
