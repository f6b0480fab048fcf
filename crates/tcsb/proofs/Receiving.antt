-- What a replica always satisfies is kept by receive, batch and pull. Assumes nothing.
use mathlib.Core.Path.{◌≡◌, refl, ◌∙◌}
use mathlib.Core.Bool.{Bool, true, false, cond, not}
use mathlib.Core.List.Memᴰ
use mathlib.Core.List.{List, [], ◌∷◌, map}
use mathlib.Core.Logic.{⊎_elim}
use Prim.Native.Nat.{ℕ, ◌≤◌, ◌<◌}
use native.Mathlib.Omega.{arith}
use lib.ListN.{length, get_or, length-set}
use lib.Dec.{leb, eqb}
use borrow.Author.Tests.{leb-true, leb-false, eqb-false}
use Rattle.refusal.specs.declared.Refusal.{Refusal}
use Rattle.refusal.specs.Refusal.{no}
use Rattle.lists.specs.Lists.{at}
use Rattle.lists.proofs.Joined.{Each, each_none, each_more}
use Rattle.clock.specs.Entries.{at_most}
use Rattle.clock.specs.Matrix.{cell}
use Rattle.telegram.specs.Fields.{many}
use Rattle.telegram.specs.Reading.{body, exception, texts, event, batch, since}
use Rattle.telegram.specs.Meaning.{found}
use Rattle.telegram.specs.declared.list.Names.{Names}
use Rattle.telegram.specs.declared.body.Body.{Body}
use Rattle.telegram.proofs.Filled.{count-texts}
use Rattle.telegram.proofs.Steps.{whole_same, if_whole}
use Rattle.store.specs.declared.event.Event.{Event}
use Rattle.store.specs.Orders.{Sorted, insert_sorted}
use Rattle.store.proofs.Sorting.{insert_in, insert_sorted_lem, keep_in}
use Rattle.tcsb.specs.declared.internalizer.Translation.{Translation}
use Rattle.tcsb.specs.declared.receive.Verdict.TheVariants.{Taken, Duplicate, Stale}
use Rattle.tcsb.specs.Internalizer.{no_translation, our_place, event_of}
use Rattle.tcsb.specs.Replica.{State, members, own, cut, Call, not_done, state_after, first, admitted, extended, misnumbered, is_duplicate, is_stale, verdict_of, is_taken, taken_of, insert_all, recorded, receive_of, some_own, some_misnumbered, batch_of, pull_of}
use Rattle.tcsb.specs.WellFormed.{GoodRow, GoodEvent, Waits, Kept, WellFormed}
use Rattle.tcsb.proofs.Valid.{members_range}
use Rattle.tcsb.proofs.Heard.{BodyHeard, ListHeard, bodies_heard, event_heard, batch_heard, since_heard}
use Rattle.tcsb.proofs.Admitted.{AdmittedRow, admitted-is}
use Rattle.tcsb.proofs.Translated.{set_keeps, or_neither, event-good}
use Rattle.std.specs.Prelude.{Result, Ok, Err}
use Rattle.leb128.specs.Leb128.{Read, got}

-- ---- events put in one by one

pub insert_all_sorted : (es l : List Event) → Sorted l → Sorted (insert_all es l)
unfolding insert_all
insert_all_sorted [] l s = s
insert_all_sorted (e ∷ es) l s = insert_all_sorted es (insert_sorted e l) (insert_sorted_lem e l s)

-- what holds of all that are put in and of all that were there holds of all
pub insert_all-each : (P : Event → Type 0) (es l : List Event) → Sorted l → Each P es → Each P l → Each P (insert_all es l)
unfolding insert_all
insert_all-each P [] l s h g = g
insert_all-each P (e ∷ es) l s h g =
    insert_all-each P es (insert_sorted e l) (insert_sorted_lem e l s) (λ x m. h x (Memᴰ.tail m))
    (λ x m. ⊎_elim (λ q. rw q (h e (Memᴰ.head refl))) (λ r. g x r.0) (insert_in e l s m))

-- ---- verdicts

-- an event is neither a duplicate nor stale when it is taken
taken_neither : (d s : Bool) → is_taken (cond d Duplicate (cond s Stale Taken)) ≡ true → (d ≡ false) × (s ≡ false)
taken_neither true s e = absurd (let z : ◌≡◌ {A = ℕ} 0 1 = cc in omega arith)
taken_neither false true e = absurd (let z : ◌≡◌ {A = ℕ} 0 1 = cc in omega arith)
taken_neither false false e = (refl, refl)

-- what is taken is above its origin's row and above the frontier
pub taken-later : (st : State) (e : Event) → is_taken (verdict_of st e) ≡ true
    → (cell st.matrix.rows e.origin.0 e.origin.0 < e.number) × (at (cut st) e.origin.0 < e.number)
unfolding verdict_of is_duplicate is_stale
taken-later st e t =
    let n = taken_neither (is_duplicate st e) (is_stale st e) t in
    let f = or_neither (leb e.number (at (cut st) e.origin.0)) (not (at_most (members st) (cut st) e.version.entries)) n.1 in
    (leb-false e.number (cell st.matrix.rows e.origin.0 e.origin.0) n.0, leb-false e.number (at (cut st) e.origin.0) f.0)

-- ---- states that differ in what is known of senders and in the stores only

abbrev pub changed : State → List Translation → List Event → List Event → State
changed st known inbox outbox = record {
  names = st.names;
  matrix = st.matrix;
  frontier = st.frontier;
  raised = st.raised;
  known = known;
  inbox = inbox;
  outbox = outbox;
}

-- what the new parts have to satisfy
pub record NewParts (st : State) (known : List Translation) (inbox outbox : List Event) : Type 0 where
  pub senders : length known ≡ 16
  pub rows : (i : ℕ) → GoodRow (members st) (get_or known i no_translation)
  pub inbox_sorted : Sorted inbox
  pub inbox-room : length inbox ≤ 64
  pub waits : Each (Waits st) inbox
  pub outbox_sorted : Sorted outbox
  pub outbox-room : length outbox ≤ 256
  pub keeps : Each (Kept st) outbox

pub changed-well : {st : State} {known : List Translation} {inbox outbox : List Event} → WellFormed st → NewParts st known inbox outbox
    → WellFormed (changed st known inbox outbox)
changed-well w p = record {
  counts = w.counts;
  distinct = w.distinct;
  listed = w.listed;
  ours = w.ours;
  rows = w.rows;
  entries = w.entries;
  unlisted = w.unlisted;
  valid = w.valid;
  one_list = w.one_list;
  cuts = w.cuts;
  below = w.below;
  columns = w.columns;
  senders = p.senders;
  known = p.rows;
  inbox_sorted = p.inbox_sorted;
  inbox-room = p.inbox-room;
  waits = λ e m. let h = p.waits e m in record { good = h.good; other = h.other; later = h.later };
  outbox_sorted = p.outbox_sorted;
  outbox-room = p.outbox-room;
  keeps = λ e m. let h = p.keeps e m in record { good = h.good; later = h.later };
}

-- ---- extended and recorded

pub extended-well : {st : State} {row : Translation} (sender : ℕ) → WellFormed st → GoodRow (members st) row → WellFormed (extended st sender row)
extended-well {st} {row} sender w g =
    changed-well w (record {
      senders = length-set st.known sender row ∙ w.senders;
      rows = λ i. set_keeps (GoodRow (members st)) st.known sender row i no_translation (λ e. g) (w.known i);
      inbox_sorted = w.inbox_sorted;
      inbox-room = w.inbox-room;
      waits = w.waits;
      outbox_sorted = w.outbox_sorted;
      outbox-room = w.outbox-room;
      keeps = w.keeps;
    })

-- an event that came from another
pub record Arrived (st : State) (e : Event) : Type 0 where
  pub good : GoodEvent (members st) e
  pub other : e.origin.0 ≡ own st → ⊥

abbrev stored : State → List Event → State
stored st es = changed st st.known (insert_all (taken_of st es) st.inbox) (insert_all (taken_of st es) st.outbox)

stored-well : (st : State) (es : List Event) → WellFormed st → Each (Arrived st) es → length (insert_all (taken_of st es) st.inbox) ≤ 64
    → length (insert_all (taken_of st es) st.outbox) ≤ 256 → WellFormed (stored st es)
stored-well st es w h a b =
    changed-well w (record {
      senders = w.senders;
      rows = w.known;
      inbox_sorted = insert_all_sorted (taken_of st es) st.inbox w.inbox_sorted;
      inbox-room = a;
      waits =
          insert_all-each (Waits st) (taken_of st es) st.inbox w.inbox_sorted
          (λ e m. let k = keep_in (λ e. is_taken (verdict_of st e)) es m in record { good = (h e k.0).good; other = (h e k.0).other; later = (taken-later st e k.1).0 })
          w.waits;
      outbox_sorted = insert_all_sorted (taken_of st es) st.outbox w.outbox_sorted;
      outbox-room = b;
      keeps =
          insert_all-each (Kept st) (taken_of st es) st.outbox w.outbox_sorted
          (λ e m. let k = keep_in (λ e. is_taken (verdict_of st e)) es m in record { good = (h e k.0).good; later = (taken-later st e k.1).1 })
          w.keeps;
    })

-- what is recorded has the same members
pub recorded-well : (st : State) (es : List Event) (after : State) → WellFormed st → Each (Arrived st) es → recorded st es ≡ Ok after
    → WellFormed after × (members after ≡ members st)
unfolding recorded
recorded-well st es after w h e =
    let i = if_whole (leb (length (insert_all (taken_of st es) st.inbox)) 64) _ (no 12) e in
    let j = if_whole (leb (length (insert_all (taken_of st es) st.outbox)) 256) (Ok (stored st es)) (no 13) i.1 in
    rw (← whole_same j.1) (
      stored-well st es w h (leb-true (length (insert_all (taken_of st es) st.inbox)) 64 i.0)
          (leb-true (length (insert_all (taken_of st es) st.outbox)) 256 j.0),
      refl,
    )

-- ---- calls, step by step

module _ {B : Type 0} {st : State} (w : WellFormed st) where
  first-well : {A : Type 0} (g : Result A Refusal) (f : A → Call B) → ((a : A) → g ≡ Ok a → WellFormed (state_after st (f a))) → WellFormed (state_after st (first g f))
  first-well (Ok a) f h = h a refl
  first-well (Err k) f h = w

  unless-well : (t : Bool) (k : Refusal) (c : Call B) → (t ≡ false → WellFormed (state_after st c)) → WellFormed (state_after st (cond t (not_done k) c))
  unless-well true k c h = w
  unless-well false k c h = h refl

  -- several things that are read
  found-well : {A : Type 0} (g : Read A) (f : A → Call B) → ((a : A) (next : ℕ) → g ≡ got a next → WellFormed (state_after st (f a)))
      → WellFormed (state_after st (first (found g) f))
  found-well (Ok g) f h = h g.value g.next refl
  found-well (Err k) f h = w

-- ---- rows of what is read

-- the row of a list that is read and admitted
pub heard_row : {st : State} {s : List ℕ} {l : Names} {sender : ℕ} (row : Translation) → WellFormed st → ListHeard s l sender → admitted st (texts s l) sender ≡ Ok row
    → AdmittedRow (members st) (own st) l.count sender row
heard_row {st} {s} {l} {sender} row w h e =
    let c = count-texts s l in
    rw (← w.listed, ← c) (admitted-is st (texts s l) sender row (omega (arith, c, h.few)) h.distinct e)

pub event_arrived : {st : State} {count sender : ℕ} {row : Translation} → WellFormed st → AdmittedRow (members st) (own st) count sender row → (s : List ℕ) (b : Body) → BodyHeard count b
    → misnumbered b ≡ false → (our_place row b.place.0 ≡ own st → ⊥) → Arrived st (event_of row s b)
unfolding event_of
event_arrived w r s b h m o = record { good = event-good (members_range w).1 r.good s b (rw r.counts h) m; other = o }

-- ---- receive

pub received-well : (st : State) (s : List ℕ) → WellFormed st → WellFormed (state_after st (receive_of st s))
unfolding receive_of
received-well st s w =
    first-well w (event s) _ (λ t et.
    first-well w (admitted st (texts s t.names) t.body.place.0) _ (λ row er.
    let h = event_heard s t et in
    let r = heard_row row w h.0 er in
    unless-well w (misnumbered t.body) (no 11) _ (λ m.
    first-well w (recorded st (event_of row s t.body ∷ [])) _ (λ after ea.
    let a = recorded-well st (event_of row s t.body ∷ []) after w
    (each_more (Arrived st) (event_of row s t.body) [] (event_arrived w r s t.body h.1 m r.other) (each_none (Arrived st))) ea in
    extended-well (our_place row t.body.place.0) a.0 (rw a.1 r.good)))))

-- ---- batch

own-none : (st : State) (row : Translation) (l : List Body) → some_own st row l ≡ false → Each (λ b. our_place row b.place.0 ≡ own st → ⊥) l
unfolding some_own
own-none st row [] e = each_none (λ b. our_place row b.place.0 ≡ own st → ⊥)
own-none st row (b ∷ l) e =
    let o = or_neither (eqb (our_place row b.place.0) (own st)) (some_own st row l) e in
    each_more (λ b. our_place row b.place.0 ≡ own st → ⊥) b l (eqb-false (our_place row b.place.0) (own st) o.0) (own-none st row l o.1)

misnumbered-none : (l : List Body) → some_misnumbered l ≡ false → Each (λ b. misnumbered b ≡ false) l
unfolding some_misnumbered
misnumbered-none [] e = each_none (λ b. misnumbered b ≡ false)
misnumbered-none (b ∷ l) e =
    let o = or_neither (misnumbered b) (some_misnumbered l) e in
    each_more (λ b. misnumbered b ≡ false) b l o.0 (misnumbered-none l o.1)

each_map : {X Y : Type 0} (P : Y → Type 0) (f : X → Y) (l : List X) → Each (λ x. P (f x)) l → Each P (map f l)
each_map P f l h y m = let o = Memᴰ.of_map f l m in rw (← o.2) (h o.0 o.1)

pub batch-well : (st : State) (s : List ℕ) → WellFormed st → WellFormed (state_after st (batch_of st s))
unfolding batch_of
batch-well st s w =
    first-well w (batch s) _ (λ t et.
    found-well w (many t.count (body t.head.names.count s) t.bodies) _ (λ bodies next eb.
    first-well w (admitted st (texts s t.head.names) t.head.sender.0) _ (λ row er.
    let r = heard_row row w (batch_heard s t et) er in
    let h = bodies_heard t.head.names.count s t.count t.bodies bodies next eb in
    unless-well w (some_own st row bodies) (no 10) _ (λ o.
    unless-well w (some_misnumbered bodies) (no 11) _ (λ m.
    first-well w (recorded st (map (event_of row s) bodies)) _ (λ after ea.
    let a = recorded-well st (map (event_of row s) bodies) after w
    (each_map (Arrived st) (event_of row s) bodies (λ b i. event_arrived w r s b (h b i) (misnumbered-none bodies m b i) (own-none st row bodies o b i))) ea in
    extended-well (our_place row t.head.sender.0) a.0 (rw a.1 r.good)))))))

-- ---- pull

pub pulled_well : (st : State) (s : List ℕ) → WellFormed st → WellFormed (state_after st (pull_of st s))
unfolding pull_of
pulled_well st s w =
    first-well w (since s) _ (λ t et.
    found-well w (many t.count (exception t.head.names.count s) t.exceptions) _ (λ excepted next ex.
    first-well w (admitted st (texts s t.head.names) t.head.sender.0) _ (λ row er.
    let r = heard_row row w (since_heard s t et) er in
    extended-well (our_place row t.head.sender.0) w r.good)))
