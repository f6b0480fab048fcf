-- What send does, from what its parts do. Assumes nothing.
use mathlib.Core.Path.{◌≡◌, refl, sym, ap, ◌∙◌}
use mathlib.Core.Bool.{Bool, true, false, cond}
use mathlib.Core.List.{List}
use Prim.Native.Nat.{ℕ, ◌+◌, ◌≤◌, ◌<◌}
use native.Mathlib.Omega.{arith}
use lib.ListN.{length, take}
use lib.Seq.{length-take-le, take-length, get_or-take, ext_get_or}
use lib.Dec.{leb}
use borrow.Author.Tests.{le-leb, lt-leb, leb-true, lt-ltb, le-ltb}
use Rattle.refusal.specs.declared.Refusal.{Refusal}
use Rattle.refusal.specs.Refusal.{no}
use Rattle.lists.specs.Lists.{at, tab}
use Rattle.lists.proofs.Laws.{length-tab, get_or-tab}
use Rattle.leb128.specs.Leb128.{last_number}
use Rattle.clock.specs.declared.id.EventId.{EventId}
use Rattle.clock.specs.declared.matrix_clock.MatrixClock.{MatrixClock}
use Rattle.clock.specs.Matrix.{row_of, with_row_at}
use Rattle.telegram.specs.Meaning.{event_bytes}
use Rattle.telegram.specs.Writing.{list_spelt, body_spelt, event_spelt, Wrote}
use Rattle.telegram.specs.declared.body.Body.{Body}
use Rattle.telegram.proofs.Parts.{part_fits_lem}
use Rattle.store.specs.declared.event.Event.{Event}
use Rattle.store.specs.Words.{id_of}
use Rattle.store.specs.Orders.{find_from, insert_sorted, events, in_range}
use Rattle.tcsb.specs.Replica.{State, Call, done, not_done, members, own, own_row, written_body, raised_row, sent_event, send_of}
use Rattle.tcsb.specs.Tcsb.{view, Sound, Good, Writes}
use Rattle.tcsb.specs.Receive.{new_to, room_of, Stored}
use Rattle.tcsb.specs.Writing.{event_body}
use Rattle.store.specs.declared.order.Store.{Store}
use Rattle.tcsb.specs.declared.tcsb.Tcsb.{Tcsb}
use Rattle.tcsb.proofs.Valid.{members_range}
use Rattle.tcsb.proofs.Sending.{sent-well}
use Rattle.tcsb.proofs.Batches.{wrote_kept, members_named}
use Rattle.tcsb.proofs.Counting.{events-length}
use Rattle.tcsb.proofs.Taking.{insert_length}
use Rattle.tcsb.proofs.Writes.{if_refused, if_unwritten, if_written, writes_all}
use Rattle.std.specs.Prelude.{Result, Ok, Err}

-- ---- the definition, by its cases

abbrev pub sent_bytes : State → List ℕ → List ℕ
sent_bytes st op = event_bytes (record { names = st.names; body = written_body (members st) (sent_event st op) })

abbrev pub after_send : State → List ℕ → State
after_send st op = record {
  names = st.names;
  matrix = with_row_at st.matrix (own st) (raised_row st);
  frontier = st.frontier;
  raised = st.raised;
  known = st.known;
  inbox = st.inbox;
  outbox = insert_sorted (sent_event st op) st.outbox;
}

module _ (st : State) (op : List ℕ) where
  send_long : 32 < length op → send_of st op ≡ not_done (no 4)
  unfolding send_of
  send_long h = rw (lt-leb (length op) 32 h) refl

  send_last : length op ≤ 32 → 4294967295 ≤ at (own_row st) (own st) → send_of st op ≡ not_done (no 14)
  unfolding send_of
  send_last h l = rw (le-leb (length op) 32 h, le-ltb (at (own_row st) (own st)) last_number l) refl

  -- how full the outbox would be
  send_size : {x kept : ℕ} → x ≡ new_to (find_from (own st) (sent_event st op).number 0 st.outbox) → length st.outbox ≡ kept
      → length (insert_sorted (sent_event st op) st.outbox) ≡ kept + x
  send_size {x} {kept} new count = omega (arith, new, count, insert_length (sent_event st op) 0 st.outbox)

  send_full : (kept x : ℕ) {o : Result (Unit {0}) Refusal} {k : Refusal} → length op ≤ 32 → at (own_row st) (own st) < 4294967295
      → length (insert_sorted (sent_event st op) st.outbox) ≡ kept + x
      → o ≡ room_of 0 0 kept x → o ≡ Err k → send_of st op ≡ not_done k
  unfolding send_of
  send_full kept x {o} {k} h l is room said =
      rw (le-leb (length op) 32 h, lt-ltb (at (own_row st) (own st)) last_number l, is) (pick (leb (kept + x) 256) room)
    where
      pick : (t : Bool) → o ≡ cond t (Ok tt) (Err (no 13))
          → cond t (done (sent_bytes st op) (after_send st op)) (not_done (no 13)) ≡ not_done k
      pick true e = let z : ◌≡◌ {A = ℕ} 0 1 = cc in absurd (omega arith)
      pick false e = let z : k ≡ no 13 = cc in ap not_done (sym z)

  send_room : (kept x : ℕ) {o : Result (Unit {0}) Refusal} → o ≡ room_of 0 0 kept x → o ≡ (Ok tt) → kept + x ≤ 256
  send_room kept x {o} room said = leb-true (kept + x) 256 (pick (leb (kept + x) 256) room)
    where
      pick : (t : Bool) → o ≡ cond t (Ok tt) (Err (no 13)) → t ≡ true
      pick true e = refl
      pick false e = let z : ◌≡◌ {A = ℕ} 0 1 = cc in absurd (omega arith)

  send_done : length op ≤ 32 → at (own_row st) (own st) < 4294967295 → length (insert_sorted (sent_event st op) st.outbox) ≤ 256
      → send_of st op ≡ done (sent_bytes st op) (after_send st op)
  unfolding send_of
  send_done h l room =
      rw (le-leb (length op) 32 h, lt-ltb (at (own_row st) (own st)) last_number l, le-leb (length (insert_sorted (sent_event st op) st.outbox)) 256 room) refl

-- ---- the telegram

-- an operation that is kept in 32 places
kept-operation : (op : List ℕ) → length op ≤ 32 → take (length op) (tab 32 (λ k. at op k)) ≡ op
kept-operation op h =
    let f : ℕ → ℕ = λ k. at op k in
    let long : length (take (length op) (tab 32 f)) ≡ length op = length-take-le (length op) (tab 32 f) (omega (arith, length-tab 32 f)) in
    ext_get_or 0 (take (length op) (tab 32 f)) op long (λ i lt. get_or-take (length op) (tab 32 f) i 0 (omega arith) ∙ get_or-tab 0 32 f i (omega arith))

event-is : {t : Tcsb} {list p q : List ℕ} (op : List ℕ) {e : Event} {b : Body} → Good t list p q → length op ≤ 32 → e ≡ sent_event (view t list p q) op → b ≡ event_body e
    → event_spelt list t.names op b ≡ Ok (sent_bytes (view t list p q) op)
unfolding event_spelt list_spelt body_spelt event_bytes
event-is {t} {list} {p} {q} op g h is told =
    rw (
      told,
      is,
      g.sound.inside,
      members_named g,
      le-leb t.matrix.members 16 (members_range g.well).1,
      lt-ltb t.matrix.origin.0 t.matrix.members g.well.ours,
      part_fits_lem {low = 0} {high = 32} {s = op} {p = record { start = 0; len = length op }} (record { least = omega arith; most = h; within = omega arith }),
      kept-operation op h,
      take-length op,
    )
    refl

-- ---- the call's returns

abbrev sending : List ℕ → State → Call (List ℕ)
sending op st = send_of st op

-- the replica with another matrix and outbox
abbrev pub sent_tcsb : Tcsb → MatrixClock → Store → Tcsb
sent_tcsb t m more = record {
  names = t.names;
  matrix = m;
  frontier = t.frontier;
  raised = t.raised;
  known = t.known;
  inbox = t.inbox;
  outbox = more;
}

module _ (t : Tcsb) (list p q out op : List ℕ) (room : 6912 ≤ length q) where
  pub sent-long : 32 < length op → Writes list p p q q out out (leb 6912 (length q)) t t (Err (no 4)) (λ st. send_of st op)
  sent-long h = writes_all (sending op) room (λ st. sent-well st op) (if_refused (sending op) (λ f g. send_long (view t list p q) op h))

  module _ (h : length op ≤ 32) {n : ℕ} {entries : List ℕ} (row : entries ≡ row_of t.matrix.rows t.matrix.origin.0) (got : n ≡ at entries t.matrix.origin.0) where
    entry_is : n ≡ at (own_row (view t list p q)) (own (view t list p q))
    entry_is = got ∙ ap (λ (l : List ℕ). at l t.matrix.origin.0) row

    pub sent_last : 4294967295 ≤ n → Writes list p p q q out out (leb 6912 (length q)) t t (Err (no 14)) (λ st. send_of st op)
    sent_last l = writes_all (sending op) room (λ st. sent-well st op) (if_refused (sending op) (λ f g. send_last (view t list p q) op h (omega (arith, entry_is))))

    module _ (low : n < 4294967295) {e : Event} {i : EventId} {x : ℕ} {o : Result (Unit {0}) Refusal} (is : e ≡ sent_event (view t list p q) op) (named : i ≡ id_of e)
        (new : x ≡ new_to (find_from i.idx.0 i.seq 0 (events q t.outbox.order))) (fits : o ≡ room_of 0 0 t.outbox.order.count x) where
      size_is : Good t list p q → length (insert_sorted (sent_event (view t list p q) op) (events q t.outbox.order)) ≡ t.outbox.order.count + x
      size_is g = send_size (view t list p q) op (rw (named, is) at new) (events-length q t.outbox.order t.outbox.free g.sound.stores.outbox)

      pub sent_full : {k : Refusal} → o ≡ Err k → Writes list p p q q out out (leb 6912 (length q)) t t (Err k) (λ st. send_of st op)
      sent_full said =
          writes_all (sending op) room (λ st. sent-well st op)
          (if_refused (sending op) (λ f g. send_full (view t list p q) op t.outbox.order.count x h (omega (arith, entry_is)) (size_is g) fits said))

      module _ (done-is : o ≡ (Ok tt)) {b : Body} {after : List ℕ} {answer : Result ℕ Refusal} (body : b ≡ event_body e)
          (w : Wrote out after 0 0 (event_spelt list t.names op b) answer) where
        fits_in : Good t list p q → length (insert_sorted (sent_event (view t list p q) op) (events q t.outbox.order)) ≤ 256
        fits_in g = omega (arith, size_is g, send_room (view t list p q) op t.outbox.order.count x fits done-is)

        call_is : Good t list p q → send_of (view t list p q) op ≡ done (sent_bytes (view t list p q) op) (after_send (view t list p q) op)
        call_is g = send_done (view t list p q) op h (omega (arith, entry_is)) (fits_in g)

        wrote-is : Good t list p q → Wrote out after 0 0 (Ok (sent_bytes (view t list p q) op)) answer
        wrote-is g = rw (event-is op g h is body) at w

        pub sent_unwritten : {k : Refusal} → answer ≡ Err k → Writes list p p q q out after (leb 6912 (length q)) t t (Err k) (λ st. send_of st op)
        sent_unwritten said =
            writes_all (sending op) room (λ st. sent-well st op)
            (if_unwritten (sending op) (sent_bytes (view t list p q) op) (after_send (view t list p q) op) (λ f g. call_is g) (λ f g. wrote-is g) said (wrote_kept _ w said))

        module _ {more : Store} {q' : List ℕ} {m : MatrixClock} (stored : Stored q q' t.outbox e more) (clocks : m ≡ with_row_at t.matrix t.matrix.origin.0 e.version.entries) where
          in_range_lem : Good t list p q → in_range e ≡ true
          in_range_lem g = rw (is, lt-ltb t.matrix.origin.0 16 (omega (arith, g.well.ours, (members_range g.well).1)), le-leb (length op) 32 h) refl

          view-is : Good t list p q → view (sent_tcsb t m more) list p q' ≡ after_send (view t list p q) op
          view-is g =
              let l : events q' more.order ≡ insert_sorted e (events q t.outbox.order) =
              stored.list 256 g.sound.stores.outbox (in_range_lem g) (rw is (fits_in g))
              in
              rw (l, clocks, is) refl

          sound-is : Good t list p q → Sound (sent_tcsb t m more) list p q'
          sound-is g = record { stores = record { inbox = g.sound.stores.inbox; outbox = stored.good 256 g.sound.stores.outbox }; inside = g.sound.inside }

          pub sent-done : {k : ℕ} → answer ≡ Ok k → Writes list p p q q' out after (leb 6912 (length q)) t (sent_tcsb t m more) (Ok k) (λ st. send_of st op)
          sent-done said =
              writes_all (sending op) room (λ st. sent-well st op)
              (if_written (sending op) (sent_bytes (view t list p q) op) (after_send (view t list p q) op) (λ f g. call_is g) (λ f g. wrote-is g) said (λ f g. view-is g)
              (λ f g. sound-is g))
