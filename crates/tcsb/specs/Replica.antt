-- The replica, from document 01's section Calls of the replica: its state, and what each call answers and leaves. Assumes nothing.
use Rattle.std.specs.Prelude.{ℕ, zero, suc, ◌+◌, Bool, true, false, cond, not, ◌&&◌, ◌||◌, List, [], ◌∷◌, map, length, get_or, set, take, leb, ltb, eqb}
use Rattle.refusal.specs.declared.Refusal.{Refusal}
use Rattle.refusal.specs.Refusal.{no}
use Rattle.lists.specs.Lists.{at, tab, all}
use Rattle.leb128.specs.Leb128.{last_number}
use Rattle.clock.specs.declared.causal_frontier.CausalFrontier.{CausalFrontier}
use Rattle.clock.specs.declared.matrix_clock.MatrixClock.{MatrixClock}
use Rattle.clock.specs.declared.version_vector.Row.{Row}
use Rattle.clock.specs.declared.matrix_clock.Columns.{Columns}
use Rattle.clock.specs.Entries.{zero_entries, join_entries, at_most, same_entries}
use Rattle.clock.specs.Matrix.{row_of, cell, zero_matrix, with_row_at, no_columns, raised_of, settled_cut}
use Rattle.telegram.specs.Fields.{many}
use Rattle.telegram.specs.Reading.{fair, texts, body, exception, event, batch, since}
use Rattle.telegram.specs.Meaning.{EventBody, Heading, found, event_bytes, batch_bytes, since_bytes}
use Rattle.telegram.specs.declared.body.Body.{Body}
use Rattle.telegram.specs.declared.since.Exception.{Exception}
use Rattle.store.specs.declared.event.Event.{Event}
use Rattle.store.specs.Orders.{insert_sorted, del_at, keep, above}
use Rattle.tcsb.specs.Internalizer.{no_translation, translation_of, continues, our_place, our_entries, event_of}
use Rattle.tcsb.specs.declared.internalizer.Translation.{Translation}
use Rattle.tcsb.specs.declared.batch.Tally.{Tally}
use Rattle.tcsb.specs.declared.receive.Verdict.{Verdict}
use Rattle.tcsb.specs.declared.receive.Verdict.TheVariants.{Taken, Duplicate, Stale}
use Rattle.std.specs.Prelude.{Result, Ok, Err, Option, Some, None}
use Rattle.refusal.specs.Refusal.{then}

-- ---- the state

pub record State : Type 0 where
  pub names : List (List ℕ)
  pub matrix : MatrixClock
  pub frontier : CausalFrontier
  pub raised : Columns
  pub known : List Translation
  pub inbox : List Event
  pub outbox : List Event

abbrev pub members : State → ℕ
members st = st.matrix.members

abbrev pub own : State → ℕ
own st = st.matrix.origin.0

abbrev pub own_row : State → List ℕ
own_row st = row_of st.matrix.rows (own st)

abbrev pub cut : State → List ℕ
cut st = st.frontier.row.entries

-- what a call gives: an answer and the state that it leaves, or a refusal, and then the state stays
pub data Call (A : Type 0) : Type 0 where
  done : A → State → Call A
  not_done : Refusal → Call A

-- its answer, and the state after it; a refused call leaves the state
abbrev pub answer_of : {A : Type 0} → Call A → Result A Refusal
answer_of (done a st) = Ok a
answer_of (not_done k) = Err k

abbrev pub state_after : {A : Type 0} → State → Call A → State
state_after st (done a st') = st'
state_after st (not_done k) = st

abbrev pub first : {A B : Type 0} → Result A Refusal → (A → Call B) → Call B
first (Ok a) f = f a
first (Err k) f = not_done k

-- ---- founding: 4, 6, 9 for our own place

abbrev pub zero_state : List (List ℕ) → ℕ → State
zero_state names place = record {
  names = names;
  matrix = zero_matrix place (length names);
  frontier = record { members = length names; row = record { entries = zero_entries } };
  raised = record { raised = no_columns };
  known = tab 16 (λ i. no_translation);
  inbox = [];
  outbox = [];
}

-- 2 to 16 members, names of 1 to 16 bytes
unfoldable pub counts_fit : List (List ℕ) → Bool
counts_fit names =
    (leb 2 (length names) && leb (length names) 16) && all (length names) (λ i. leb 1 (length (get_or names i [])) && leb (length (get_or names i [])) 16)

unfoldable pub found_of : List (List ℕ) → ℕ → Result State Refusal
found_of names place =
    cond (counts_fit names)
    (cond (fair names) (cond (ltb place (length names)) (Ok (zero_state names place)) (Err (no 9))) (Err (no 6)))
    (Err (no 4))

-- ---- what a telegram's list and sender must be

-- 7; 8: list shorter than the sender's known row, or differing in it; 10: the sender is ourselves
abbrev pub admitted_by : List (List ℕ) → List Translation → ℕ → List (List ℕ) → ℕ → Result Translation Refusal
admitted_by names known place listed sender =
    then (translation_of names listed) (λ row.
    cond (continues (get_or known (our_place row sender) no_translation) row)
    (cond (eqb (our_place row sender) place) (Err (no 10)) (Ok row))
    (Err (no 8)))

unfoldable pub admitted : State → List (List ℕ) → ℕ → Result Translation Refusal
admitted st listed sender = admitted_by st.names st.known (own st) listed sender

-- every accepted receive, batch or pull extends the sender's known row to the telegram's list
abbrev pub extended : State → ℕ → Translation → State
extended st sender row = record {
  names = st.names;
  matrix = st.matrix;
  frontier = st.frontier;
  raised = st.raised;
  known = set st.known sender row;
  inbox = st.inbox;
  outbox = st.outbox;
}

-- ---- receive

-- event number 0, or not equal to its version's entry for its origin
abbrev pub misnumbered : Body → Bool
misnumbered b = eqb b.number 0 || not (eqb b.number (at b.entries b.place.0))

-- duplicate if the number is at most the origin row's own entry
abbrev pub duplicate_by : List Row → Event → Bool
duplicate_by rows e = leb e.number (cell rows e.origin.0 e.origin.0)

unfoldable pub is_duplicate : State → Event → Bool
is_duplicate st e = duplicate_by st.matrix.rows e

-- else stale if the frontier contains it or some version entry is below the frontier's
abbrev pub stale_by : ℕ → List ℕ → Event → Bool
stale_by n f e = leb e.number (at f e.origin.0) || not (at_most n f e.version.entries)

unfoldable pub is_stale : State → Event → Bool
is_stale st e = stale_by (members st) (cut st) e

-- else taken
abbrev pub verdict_by : MatrixClock → CausalFrontier → Event → Verdict
verdict_by m f e = cond (duplicate_by m.rows e) Duplicate (cond (stale_by m.members f.row.entries e) Stale Taken)

unfoldable pub verdict_of : State → Event → Verdict
verdict_of st e = cond (is_duplicate st e) Duplicate (cond (is_stale st e) Stale Taken)

abbrev pub is_taken : Verdict → Bool
is_taken Taken = true
is_taken Duplicate = false
is_taken Stale = false

abbrev pub taken_of : State → List Event → List Event
taken_of st es = keep (λ e. is_taken (verdict_of st e)) es

-- events put in one by one, each replacing the same id
unfoldable pub insert_all : List Event → List Event → List Event
insert_all [] l = l
insert_all (e ∷ es) l = insert_all es (insert_sorted e l)

-- what is taken goes into inbox and outbox: 12 where more than 64 would wait, 13 where more than 256 would be in the outbox
unfoldable pub recorded : State → List Event → Result State Refusal
recorded st es =
    cond (leb (length (insert_all (taken_of st es) st.inbox)) 64)
    (cond (leb (length (insert_all (taken_of st es) st.outbox)) 256)
    (Ok (record {
      names = st.names;
      matrix = st.matrix;
      frontier = st.frontier;
      raised = st.raised;
      known = st.known;
      inbox = insert_all (taken_of st es) st.inbox;
      outbox = insert_all (taken_of st es) st.outbox;
    }))
    (Err (no 13)))
    (Err (no 12))

-- one event; the sender of an event telegram is its origin
unfoldable pub receive_of : State → List ℕ → Call Verdict
receive_of st s =
    first (event s) (λ t.
    first (admitted st (texts s t.names) t.body.place.0) (λ row.
    cond (misnumbered t.body) (not_done (no 11))
    (first (recorded st (event_of row s t.body ∷ [])) (λ after.
    done (verdict_of st (event_of row s t.body)) (extended after (our_place row t.body.place.0) row)))))

-- ---- batch: the same for each event in order; the batch's own version is not used

abbrev pub same_verdict : Verdict → Verdict → Bool
same_verdict Taken Taken = true
same_verdict Taken Duplicate = false
same_verdict Taken Stale = false
same_verdict Duplicate Taken = false
same_verdict Duplicate Duplicate = true
same_verdict Duplicate Stale = false
same_verdict Stale Taken = false
same_verdict Stale Duplicate = false
same_verdict Stale Stale = true

-- how many of the events have a verdict
unfoldable pub count_of : State → Verdict → List Event → ℕ
count_of st v [] = 0
count_of st v (e ∷ es) = cond (same_verdict (verdict_of st e) v) (suc (count_of st v es)) (count_of st v es)

-- counts taken, duplicate and stale, each event in one
abbrev pub tally_of : State → List Event → Tally
tally_of st es = record { taken = count_of st Taken es; duplicate = count_of st Duplicate es; stale = count_of st Stale es }

-- some event's origin is ourselves; some event is numbered wrong
unfoldable pub some_own : State → Translation → List Body → Bool
some_own st row [] = false
some_own st row (b ∷ bs) = eqb (our_place row b.place.0) (own st) || some_own st row bs

unfoldable pub some_misnumbered : List Body → Bool
some_misnumbered [] = false
some_misnumbered (b ∷ bs) = misnumbered b || some_misnumbered bs

unfoldable pub batch_of : State → List ℕ → Call Tally
batch_of st s =
    first (batch s) (λ t.
    first (found (many t.count (body t.head.names.count s) t.bodies)) (λ bodies.
    first (admitted st (texts s t.head.names) t.head.sender.0) (λ row.
    cond (some_own st row bodies) (not_done (no 10))
    (cond (some_misnumbered bodies) (not_done (no 11))
    (first (recorded st (map (event_of row s) bodies)) (λ after.
    done (tally_of st (map (event_of row s) bodies)) (extended after (our_place row t.head.sender.0) row)))))))

-- ---- where an answer is written: 15 where it is longer than the buffer lent

abbrev pub lent : List ℕ → Call (List ℕ) → Call (List ℕ)
lent out (done b st) = cond (leb (length b) (length out)) (done b st) (not_done (no 15))
lent out (not_done k) = not_done k

-- ---- what is written: always all members in our own order

abbrev pub written_body : ℕ → Event → EventBody
written_body n e = record {
  origin = e.origin.0;
  number = e.number;
  version = take n e.version.entries;
  operation = take e.len e.operation;
}

abbrev pub body_written : State → Event → EventBody
body_written st e = written_body (members st) e

-- with our row
abbrev pub heading_written : State → Heading
heading_written st = record { names = st.names; sender = own st; version = take (members st) (own_row st) }

abbrev pub batch_written : State → List Event → List ℕ
batch_written st es = batch_bytes (record { heading = heading_written st; bodies = map (body_written st) es })

-- ---- send: 4, 14, 13. Raises our entry by one, keeps the event in the outbox, writes its telegram

abbrev pub raised_row : State → List ℕ
raised_row st = set (own_row st) (own st) (at (own_row st) (own st) + 1)

abbrev pub sent_event : State → List ℕ → Event
sent_event st operation = record {
  origin = record { 0 = own st };
  number = at (own_row st) (own st) + 1;
  version = record { entries = raised_row st };
  len = length operation;
  operation = tab 32 (λ k. at operation k);
}

unfoldable pub send_of : State → List ℕ → Call (List ℕ)
send_of st operation =
    cond (leb (length operation) 32)
    (cond (ltb (at (own_row st) (own st)) last_number)
    (cond (leb (length (insert_sorted (sent_event st operation) st.outbox)) 256)
    (done (event_bytes (record { names = st.names; body = body_written st (sent_event st operation) }))
    (record {
      names = st.names;
      matrix = with_row_at st.matrix (own st) (raised_row st);
      frontier = st.frontier;
      raised = st.raised;
      known = st.known;
      inbox = st.inbox;
      outbox = insert_sorted (sent_event st operation) st.outbox;
    }))
    (not_done (no 13)))
    (not_done (no 14)))
    (not_done (no 4))

-- ---- next

-- an event is ready when its origin entry is ours plus one and each other entry is at most ours
abbrev pub entry_ready : ℕ → ℕ → Bool → Bool
entry_ready ours entry origin = cond origin (eqb entry (ours + 1)) (leb entry ours)

abbrev pub ready_by : ℕ → List ℕ → Event → Bool
ready_by n row e = all n (λ j. entry_ready (at row j) (at e.version.entries j) (eqb j e.origin.0))

unfoldable pub is_ready : State → Event → Bool
is_ready st e = ready_by (members st) (own_row st) e

-- the event at a position leaves the inbox and joins our row; the origin's row takes every larger entry, and those columns replace the
-- list of raised columns
unfoldable pub delivered : State → ℕ → Event → State
delivered st i e = record {
  names = st.names;
  matrix = with_row_at (with_row_at st.matrix (own st) (join_entries (members st) (own_row st) e.version.entries)) e.origin.0
      (join_entries (members st) (row_of st.matrix.rows e.origin.0) e.version.entries);
  frontier = st.frontier;
  raised = record { raised = raised_of (members st) (row_of st.matrix.rows e.origin.0) e.version.entries };
  known = st.known;
  inbox = del_at i st.inbox;
  outbox = st.outbox;
}

-- an event of the inbox and its position, or none
pub data Pick : Type 0 where
  none : Pick
  at_place : ℕ → Event → Pick

-- of the ready, the lowest origin place goes first: the first of the inbox, where an origin's events stand together
unfoldable pub first_ready : State → ℕ → List Event → Pick
first_ready st i [] = none
first_ready st i (e ∷ es) = cond (is_ready st e) (at_place i e) (first_ready st (i + 1) es)

-- the named one, if it is ready and waiting
unfoldable pub named_ready : State → ℕ → ℕ → ℕ → List Event → Pick
named_ready st o n i [] = none
named_ready st o n i (e ∷ es) =
    cond (eqb e.origin.0 o && eqb e.number n) (cond (is_ready st e) (at_place i e) none) (named_ready st o n (i + 1) es)

abbrev pub after_pick : State → Pick → State
after_pick st none = st
after_pick st (at_place i e) = delivered st i e

abbrev pub next_of : State → Pick
next_of st = first_ready st 0 st.inbox

abbrev pub deliver_of : State → ℕ → ℕ → Pick
deliver_of st o n = named_ready st o n 0 st.inbox

-- what is answered: the event, or none
abbrev pub picked_of : Pick → Option Event
picked_of none = None
picked_of (at_place i e) = Some e

abbrev pub next_call : State → Call (Option Event)
next_call st = done (picked_of (next_of st)) (after_pick st (next_of st))

abbrev pub deliver_call : State → ℕ → ℕ → Call (Option Event)
deliver_call st o n = done (picked_of (deliver_of st o n)) (after_pick st (deliver_of st o n))

-- ---- frontier

-- for each listed column: if a row holds exactly the frontier's entry it stays, else it becomes the least of the column
abbrev pub settled_of : State → List ℕ
settled_of st = settled_cut st.matrix.rows (members st) st.raised.raised (cut st)

abbrev pub is_settled : State → Bool
is_settled st = same_entries (members st) (settled_of st) (cut st)

-- if anything moved, events at or below it leave the outbox and the frontier is answered; else "same"
unfoldable pub frontier_call : State → State
frontier_call st =
    cond (is_settled st) st
    (record {
      names = st.names;
      matrix = st.matrix;
      frontier = record { members = st.frontier.members; row = record { entries = settled_of st } };
      raised = st.raised;
      known = st.known;
      inbox = st.inbox;
      outbox = keep (above (settled_of st)) st.outbox;
    })

-- what is answered: the frontier, or "same"
abbrev pub stable_call : State → Call (Option CausalFrontier)
stable_call st = done (cond (is_settled st) None (Some (frontier_call st).frontier)) (frontier_call st)

-- ---- since: our row, and the waiting ids as exceptions by origin place, then number

abbrev pub exception_of : Event → Exception
exception_of e = record { place = record { 0 = e.origin.0 }; number = e.number }

unfoldable pub since_of : State → List ℕ
since_of st = since_bytes (record { heading = heading_written st; exceptions = map exception_of st.inbox })

-- ---- pull: for each origin but the requester's, outbox events above the requested entry and not excepted, by place, then number, with our row

unfoldable pub is_excepted : Translation → List Exception → Event → Bool
is_excepted row [] e = false
is_excepted row (x ∷ xs) e = (eqb (our_place row x.place.0) e.origin.0 && eqb x.number e.number) || is_excepted row xs e

abbrev pub wanted_unless : ℕ → List ℕ → Bool → Event → Bool
wanted_unless requester requested excepted e = not (eqb e.origin.0 requester) && (above requested e && not excepted)

unfoldable pub is_wanted : Translation → ℕ → List ℕ → List Exception → Event → Bool
is_wanted row requester requested excepted e = wanted_unless requester requested (is_excepted row excepted e) e

unfoldable pub pull_of : State → List ℕ → Call (List ℕ)
pull_of st s =
    first (since s) (λ t.
    first (found (many t.count (exception t.head.names.count s) t.exceptions)) (λ excepted.
    first (admitted st (texts s t.head.names) t.head.sender.0) (λ row.
    done
    (batch_written st
    (keep (is_wanted row (our_place row t.head.sender.0) (our_entries row.count row t.head.entries) excepted) st.outbox))
    (extended st (our_place row t.head.sender.0) row))))

-- ---- flush: next until none is ready, then one frontier call; a batch of the delivered events in order with our row after them

pub record Flushed : Type 0 where
  pub events : List Event
  pub state : State

abbrev pub flush_more : (State → Flushed) → State → Pick → Flushed
flush_more rest st none = record { events = []; state = frontier_call st }
flush_more rest st (at_place i e) = record { events = e ∷ (rest (delivered st i e)).events; state = (rest (delivered st i e)).state }

-- with so many deliveries at most; as many as wait are enough
unfoldable pub flushed : ℕ → State → Flushed
flushed zero st = record { events = []; state = frontier_call st }
flushed (suc k) st = flush_more (flushed k) st (next_of st)

unfoldable pub flush_of : State → Call (List ℕ)
flush_of st =
    done (batch_written (flushed (length st.inbox) st).state (flushed (length st.inbox) st).events) (flushed (length st.inbox) st).state

-- ---- members: names and count

abbrev pub members_of : State → List (List ℕ)
members_of st = st.names
