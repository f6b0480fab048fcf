-- The steps of what the replica writes: events out of their slots, and which of them. Assumes nothing.
use Rattle.std.specs.Prelude.{ℕ, ◌<◌, ◌≤◌, ◌≡◌, Bool, List, length, Result, Ok, Err}
use Rattle.refusal.specs.declared.Refusal.{Refusal}
use Rattle.lists.specs.Lists.{joined}
use Rattle.clock.specs.Matrix.{row_of}
use Rattle.telegram.specs.Fields.{many}
use Rattle.telegram.specs.Reading.{exception, since, texts}
use Rattle.telegram.specs.Meaning.{body_bytes, exception_bytes}
use Rattle.telegram.specs.Writing.{Room, Put, Wrote}
use Rattle.telegram.specs.declared.body.Body.{Body}
use Rattle.telegram.specs.declared.head.Head.{Head}
use Rattle.telegram.specs.declared.since.Exception.{Exception}
use Rattle.telegram.specs.declared.since.Since.{Since}
use Rattle.store.specs.declared.event.Event.{Event}
use Rattle.store.specs.declared.order.Slots.{Slots}
use Rattle.store.specs.Orders.{In, events, keep}
use Rattle.tcsb.specs.Replica.{admitted, written_body, batch_written, exception_of, is_excepted, wanted_unless, flushed, frontier_call}
use Rattle.tcsb.specs.Tcsb.{view, Good}
use Rattle.tcsb.specs.Survey.{has_id}
use Rattle.tcsb.specs.declared.internalizer.Translation.{Translation}
use Rattle.tcsb.specs.declared.tcsb.Tcsb.{Tcsb}
use Rattle.tcsb.specs.declared.batch.Ids.{Ids}
use Rattle.leb128.specs.Leb128.{got}

-- ---- events as bodies

abbrev pub event_body : Event → Body
event_body e = record {
  place = record { 0 = e.origin.0 };
  number = e.number;
  entries = e.version.entries;
  operation = record { start = 0; len = e.len };
}

-- all members in our own order, our place, our row
abbrev pub head_of : Tcsb → Head
head_of t = record { names = t.names; sender = record { 0 = t.matrix.origin.0 }; entries = row_of t.matrix.rows t.matrix.origin.0 }

-- an event can be written behind a list of n names
pub record Writable (n : ℕ) (e : Event) : Type 0 where
  pub listed : e.origin.0 < n
  pub short : e.len ≤ 32

-- what an event is written as behind a list of n names: a body of a batch, an exception of a since
abbrev pub body_spelt_at : ℕ → Event → List ℕ
body_spelt_at n e = body_bytes (written_body n e)

abbrev pub exception_spelt_at : ℕ → Event → List ℕ
exception_spelt_at n e = exception_bytes (exception_of e)

-- events one behind the other
abbrev pub items_bytes : (ℕ → Event → List ℕ) → ℕ → List Event → List ℕ
items_bytes spelt n es = joined (spelt n) es

-- each event of some slots can be written
pub record AllWritable (p : List ℕ) (slots : Slots) (n : ℕ) : Type 0 where
  pub few : n ≤ 16
  pub room : slots.count ≤ 256
  pub each : (e : Event) → In e (events p slots) → Writable n e

pub record Measures (spelt : ℕ → Event → List ℕ) (e : Event) (n : ℕ) (r : Result ℕ Refusal) : Type 0 where
  pub is : n ≤ 16 → Writable n e → r ≡ Ok (length (spelt n e))
  pub few : (w : ℕ) → r ≡ Ok w → w ≤ 311

pub record PutsItem (spelt : ℕ → Event → List ℕ) (out out' : List ℕ) (at : ℕ) (e : Event) (n next : ℕ) : Type 0 where
  pub puts : n ≤ 16 → Writable n e → Room out at (spelt n e) → Put out out' at (spelt n e) next

pub record ItemsWidth (spelt : ℕ → Event → List ℕ) (p : List ℕ) (slots : Slots) (n : ℕ) (r : Result ℕ Refusal) : Type 0 where
  pub long : length slots.at ≡ 256
  pub is : AllWritable p slots n → r ≡ Ok (length (items_bytes spelt n (events p slots)))

pub record PutsItems (spelt : ℕ → Event → List ℕ) (out out' : List ℕ) (at : ℕ) (p : List ℕ) (slots : Slots) (n next : ℕ) : Type 0 where
  pub puts : AllWritable p slots n → Room out at (items_bytes spelt n (events p slots)) → Put out out' at (items_bytes spelt n (events p slots)) next

-- a batch of the events of some slots, with our row
pub record WritesBatch (list words : List ℕ) (slots : Slots) (out out' : List ℕ) (t : Tcsb) (answer : Result ℕ Refusal) : Type 0 where
  pub wrote : (p q : List ℕ) → Good t list p q → AllWritable words slots t.matrix.members
      → Wrote out out' 0 0 (Ok (batch_written (view t list p q) (events words slots))) answer
  pub kept : (k : Refusal) → answer ≡ Err k → out' ≡ out

-- ---- pull

abbrev pub wanted_by : ℕ → List ℕ → Ids → Event → Bool
wanted_by requester requested ids e = wanted_unless requester requested (has_id ids e.origin.0 e.number) e

pub record Wants (p : List ℕ) (order : Slots) (requester : ℕ) (requested : List ℕ) (ids : Ids) (r : Slots) : Type 0 where
  pub few : r.count ≤ 256
  pub wants : ids.count ≤ 256 → order.count ≤ 256 → events p r ≡ keep (wanted_by requester requested ids) (events p order)

-- the exceptions at our places
pub record ReadsIds (s : List ℕ) (at names count : ℕ) (row : Translation) (r : Ids) : Type 0 where
  pub few : r.count ≤ count
  pub has : (xs : List Exception) (end : ℕ) → many count (exception names s) at ≡ got xs end
      → (e : Event) → has_id r e.origin.0 e.number ≡ is_excepted row xs e

-- a since that was read, and its sender's row
abbrev pub Asks : List ℕ → List ℕ → List ℕ → Tcsb → List ℕ → Since → Translation → Type 0
Asks list p q t s r row = (since s ≡ Ok r) × (admitted (view t list p q) (texts s r.head.names) r.head.sender.0 ≡ Ok row)

-- ---- flush

pub record DeliversAll (p : List ℕ) (t t' : Tcsb) (slots : Slots) : Type 0 where
  pub few : slots.count ≤ 64
  pub all : (list q : List ℕ) → Good t list p q
      → flushed (length (events p t.inbox.order)) (view t list p q) ≡ record { events = events p slots; state = frontier_call (view t' list p q) }
  pub good : (list q : List ℕ) → Good t list p q → Good t' list p q
  -- what is delivered stood in the inbox
  pub from : (list q : List ℕ) → Good t list p q → (e : Event) → In e (events p slots) → In e (events p t.inbox.order)
