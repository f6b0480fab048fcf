-- The steps of receive: an event judged, its room, and its two stores. Assumes nothing.
use Rattle.std.specs.Prelude.{ℕ, ◌+◌, ◌≤◌, ◌≡◌, true, cond, List, [], ◌∷◌, length, leb}
use Rattle.refusal.specs.declared.Refusal.{Refusal}
use Rattle.refusal.specs.Refusal.{no}
use Rattle.store.specs.declared.event.Event.{Event}
use Rattle.store.specs.Orders.{insert_sorted, events, in_range}
use Rattle.store.specs.Orders as orders
use Rattle.tcsb.specs.Replica.{State, Call, done, first, answer_of, state_after, verdict_of, recorded}
use Rattle.tcsb.specs.Tcsb.{view, Stores, with_stores}
use Rattle.store.specs.declared.order.Store.{Store}
use Rattle.tcsb.specs.declared.tcsb.Tcsb.{Tcsb}
use Rattle.tcsb.specs.declared.receive.Verdict.{Verdict}
use Rattle.std.specs.Prelude.{Result, Ok, Err}

-- ---- room

-- how many events more a store would have
abbrev pub new_to : Result ℕ ℕ → ℕ
new_to (Ok i) = 0
new_to (Err i) = 1

abbrev pub room_of : ℕ → ℕ → ℕ → ℕ → Result (Unit {0}) Refusal
room_of waiting more kept extra =
    cond (leb (waiting + more) 64) (cond (leb (kept + extra) 256) (Ok tt) (Err (no 13))) (Err (no 12))

-- ---- stores

-- e is put into a store where it finds room
pub record Stored (p p' : List ℕ) (store : Store) (e : Event) (store' : Store) : Type 0 where
  pub long : length p' ≡ length p
  pub list : (c : ℕ) → orders.Good c p store.order store.free → in_range e ≡ true → length (insert_sorted e (events p store.order)) ≤ c
      → events p' store'.order ≡ insert_sorted e (events p store.order)
  pub good : (c : ℕ) → orders.Good c p store.order store.free → orders.Good c p' store'.order store'.free

-- into inbox and outbox; nothing else changes
pub record Recorded (p p' q q' : List ℕ) (t : Tcsb) (e : Event) (t' : Tcsb) : Type 0 where
  pub fixed : t' ≡ with_stores t t'.inbox t'.outbox
  pub inbox : Stored p p' t.inbox e t'.inbox
  pub outbox : Stored q q' t.outbox e t'.outbox

-- one event, whoever sent it
abbrev pub take_of : State → Event → Call Verdict
take_of st e = first (recorded st (e ∷ [])) (λ after. done (verdict_of st e) after)

pub record Takes (p p' q q' : List ℕ) (t : Tcsb) (e : Event) (t' : Tcsb) (answer : Result Verdict Refusal) : Type 0 where
  pub answers : (list : List ℕ) → Stores t p q → answer ≡ answer_of (take_of (view t list p q) e)
  pub leaves : (list : List ℕ) → Stores t p q → in_range e ≡ true → view t' list p' q' ≡ state_after (view t list p q) (take_of (view t list p q) e)
  pub stores : Stores t p q → Stores t' p' q'
  pub fixed : t' ≡ with_stores t t'.inbox t'.outbox
  pub kept : (k : Refusal) → answer ≡ Err k → (t' ≡ t) × ((p' ≡ p) × (q' ≡ q))
