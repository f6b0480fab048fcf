-- The steps of a delivery. Assumes nothing.
use Rattle.std.specs.Prelude.{ℕ, ◌<◌, ◌≤◌, ◌≡◌, List, length, get_or}
use Rattle.refusal.specs.declared.Refusal.{Refusal}
use Rattle.lists.specs.Lists.{tab}
use Rattle.clock.specs.declared.version_vector.Row.{Row}
use Rattle.clock.specs.Entries.{zero_entries}
use Rattle.store.specs.declared.event.Event.{Event}
use Rattle.store.specs.declared.order.Slots.{Slots}
use Rattle.store.specs.Orders.{events}
use Rattle.tcsb.specs.Replica.{State, Pick, none, at_place, members, own_row, first_ready, delivered}
use Rattle.tcsb.specs.Tcsb.{view, Sound, Good}
use Rattle.tcsb.specs.declared.tcsb.Tcsb.{Tcsb}
use Rattle.std.specs.Prelude.{Result, Ok, Err, Option, Some, None}

-- what stands where there is no event
abbrev pub no_event : Event
no_event = record { origin = record { 0 = 0 }; number = 0; version = record { entries = zero_entries }; len = 0; operation = tab 32 (λ k. 0) }

-- ---- which event is ready

abbrev pub pick_place : Pick → Option ℕ
pick_place none = None
pick_place (at_place i e) = Some i

pub record FirstReady (p : List ℕ) (order : Slots) (row : Row) (n : ℕ) (r : Option ℕ) : Type 0 where
  pub first : (st : State) → n ≤ 16 → order.count ≤ 256 → members st ≡ n → own_row st ≡ row.entries → r ≡ pick_place (first_ready st 0 (events p order))

-- ---- what a delivery leaves

abbrev pub waiting_at : List ℕ → Tcsb → ℕ → Event
waiting_at p t i = get_or (events p t.inbox.order) i no_event

pub record DeliversAt (p : List ℕ) (t : Tcsb) (i : ℕ) (t' : Tcsb) (answer : Result (Option Event) Refusal) : Type 0 where
  pub answers : (list q : List ℕ) → Good t list p q → i < length (events p t.inbox.order) → answer ≡ Ok (Some (waiting_at p t i))
  pub leaves : (list q : List ℕ) → Good t list p q → i < length (events p t.inbox.order)
      → view t' list p q ≡ delivered (view t list p q) i (waiting_at p t i)
  pub sound : (list q : List ℕ) → Good t list p q → Sound t' list p q
  pub kept : (k : Refusal) → answer ≡ Err k → t' ≡ t
