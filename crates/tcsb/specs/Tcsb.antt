-- The replica as a struct and lent slices: what it means, and what its calls promise. p and q are the words of the inbox and of the outbox,
-- a prime marks what a call leaves. Assumes nothing.
use Rattle.std.specs.Prelude.{ℕ, ◌+◌, ◌≡◌, Bool, true, false, cond, ◌&&◌, List, length, get_or, set, leb}
use Rattle.refusal.specs.declared.Refusal.{Refusal}
use Rattle.refusal.specs.Refusal.{no, then}
use Rattle.lists.specs.Lists.{tab, all}
use Rattle.clock.specs.Entries.{zero_entries}
use Rattle.clock.specs.Matrix.{zero_matrix, no_columns}
use Rattle.telegram.specs.Reading.{nowhere, texts}
use Rattle.telegram.specs.Writing.{list_fits, Wrote}
use Rattle.telegram.specs.declared.list.Names.{Names}
use Rattle.store.specs.Orders.{events, new_store}
use Rattle.store.specs.Orders as orders
use Rattle.tcsb.specs.Internalizer.{no_translation}
use Rattle.tcsb.specs.Replica.{State, Call, answer_of, state_after, lent, found_of}
use Rattle.tcsb.specs.WellFormed.{WellFormed}
use Rattle.tcsb.specs.declared.internalizer.Translation.{Translation}
use Rattle.store.specs.declared.order.Store.{Store}
use Rattle.tcsb.specs.declared.tcsb.Tcsb.{Tcsb}
use Rattle.std.specs.Prelude.{Result, Ok, Err}

-- ---- the struct

-- the words that are lent hold 64 slots and 256 slots
abbrev pub has_words : ℕ → ℕ → Bool
has_words m n = leb 1728 m && leb 6912 n

abbrev pub zero_tcsb : Names → ℕ → Tcsb
zero_tcsb names place = record {
  names = names;
  matrix = zero_matrix place names.count;
  frontier = record { members = names.count; row = record { entries = zero_entries } };
  raised = record { raised = no_columns };
  known = tab 16 (λ i. no_translation);
  inbox = new_store 64;
  outbox = new_store 256;
}

abbrev pub with_stores : Tcsb → Store → Store → Tcsb
with_stores t inbox outbox = record {
  names = t.names;
  matrix = t.matrix;
  frontier = t.frontier;
  raised = t.raised;
  known = t.known;
  inbox = inbox;
  outbox = outbox;
}

abbrev pub with_known : Tcsb → ℕ → Translation → Tcsb
with_known t i row = record {
  names = t.names;
  matrix = t.matrix;
  frontier = t.frontier;
  raised = t.raised;
  known = set t.known i row;
  inbox = t.inbox;
  outbox = t.outbox;
}

-- ---- what it means

abbrev pub view : Tcsb → List ℕ → List ℕ → List ℕ → State
view t list p q = record {
  names = texts list t.names;
  matrix = t.matrix;
  frontier = t.frontier;
  raised = t.raised;
  known = t.known;
  inbox = events p t.inbox.order;
  outbox = events q t.outbox.order;
}

-- the words hold both stores, and each slot is used or free, once
pub record Stores (t : Tcsb) (p q : List ℕ) : Type 0 where
  pub inbox : orders.Good 64 p t.inbox.order t.inbox.free
  pub outbox : orders.Good 256 q t.outbox.order t.outbox.free

-- and the names are parts of the member list
pub record Sound (t : Tcsb) (list p q : List ℕ) : Type 0 where
  pub stores : Stores t p q
  pub inside : list_fits list t.names ≡ true

-- what a replica made by the calls always satisfies: founding gives it and every call keeps it
pub record Good (t : Tcsb) (list p q : List ℕ) : Type 0 where
  pub sound : Sound t list p q
  pub well : WellFormed (view t list p q)

-- ---- founding

-- each name is a part of the list
abbrev pub inside : List ℕ → Names → Bool
inside list names = all names.count (λ i. leb ((get_or names.parts i nowhere).start + (get_or names.parts i nowhere).len) (length list))

-- 4 where the words are too short or a name is no part of the list
unfoldable pub founding_of : List ℕ → Names → ℕ → List ℕ → List ℕ → Result State Refusal
founding_of list names place p q =
    cond (has_words (length p) (length q) && inside list names) (found_of (texts list names) place) (Err (no 4))

pub record Founds (list : List ℕ) (names : Names) (place : ℕ) (p q : List ℕ) (r : Result Tcsb Refusal) : Type 0 where
  pub answers : r ≡ then (founding_of list names place p q) (λ st. Ok (zero_tcsb names place))
  pub leaves : (t : Tcsb) → r ≡ Ok t → founding_of list names place p q ≡ Ok (view t list p q)
  pub good : (t : Tcsb) → r ≡ Ok t → Good t list p q

-- ---- the calls

-- a call gives what its definition says, and keeps what a replica satisfies; where it is refused, nothing changed; 4 before all others where
-- the words that are lent are too short
pub record Does {A : Type 0} (list p p' q q' : List ℕ) (words : Bool) (t t' : Tcsb) (answer : Result A Refusal) (want : State → Call A) : Type 0 where
  pub answers : Good t list p q → answer ≡ answer_of (want (view t list p q))
  pub leaves : Good t list p q → view t' list p' q' ≡ state_after (view t list p q) (want (view t list p q))
  pub good : Good t list p q → Good t' list p' q'
  pub kept : (k : Refusal) → answer ≡ Err k → (t' ≡ t) × ((p' ≡ p) × (q' ≡ q))
  pub short : words ≡ false → answer ≡ Err (no 4)

-- the same of a part of a call that goes on from a fact
pub record DoesIf (fact : Type 0) {A : Type 0} (list p p' q q' : List ℕ) (t t' : Tcsb) (answer : Result A Refusal) (want : State → Call A) : Type 0 where
  pub answers : fact → Good t list p q → answer ≡ answer_of (want (view t list p q))
  pub leaves : fact → Good t list p q → view t' list p' q' ≡ state_after (view t list p q) (want (view t list p q))
  pub sound : fact → Good t list p q → Sound t' list p' q'
  pub kept : (k : Refusal) → answer ≡ Err k → (t' ≡ t) × ((p' ≡ p) × (q' ≡ q))

-- a call that writes its answer into a lent buffer: the answer's bytes, and behind them what stood there; 15 where it is too short
pub record Writes (list p p' q q' out out' : List ℕ) (words : Bool) (t t' : Tcsb) (answer : Result ℕ Refusal) (want : State → Call (List ℕ)) : Type 0 where
  pub wrote : Good t list p q → Wrote out out' 0 0 (answer_of (want (view t list p q))) answer
  pub leaves : Good t list p q → view t' list p' q' ≡ state_after (view t list p q) (lent out (want (view t list p q)))
  pub good : Good t list p q → Good t' list p' q'
  pub kept : (k : Refusal) → answer ≡ Err k → (t' ≡ t) × ((p' ≡ p) × ((q' ≡ q) × (out' ≡ out)))
  pub short : words ≡ false → answer ≡ Err (no 4)

pub record WritesIf (fact : Type 0) (list p p' q q' out out' : List ℕ) (t t' : Tcsb) (answer : Result ℕ Refusal) (want : State → Call (List ℕ)) : Type 0 where
  pub wrote : fact → Good t list p q → Wrote out out' 0 0 (answer_of (want (view t list p q))) answer
  pub leaves : fact → Good t list p q → view t' list p' q' ≡ state_after (view t list p q) (lent out (want (view t list p q)))
  pub sound : fact → Good t list p q → Sound t' list p' q'
  pub kept : (k : Refusal) → answer ≡ Err k → (t' ≡ t) × ((p' ≡ p) × ((q' ≡ q) × (out' ≡ out)))

-- a call that only writes
pub record WritesOnly (list p q out out' : List ℕ) (words : Bool) (t : Tcsb) (answer : Result ℕ Refusal) (want : State → List ℕ) : Type 0 where
  pub wrote : Good t list p q → Wrote out out' 0 0 (Ok (want (view t list p q))) answer
  pub kept : (k : Refusal) → answer ≡ Err k → out' ≡ out
  pub short : words ≡ false → answer ≡ Err (no 4)
