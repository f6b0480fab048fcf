-- A step that leaves names, member count, own place and known rows: what the rest has to satisfy. Assumes nothing.
use mathlib.Core.Path.{◌≡◌}
use mathlib.Core.Bool.{Bool}
use mathlib.Core.List.{List}
use Prim.Native.Nat.{ℕ, ◌≤◌, ◌<◌}
use native.Mathlib.Omega.{arith}
use lib.ListN.{length}
use Rattle.lists.specs.Lists.{at}
use Rattle.clock.specs.declared.version_vector.Row.{Row}
use Rattle.clock.specs.Matrix.{row_of, cell, with_rows}
use Rattle.store.specs.declared.event.Event.{Event}
use Rattle.store.specs.Orders.{In, Sorted}
use Rattle.tcsb.specs.Replica.{State, members, own, cut}
use Rattle.tcsb.specs.WellFormed.{GoodEntries, Waits, Kept, WellFormed}
use Rattle.tcsb.proofs.Valid.{valid_facts, facts_valid, members_range}

-- the state with other rows, frontier entries, raised columns and stores
abbrev pub moved : State → List Row → List ℕ → List Bool → List Event → List Event → State
moved st rows entries raised inbox outbox = record {
  names = st.names;
  matrix = with_rows st.matrix rows;
  frontier = record { members = st.frontier.members; row = record { entries = entries } };
  raised = record { raised = raised };
  known = st.known;
  inbox = inbox;
  outbox = outbox;
}

-- rows of n members, ours at a place: valid, and 0 behind the member count
pub record GoodRows (n place : ℕ) (rows : List Row) : Type 0 where
  pub sixteen : length rows ≡ 16
  pub entries : (i : ℕ) → GoodEntries (row_of rows i)
  pub unlisted : (i j : ℕ) → n ≤ j → cell rows i j ≡ 0
  pub under : (i j : ℕ) → i < n → j < n → cell rows i j ≤ cell rows j j
  pub largest : (i j : ℕ) → i < n → j < n → cell rows i j ≤ cell rows place j

-- entries that are below every row
pub record GoodCut (n : ℕ) (rows : List Row) (f : List ℕ) : Type 0 where
  pub entries : GoodEntries f
  pub below : (i j : ℕ) → i < n → j < n → at f j ≤ cell rows i j

pub record GoodInbox (st : State) (l : List Event) : Type 0 where
  pub sorted : Sorted l
  pub room : length l ≤ 64
  pub waits : (e : Event) → In e l → Waits st e

pub record GoodOutbox (st : State) (l : List Event) : Type 0 where
  pub sorted : Sorted l
  pub room : length l ≤ 256
  pub keeps : (e : Event) → In e l → Kept st e

-- rows that only grew stay above the entries
pub cut_grown : {n : ℕ} {rows after : List Row} {f : List ℕ} → GoodCut n rows f
    → ((i j : ℕ) → i < n → j < n → cell rows i j ≤ cell after i j) → GoodCut n after f
cut_grown c g = record { entries = c.entries; below = λ i j lt lu. omega (arith, c.below i j lt lu, g i j lt lu) }

module _ {st : State} (w : WellFormed st) where
  pub rows_of : GoodRows (members st) (own st) st.matrix.rows
  rows_of = record {
    sixteen = w.rows;
    entries = w.entries;
    unlisted = w.unlisted;
    under = (valid_facts st.matrix w.valid).under;
    largest = (valid_facts st.matrix w.valid).largest;
  }

  pub cut_of : GoodCut (members st) st.matrix.rows (cut st)
  cut_of = record { entries = w.cuts; below = w.below }

  pub moved-well : {rows : List Row} {entries : List ℕ} {raised : List Bool} {inbox outbox : List Event}
      → GoodRows (members st) (own st) rows → GoodCut (members st) rows entries → length raised ≡ 16
      → GoodInbox (moved st rows entries raised inbox outbox) inbox → GoodOutbox (moved st rows entries raised inbox outbox) outbox
      → WellFormed (moved st rows entries raised inbox outbox)
  moved-well {rows} {entries} {raised} {inbox} {outbox} r f c i o = record {
    counts = w.counts;
    distinct = w.distinct;
    listed = w.listed;
    ours = w.ours;
    rows = r.sixteen;
    entries = r.entries;
    unlisted = r.unlisted;
    valid =
        facts_valid (with_rows st.matrix rows)
        (record { two = (members_range w).0; few = (members_range w).1; place = w.ours; under = r.under; largest = r.largest });
    one_list = w.one_list;
    cuts = f.entries;
    below = f.below;
    columns = c;
    senders = w.senders;
    known = w.known;
    inbox_sorted = i.sorted;
    inbox-room = i.room;
    waits = i.waits;
    outbox_sorted = o.sorted;
    outbox-room = o.room;
    keeps = o.keeps;
  }
