-- What a replica made by the calls always satisfies. Assumes nothing.
use Rattle.std.specs.Prelude.{ℕ, ◌<◌, ◌≤◌, ◌≡◌, true, List, length, get_or}
use Rattle.lists.specs.Lists.{at}
use Rattle.leb128.specs.Leb128.{last_number}
use Rattle.clock.specs.Matrix.{row_of, cell, valid_of}
use Rattle.telegram.specs.Reading.{fair}
use Rattle.store.specs.declared.event.Event.{Event}
use Rattle.store.specs.Orders.{In, Sorted}
use Rattle.tcsb.specs.Internalizer.{no_translation, our_place}
use Rattle.tcsb.specs.Replica.{State, members, own, cut, counts_fit}
use Rattle.tcsb.specs.declared.internalizer.Translation.{Translation}
use Rattle.std.specs.Prelude.{Ok}

-- sixteen entries, none above the last number
pub record GoodEntries (l : List ℕ) : Type 0 where
  pub sixteen : length l ≡ 16
  pub numbers : (j : ℕ) → at l j ≤ last_number

-- a sender's row: its places are ours, each of another member
pub record GoodRow (n : ℕ) (row : Translation) : Type 0 where
  pub few : row.count ≤ 16
  pub members : (p : ℕ) → p < row.count → our_place row p < n
  pub distinct : (p q : ℕ) → p < q → q < row.count → our_place row p ≡ our_place row q → ⊥

-- an event of a store: its origin is a member, and its number is its version's entry for its origin, and not 0
pub record GoodEvent (n : ℕ) (e : Event) : Type 0 where
  pub member : e.origin.0 < n
  pub some : 1 ≤ e.number
  pub numbered : e.number ≡ at e.version.entries e.origin.0
  pub version : GoodEntries e.version.entries
  pub unlisted : (j : ℕ) → n ≤ j → at e.version.entries j ≡ 0
  pub short : e.len ≤ 32
  pub operation : length e.operation ≡ 32

-- a waiting event is another's, and above its origin's row
pub record Waits (st : State) (e : Event) : Type 0 where
  pub good : GoodEvent (members st) e
  pub other : e.origin.0 ≡ own st → ⊥
  pub later : cell st.matrix.rows e.origin.0 e.origin.0 < e.number

-- an event of the outbox is above the frontier
pub record Kept (st : State) (e : Event) : Type 0 where
  pub good : GoodEvent (members st) e
  pub later : at (cut st) e.origin.0 < e.number

pub record WellFormed (st : State) : Type 0 where
  -- members 2 to 16, names of 1 to 16 bytes 0x21 to 0x7E, none twice; we are one of them
  pub counts : counts_fit st.names ≡ true
  pub distinct : fair st.names ≡ true
  pub listed : length st.names ≡ members st
  pub ours : own st < members st
  -- a row for each member, valid as document 01's matrix rule says
  pub rows : length st.matrix.rows ≡ 16
  pub entries : (i : ℕ) → GoodEntries (row_of st.matrix.rows i)
  pub unlisted : (i j : ℕ) → members st ≤ j → cell st.matrix.rows i j ≡ 0
  pub valid : valid_of st.matrix ≡ Ok true
  -- the frontier is below every row
  pub one_list : st.frontier.members ≡ members st
  pub cuts : GoodEntries (cut st)
  pub below : (i j : ℕ) → i < members st → j < members st → at (cut st) j ≤ cell st.matrix.rows i j
  pub columns : length st.raised.raised ≡ 16
  -- a row for each sender
  pub senders : length st.known ≡ 16
  pub known : (i : ℕ) → GoodRow (members st) (get_or st.known i no_translation)
  -- the stores: sorted by place and number, each id once
  pub inbox_sorted : Sorted st.inbox
  pub inbox-room : length st.inbox ≤ 64
  pub waits : (e : Event) → In e st.inbox → Waits st e
  pub outbox_sorted : Sorted st.outbox
  pub outbox-room : length st.outbox ≤ 256
  pub keeps : (e : Event) → In e st.outbox → Kept st e
