-- Sending keeps a replica well-formed. Assumes nothing.
use mathlib.Core.Path.{◌≡◌, refl, sym, ◌∙◌}
use mathlib.Core.Logic.{⊎_elim}
use mathlib.Core.List.{List}
use Prim.Native.Nat.{ℕ, ◌+◌, ◌≤◌, ◌<◌}
use native.Mathlib.Omega.{arith}
use lib.ListN.{length, set, length-set}
use lib.Dec.{leb, ltb}
use borrow.Author.Tests.{leb-true, ltb-true}
use Rattle.lists.specs.Lists.{at}
use Rattle.lists.proofs.Laws.{length-tab}
use Rattle.leb128.specs.Leb128.{last_number}
use Rattle.clock.specs.declared.version_vector.Row.{Row}
use Rattle.clock.specs.Matrix.{row_of, cell}
use Rattle.store.specs.Orders.{insert_sorted}
use Rattle.store.proofs.Sorting.{insert_in, insert_sorted_lem}
use Rattle.tcsb.specs.Replica.{State, Call, state_after, members, own, own_row, cut, raised_row, sent_event, send_of}
use Rattle.tcsb.specs.WellFormed.{GoodEntries, GoodEvent, WellFormed}
use Rattle.tcsb.proofs.Places.{cond_ind, set_ind, row_ind}
use Rattle.tcsb.proofs.Valid.{members_range}
use Rattle.tcsb.proofs.Carried.{moved, GoodRows, GoodInbox, GoodOutbox, rows_of, cut_of, cut_grown, moved-well}

-- the rows with our own entry raised
abbrev rows_sent : State → List Row
rows_sent st = set st.matrix.rows (own st) (record { entries = raised_row st })

abbrev after_sent : State → List ℕ → State
after_sent st operation = moved st (rows_sent st) (cut st) st.raised.raised st.inbox (insert_sorted (sent_event st operation) st.outbox)

module _ {st : State} (w : WellFormed st) (free : at (own_row st) (own st) < last_number) where
  -- our place is one of a row's
  placed : own st < length (own_row st)
  placed = omega (arith, w.ours, (members_range w).1, (w.entries (own st)).sixteen)

  -- an entry of our raised row, by the two cases
  raised_entry : (P : ℕ → Type 0) (j : ℕ) → (j ≡ own st → P (at (own_row st) (own st) + 1)) → ((j ≡ own st → ⊥) → P (at (own_row st) j)) → P (at (raised_row st) j)
  raised_entry P j = set_ind P (own_row st) (own st) (at (own_row st) (own st) + 1) 0 j placed

  raised-good : GoodEntries (raised_row st)
  raised-good = record {
    sixteen = length-set (own_row st) (own st) (at (own_row st) (own st) + 1) ∙ (w.entries (own st)).sixteen;
    numbers = λ j. raised_entry (λ (x : ℕ). x ≤ last_number) j (λ e. omega arith) (λ e. (w.entries (own st)).numbers j);
  }

  raised-unlisted : (j : ℕ) → members st ≤ j → at (raised_row st) j ≡ 0
  raised-unlisted j h = raised_entry (λ (x : ℕ). x ≡ 0) j (λ e. absurd (omega (arith, w.ours))) (λ e. w.unlisted (own st) j h)

  -- a row of the matrix, by the two cases
  sent_row : (P : List ℕ → Type 0) (k : ℕ) → (k ≡ own st → P (raised_row st)) → ((k ≡ own st → ⊥) → P (row_of st.matrix.rows k)) → P (row_of (rows_sent st) k)
  sent_row P k = row_ind P st.matrix.rows (own st) (raised_row st) k (omega (arith, w.ours, (members_range w).1, w.rows))

  -- a cell of the matrix: our own entry is raised, each other as it was
  sent-cell : (P : ℕ → Type 0) (k j : ℕ) → (k ≡ own st → j ≡ own st → P (at (own_row st) (own st) + 1)) → ((k ≡ own st → j ≡ own st → ⊥) → P (cell st.matrix.rows k j))
      → P (cell (rows_sent st) k j)
  sent-cell P k j f g =
      sent_row (λ (l : List ℕ). P (at l j)) k
      (λ p. raised_entry P j (f p) (λ n. rw p at (g (λ _. n))))
      (λ n. g (λ p _. n p))

  sent_grown : (k j : ℕ) → cell st.matrix.rows k j ≤ cell (rows_sent st) k j
  sent_grown k j = sent-cell (λ (x : ℕ). cell st.matrix.rows k j ≤ x) k j (λ p q. rw (p, q) (omega arith)) (λ n. omega arith)

  sent-own : cell (rows_sent st) (own st) (own st) ≡ at (own_row st) (own st) + 1
  sent-own = sent-cell (λ (x : ℕ). x ≡ at (own_row st) (own st) + 1) (own st) (own st) (λ p q. refl) (λ n. absurd (n refl refl))

  sent-rows : GoodRows (members st) (own st) (rows_sent st)
  sent-rows = record {
    sixteen = length-set st.matrix.rows (own st) (record { entries = raised_row st }) ∙ w.rows;
    entries = λ k. sent_row GoodEntries k (λ p. raised-good) (λ n. w.entries k);
    unlisted = λ k j h. sent_row (λ (l : List ℕ). at l j ≡ 0) k (λ p. raised-unlisted j h) (λ n. w.unlisted k j h);
    under = λ i j lt lu. sent-cell (λ (x : ℕ). x ≤ cell (rows_sent st) j j) i j
        (λ p q. rw q (omega (arith, sent-own))) (λ n. omega (arith, (rows_of w).under i j lt lu, sent_grown j j));
    largest = λ i j lt lu. sent-cell (λ (x : ℕ). x ≤ cell (rows_sent st) (own st) j) i j
        (λ p q. rw q (omega (arith, sent-own))) (λ n. omega (arith, (rows_of w).largest i j lt lu, sent_grown (own st) j));
  }

  sent-good : (operation : List ℕ) → length operation ≤ 32 → GoodEvent (members st) (sent_event st operation)
  sent-good operation h = record {
    member = w.ours;
    some = omega arith;
    numbered = sym (raised_entry (λ (x : ℕ). x ≡ at (own_row st) (own st) + 1) (own st) (λ e. refl) (λ n. absurd (n refl)));
    version = raised-good;
    unlisted = raised-unlisted;
    short = h;
    operation = length-tab 32 (λ k. at operation k);
  }

  -- what waits is another's, whose row is as it was
  sent-inbox : (operation : List ℕ) → GoodInbox (after_sent st operation) st.inbox
  sent-inbox operation = record {
    sorted = w.inbox_sorted;
    room = w.inbox-room;
    waits = λ e m. record {
      good = (w.waits e m).good;
      other = (w.waits e m).other;
      later =
          sent-cell (λ (x : ℕ). x < e.number) e.origin.0 e.origin.0
          (λ p q. absurd ((w.waits e m).other p)) (λ n. (w.waits e m).later);
    };
  }

  sent-outbox : (operation : List ℕ) → length operation ≤ 32 → length (insert_sorted (sent_event st operation) st.outbox) ≤ 256
      → GoodOutbox (after_sent st operation) (insert_sorted (sent_event st operation) st.outbox)
  sent-outbox operation h room = record {
    sorted = insert_sorted_lem (sent_event st operation) st.outbox w.outbox_sorted;
    room = room;
    keeps = λ e m. ⊎_elim
        (λ q. rw q (record { good = sent-good operation h; later = omega (arith, w.below (own st) (own st) w.ours w.ours) }))
        (λ q. record { good = (w.keeps e q.0).good; later = (w.keeps e q.0).later })
        (insert_in (sent_event st operation) st.outbox w.outbox_sorted m);
  }

  after-sent : (operation : List ℕ) → length operation ≤ 32 → length (insert_sorted (sent_event st operation) st.outbox) ≤ 256 → WellFormed (after_sent st operation)
  after-sent operation h room =
      moved-well w sent-rows (cut_grown (cut_of w) (λ i j _ _. sent_grown i j)) w.columns (sent-inbox operation) (sent-outbox operation h room)

pub sent-well : (st : State) (operation : List ℕ) → WellFormed st → WellFormed (state_after st (send_of st operation))
unfolding send_of
sent-well st operation w =
    cond_ind P (leb (length operation) 32)
    (λ h. cond_ind P (ltb (at (own_row st) (own st)) last_number)
    (λ f. cond_ind P (leb (length (insert_sorted (sent_event st operation) st.outbox)) 256)
    (λ r. after-sent w (ltb-true (at (own_row st) (own st)) last_number f) operation (leb-true (length operation) 32 h)
    (leb-true (length (insert_sorted (sent_event st operation) st.outbox)) 256 r))
    (λ _. w)) (λ _. w)) (λ _. w)
  where
    P : Call (List ℕ) → Type 0
    P c = WellFormed (state_after st c)
