-- A frontier call keeps a replica well-formed. Assumes nothing.
use mathlib.Core.Path.{◌≡◌, ◌∙◌}
use mathlib.Core.Bool.{Bool, false}
use mathlib.Core.Logic.{⊎_elim}
use mathlib.Core.List.{List}
use Prim.Native.Nat.{ℕ, ◌-◌, ◌≤◌, ◌<◌}
use native.Mathlib.Omega.{arith}
use lib.ListN.{get_or}
use lib.Dec.{eqb}
use borrow.Author.Tests.{ltb-true}
use Rattle.lists.specs.Lists.{at, any}
use Rattle.lists.proofs.Cases.{split}
use Rattle.lists.proofs.Laws.{length_over}
use Rattle.clock.specs.declared.version_vector.Row.{Row}
use Rattle.clock.specs.Matrix.{cell, column}
use Rattle.store.specs.Orders.{keep, above}
use Rattle.store.proofs.Sorting.{keep_in, keep_sorted}
use Rattle.tcsb.specs.Replica.{State, members, own, cut, settled_of, is_settled, frontier_call}
use Rattle.tcsb.specs.WellFormed.{WellFormed}
use Rattle.tcsb.proofs.Places.{cond_ind, over_low, over_high, least_le, keep-few}
use Rattle.tcsb.proofs.Valid.{members_range}
use Rattle.tcsb.proofs.Carried.{moved, GoodCut, GoodInbox, GoodOutbox, rows_of, moved-well}

-- an entry that is at most each of its column stays so
pub column_le : (rows : List Row) (n : ℕ) (raised : List Bool) (j x i : ℕ) → i < n → x ≤ cell rows i j → column rows n raised j x ≤ cell rows i j
column_le rows n raised j x i lt h =
    cond_ind (λ (y : ℕ). y ≤ cell rows i j) (get_or raised j false)
    (λ _. cond_ind (λ (y : ℕ). y ≤ cell rows i j) (any n (λ k. eqb (cell rows k j) x)) (λ _. h) (λ _. least_le (n - 1) (λ k. cell rows k j) i (omega arith)))
    (λ _. h)

module _ {st : State} (w : WellFormed st) where
  settled_low : (j : ℕ) → j < members st → at (settled_of st) j ≡ column st.matrix.rows (members st) st.raised.raised j (at (cut st) j)
  settled_low j lt =
      over_low (members st) (λ k. column st.matrix.rows (members st) st.raised.raised k (at (cut st) k)) (cut st) j (omega (arith, (members_range w).1, w.cuts.sixteen)) lt

  settled_high : (j : ℕ) → members st ≤ j → at (settled_of st) j ≡ at (cut st) j
  settled_high j = over_high (members st) (λ k. column st.matrix.rows (members st) st.raised.raised k (at (cut st) k)) (cut st) j

  settled-below : (i j : ℕ) → i < members st → j < members st → at (settled_of st) j ≤ cell st.matrix.rows i j
  settled-below i j lt lu =
      rw (settled_low j lu) (column_le st.matrix.rows (members st) st.raised.raised j (at (cut st) j) i lt (w.below i j lt lu))

  settled-cut : GoodCut (members st) st.matrix.rows (settled_of st)
  settled-cut = record {
    entries = record {
      sixteen = length_over 0 (members st) (λ k. column st.matrix.rows (members st) st.raised.raised k (at (cut st) k)) (cut st) ∙ w.cuts.sixteen;
      numbers = λ j. ⊎_elim (λ lt. omega (arith, settled-below (own st) j w.ours lt, (w.entries (own st)).numbers j))
          (λ h. omega (arith, settled_high j h, w.cuts.numbers j)) (split j (members st));
    };
    below = settled-below;
  }

  abbrev after_settled : State
  after_settled = moved st st.matrix.rows (settled_of st) st.raised.raised st.inbox (keep (above (settled_of st)) st.outbox)

  settled-inbox : GoodInbox after_settled st.inbox
  settled-inbox = record {
    sorted = w.inbox_sorted;
    room = w.inbox-room;
    waits = λ e m. record { good = (w.waits e m).good; other = (w.waits e m).other; later = (w.waits e m).later };
  }

  settled-outbox : GoodOutbox after_settled (keep (above (settled_of st)) st.outbox)
  settled-outbox = record {
    sorted = keep_sorted (above (settled_of st)) st.outbox w.outbox_sorted;
    room = omega (arith, keep-few (above (settled_of st)) st.outbox, w.outbox-room);
    keeps = λ e m. let k = keep_in (above (settled_of st)) st.outbox m in
        record { good = (w.keeps e k.0).good; later = ltb-true (at (settled_of st) e.origin.0) e.number k.1 };
  }

pub frontier-well : (st : State) → WellFormed st → WellFormed (frontier_call st)
unfolding frontier_call
frontier-well st w =
    cond_ind WellFormed (is_settled st) (λ _. w) (λ _. moved-well w (rows_of w) (settled-cut w) w.columns (settled-inbox w) (settled-outbox w))
