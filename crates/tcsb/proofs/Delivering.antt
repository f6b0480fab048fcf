-- A delivery, the next or a named one, keeps a replica well-formed. Assumes nothing.
use mathlib.Core.Path.{◌≡◌, refl, sym, ap, ◌∙◌, subst}
use mathlib.Core.Bool.{Bool, true, false, cond, ◌&&◌}
use mathlib.Core.Logic.{◌⊎◌, inl, inr, ⊎_elim}
use mathlib.Core.List.{List, [], ◌∷◌}
use Prim.Native.Nat.{ℕ, suc, ◌+◌, ◌≤◌, ◌<◌, max, zero-le, suc-le-suc}
use native.Mathlib.Omega.{arith}
use lib.ListN.{length, get_or, set, length-set}
use lib.Dec.{leb, ltb, eqb}
use borrow.Author.Tests.{leb-true, eqb-true, eq-eqb, ne_eqb}
use Rattle.lists.specs.Lists.{at}
use Rattle.lists.proofs.Cases.{split}
use Rattle.lists.proofs.Laws.{all-at, length_over, length-tab}
use Rattle.clock.specs.declared.version_vector.Row.{Row}
use Rattle.clock.specs.Entries.{join_entries}
use Rattle.clock.specs.Matrix.{row_of, cell, no_columns}
use Rattle.store.specs.declared.event.Event.{Event}
use Rattle.store.specs.Orders.{SameId}
use Rattle.store.proofs.Sorting.{delete_in, delete_sorted}
use Rattle.tcsb.specs.Replica.{State, Pick, none, at_place, state_after, members, own, own_row, is_ready, delivered, first_ready, named_ready, after_pick, next_call, deliver_call}
use Rattle.tcsb.specs.WellFormed.{GoodEntries, Waits, WellFormed}
use Rattle.tcsb.proofs.Places.{cond_ind, same-or-other, join_low, join_high, row_ind, in_at, delete_few, delete_other}
use Rattle.tcsb.proofs.Valid.{members_range}
use Rattle.tcsb.proofs.Carried.{GoodRows, rows_of, cut_of, cut_grown, moved-well}

-- ---- what is picked stands in the inbox and is ready

-- e is at place k of a list, and ready; places count from j
pub record ReadyAt (st : State) (l : List Event) (j i : ℕ) (e : Event) : Type 0 where
  pub k : ℕ
  pub at : i ≡ j + k
  pub fit : k < length l
  pub is : (d : Event) → get_or l k d ≡ e
  pub ready : is_ready st e ≡ true

abbrev pub Answer : State → List Event → ℕ → Pick → Type 0
Answer st l j none = Unit {0}
Answer st l j (at_place i e) = ReadyAt st l j i e

-- the first of a list
here : {st : State} {e : Event} {l : List Event} {j : ℕ} → is_ready st e ≡ true → ReadyAt st (e ∷ l) j j e
here t = record { k = 0; at = omega arith; fit = suc-le-suc zero-le; is = λ d. refl; ready = t }

further : (st : State) (x : Event) (l : List Event) (j : ℕ) (p : Pick) → Answer st l (j + 1) p → Answer st (x ∷ l) j p
further st x l j none a = tt
further st x l j (at_place i e) a = record { k = suc a.k; at = omega (arith, a.at); fit = suc-le-suc a.fit; is = a.is; ready = a.ready }

pub first_answer : (st : State) (j : ℕ) (l : List Event) → Answer st l j (first_ready st j l)
unfolding first_ready
first_answer st j [] = tt
first_answer st j (x ∷ l) = cond_ind (Answer st (x ∷ l) j) (is_ready st x) (λ t. here t) (λ t. further st x l j (first_ready st (j + 1) l) (first_answer st (j + 1) l))

named_answer : (st : State) (o n j : ℕ) (l : List Event) → Answer st l j (named_ready st o n j l)
unfolding named_ready
named_answer st o n j [] = tt
named_answer st o n j (x ∷ l) =
    cond_ind (Answer st (x ∷ l) j) (eqb x.origin.0 o && eqb x.number n)
    (λ _. cond_ind (Answer st (x ∷ l) j) (is_ready st x) (λ t. here t) (λ t. tt))
    (λ _. further st x l j (named_ready st o n (j + 1) l) (named_answer st o n (j + 1) l))

-- ---- what ready says

-- the test of one place
abbrev ready_test : State → Event → ℕ → Bool
ready_test st e j =
    cond (eqb j e.origin.0) (eqb (at e.version.entries j) (at (own_row st) j + 1)) (leb (at e.version.entries j) (at (own_row st) j))

module _ (st : State) (e : Event) (ready : is_ready st e ≡ true) where
  ready_test_lem : (j : ℕ) → j < members st → ready_test st e j ≡ true
  unfolding is_ready
  ready_test_lem j lt = all-at (members st) j (ready_test st e) ready lt

  -- its origin entry is ours plus one
  pub ready_origin : e.origin.0 < members st → at e.version.entries e.origin.0 ≡ at (own_row st) e.origin.0 + 1
  ready_origin lt =
      eqb-true (at e.version.entries e.origin.0) (at (own_row st) e.origin.0 + 1)
      (rw (eq-eqb e.origin.0 e.origin.0 refl) at (ready_test_lem e.origin.0 lt))

  -- each other entry is at most ours
  pub ready_other : (j : ℕ) → j < members st → (j ≡ e.origin.0 → ⊥) → at e.version.entries j ≤ at (own_row st) j
  ready_other j lt n =
      leb-true (at e.version.entries j) (at (own_row st) j) (rw (ne_eqb j e.origin.0 n) at (ready_test_lem j lt))

-- ---- joins

pub join_good : (n : ℕ) (a v : List ℕ) → n ≤ 16 → GoodEntries a → GoodEntries v → GoodEntries (join_entries n a v)
join_good n a v h g k = record {
  sixteen = length_over 0 n (λ j. max (at a j) (at v j)) a ∙ g.sixteen;
  numbers = λ j. ⊎_elim (λ lt. omega (arith, join_low n a v j (omega (arith, g.sixteen)) lt, g.numbers j, k.numbers j))
      (λ le. omega (arith, join_high n a v j le, g.numbers j)) (split j n);
}

-- ---- the matrix after a delivery: our row and the origin's are joined with the version

abbrev row_joined : State → Event → ℕ → List ℕ
row_joined st e k = join_entries (members st) (row_of st.matrix.rows k) e.version.entries

abbrev rows_delivered : State → Event → List Row
rows_delivered st e = set (set st.matrix.rows (own st) (record { entries = row_joined st e (own st) })) e.origin.0 (record { entries = row_joined st e e.origin.0 })

module _ {st : State} {e : Event} (w : WellFormed st) (p : Waits st e) (ready : is_ready st e ≡ true) where
  -- a row, by the two cases
  delivered_row : (P : List ℕ → Type 0) (k : ℕ) → ((k ≡ own st) ⊎ (k ≡ e.origin.0) → P (row_joined st e k))
      → ((k ≡ own st → ⊥) → (k ≡ e.origin.0 → ⊥) → P (row_of st.matrix.rows k)) → P (row_of (rows_delivered st e) k)
  delivered_row P k f g =
      row_ind P (set st.matrix.rows (own st) (record { entries = row_joined st e (own st) })) e.origin.0 (row_joined st e e.origin.0) k
      (omega (arith, p.good.member, (members_range w).1, w.rows, length-set st.matrix.rows (own st) (record { entries = row_joined st e (own st) })))
      (λ q. subst (λ (x : ℕ). P (row_joined st e x)) q (f (inr q)))
      (λ n. row_ind P st.matrix.rows (own st) (row_joined st e (own st)) k (omega (arith, w.ours, (members_range w).1, w.rows))
      (λ q. subst (λ (x : ℕ). P (row_joined st e x)) q (f (inl q)))
      (λ m. g m n))

  -- a cell below the member count
  delivered-cell : (P : ℕ → Type 0) (k j : ℕ) → j < members st
      → ((k ≡ own st) ⊎ (k ≡ e.origin.0) → P (max (cell st.matrix.rows k j) (at e.version.entries j)))
      → ((k ≡ own st → ⊥) → (k ≡ e.origin.0 → ⊥) → P (cell st.matrix.rows k j)) → P (cell (rows_delivered st e) k j)
  delivered-cell P k j lt f g =
      delivered_row (λ (l : List ℕ). P (at l j)) k
      (λ t. rw (join_low (members st) (row_of st.matrix.rows k) e.version.entries j (omega (arith, (members_range w).1, (w.entries k).sixteen)) lt) (f t)) g

  delivered_grown : (k j : ℕ) → j < members st → cell st.matrix.rows k j ≤ cell (rows_delivered st e) k j
  delivered_grown k j lt = delivered-cell (λ (x : ℕ). cell st.matrix.rows k j ≤ x) k j lt (λ _. omega arith) (λ _ _. omega arith)

  -- the version is under the diagonal: the origin's own row has its entry, and each other entry was ours
  version_under : (j : ℕ) → j < members st → at e.version.entries j ≤ cell (rows_delivered st e) j j
  version_under j lt =
      ⊎_elim (λ q. delivered-cell (λ (x : ℕ). at e.version.entries j ≤ x) j j lt (λ _. omega arith) (λ _ n. absurd (n q)))
      (λ n. omega (arith, ready_other st e ready j lt n, (rows_of w).under (own st) j w.ours lt, delivered_grown j j lt))
      (same-or-other j e.origin.0)

  -- our row has the version
  version-ours : (j : ℕ) → j < members st → max (at (own_row st) j) (at e.version.entries j) ≤ cell (rows_delivered st e) (own st) j
  version-ours j lt =
      delivered-cell (λ (x : ℕ). max (at (own_row st) j) (at e.version.entries j) ≤ x) (own st) j lt (λ _. omega arith) (λ n _. absurd (n refl))

  delivered-rows : GoodRows (members st) (own st) (rows_delivered st e)
  delivered-rows = record {
    sixteen =
        length-set (set st.matrix.rows (own st) (record { entries = row_joined st e (own st) })) e.origin.0 (record { entries = row_joined st e e.origin.0 })
        ∙ (length-set st.matrix.rows (own st) (record { entries = row_joined st e (own st) }) ∙ w.rows);
    entries = λ k. delivered_row GoodEntries k
        (λ _. join_good (members st) (row_of st.matrix.rows k) e.version.entries (members_range w).1 (w.entries k) p.good.version)
        (λ _ _. w.entries k);
    unlisted = λ k j h. delivered_row (λ (l : List ℕ). at l j ≡ 0) k
        (λ _. join_high (members st) (row_of st.matrix.rows k) e.version.entries j h ∙ w.unlisted k j h) (λ _ _. w.unlisted k j h);
    under = λ i j lt lu. delivered-cell (λ (x : ℕ). x ≤ cell (rows_delivered st e) j j) i j lu
        (λ _. omega (arith, version_under j lu, (rows_of w).under i j lt lu, delivered_grown j j lu))
        (λ _ _. omega (arith, (rows_of w).under i j lt lu, delivered_grown j j lu));
    largest = λ i j lt lu. delivered-cell (λ (x : ℕ). x ≤ cell (rows_delivered st e) (own st) j) i j lu
        (λ _. omega (arith, version-ours j lu, (rows_of w).largest i j lt lu))
        (λ _ _. omega (arith, version-ours j lu, (rows_of w).largest i j lt lu));
  }

  -- the origin's own entry is ours, so that the event is the next of its origin
  origin_entry : cell st.matrix.rows e.origin.0 e.origin.0 ≡ at (own_row st) e.origin.0
  origin_entry =
      omega (arith, (rows_of w).under (own st) e.origin.0 w.ours p.good.member, (rows_of w).largest e.origin.0 e.origin.0 p.good.member p.good.member)

  -- what waits and has another id is above the row of its origin still
  still_later : (x : Event) → Waits st x → (SameId x e → ⊥) → cell (rows_delivered st e) x.origin.0 x.origin.0 < x.number
  still_later x h n =
      delivered-cell (λ (y : ℕ). y < x.number) x.origin.0 x.origin.0 h.good.member
      (λ t. ⊎_elim (λ q. absurd (h.other q)) (λ q. same-origin q (λ r. n (q, r))) t)
      (λ _ _. h.later)
    where
      same-origin : x.origin.0 ≡ e.origin.0 → (x.number ≡ e.number → ⊥)
          → max (cell st.matrix.rows x.origin.0 x.origin.0) (at e.version.entries x.origin.0) < x.number
      same-origin q m =
          let l : cell st.matrix.rows e.origin.0 e.origin.0 < x.number = rw q at h.later in
          let u : (at e.version.entries e.origin.0 ≡ x.number) → ⊥ = λ r. m (sym r ∙ sym p.good.numbered) in
          let v = ready_origin st e ready p.good.member in
          rw q (⊎_elim (λ a. omega (arith, origin_entry)) (λ a. absurd (u (omega (arith, origin_entry)))) (split (at e.version.entries e.origin.0) x.number))

-- ---- the state after it

delivered-well : {st : State} {i : ℕ} {e : Event} → WellFormed st → ReadyAt st st.inbox 0 i e → WellFormed (delivered st i e)
unfolding delivered
delivered-well {st} {i} {e} w a =
    let fit : i < length st.inbox = omega (arith, a.fit, a.at) in
    let place : i ≡ a.k = omega (arith, a.at) in
    let is : get_or st.inbox i e ≡ e = ap (λ (k : ℕ). get_or st.inbox k e) place ∙ a.is e in
    let p : Waits st e = w.waits e (rw is at (in_at st.inbox i e fit)) in
    moved-well w (delivered-rows w p a.ready) (cut_grown (cut_of w) (λ k j _ lt. delivered_grown w p a.ready k j lt))
    (length_over false (members st) (λ j. ltb (cell st.matrix.rows e.origin.0 j) (at e.version.entries j)) no_columns ∙ length-tab {A = Bool} 16 (λ j. false))
    (record {
      sorted = delete_sorted i st.inbox w.inbox_sorted;
      room = omega (arith, delete_few i st.inbox, w.inbox-room);
      waits = λ x m. let h = w.waits x (delete_in i st.inbox m) in
          record {
            good = h.good;
            other = h.other;
            later = still_later w p a.ready x h (rw is at (delete_other i st.inbox e w.inbox_sorted fit m));
          };
    })
    (record { sorted = w.outbox_sorted; room = w.outbox-room; keeps = λ x m. record { good = (w.keeps x m).good; later = (w.keeps x m).later } })

-- whatever was picked
picked_well : {st : State} (p : Pick) → WellFormed st → Answer st st.inbox 0 p → WellFormed (after_pick st p)
picked_well none w a = w
picked_well (at_place i e) w a = delivered-well w a

pub next_well : (st : State) → WellFormed st → WellFormed (state_after st (next_call st))
next_well st w = picked_well (first_ready st 0 st.inbox) w (first_answer st 0 st.inbox)

pub deliver_well : (st : State) (o n : ℕ) → WellFormed st → WellFormed (state_after st (deliver_call st o n))
deliver_well st o n w = picked_well (named_ready st o n 0 st.inbox) w (named_answer st o n 0 st.inbox)
