-- Which event is ready, as the code finds it: the tests of entries, the walk along an order, the search for an id. Assumes nothing.
use mathlib.Core.Path.{◌≡◌, refl, sym, ap, ◌∙◌}
use mathlib.Core.Bool.{Bool, true, false, cond}
use mathlib.Core.Logic.{⊎_elim}
use mathlib.Core.List.Memᴰ
use mathlib.Core.List.{List, [], ◌∷◌, map}
use Prim.Native.Nat.{ℕ, zero, suc, ◌+◌, ◌≤◌, ◌<◌}
use native.Mathlib.Nat.{not-suc-le-zero, le_of_suc-le-suc}
use native.Mathlib.Omega.{arith}
use lib.ListN.{length, get_or, take, length-map, length-take, get_or-map}
use lib.Seq.{get_or-take}
use lib.Dec.{eqb, ltb}
use borrow.Author.Tests.{eq-eqb, ne_eqb}
use Rattle.lists.specs.Lists.{at}
use Rattle.lists.proofs.Laws.{get_d_any}
use Rattle.clock.specs.declared.version_vector.Row.{Row}
use Rattle.store.specs.declared.event.Event.{Event}
use Rattle.store.specs.declared.order.Slots.{Slots}
use Rattle.store.specs.Words.{event_at}
use Rattle.store.specs.Orders.{In, HasId, Sorted, events, meant}
use Rattle.store.proofs.Sorting.{before_other}
use Rattle.tcsb.specs.Replica.{entry_ready, State, Pick, none, at_place, ready_by, is_ready, first_ready, named_ready}
use Rattle.tcsb.specs.Delivery.{no_event, pick_place, FirstReady}
use Rattle.tcsb.proofs.Places.{same-or-other, in_at}
use Rattle.tcsb.proofs.Delivering.{Answer}
use Rattle.std.specs.Prelude.{Option, Some, None}
use Rattle.std.specs.List.{position_from, position_or_len}
use Rattle.std.proofs.lemmas.Iterator.Adapters.{position_from-zero}

-- ---- the test of all entries

abbrev pub ready_at : List ℕ → List ℕ → ℕ → ℕ → Bool
ready_at row version origin j = entry_ready (at row j) (at version j) (eqb j origin)

-- ---- the events of an order by position

module _ (p : List ℕ) (o : Slots) where
  pub count-events : length (events p o) ≤ o.count
  count-events = simp (length-map, length-take) (omega arith)

  pub events-at : (i : ℕ) (d : Event) → i < length (events p o) → get_or (events p o) i d ≡ event_at p (get_or o.at i 0)
  events-at i d h =
      get_d_any (events p o) i d (event_at p 0) h ∙ (get_or-map (event_at p) (take o.count o.at) i 0 ∙ ap (event_at p) (get_or-take o.count o.at i 0 (omega (arith, count-events))))

-- ---- the first that is ready

abbrev ready_test : List ℕ → State → ℕ → Bool
ready_test p st s = is_ready st (event_at p s)

pick_first : (p : List ℕ) (st : State) (i : ℕ) (slots : List ℕ) → position_from (ready_test p st) i slots ≡ pick_place (first_ready st i (map (event_at p) slots))
unfolding first_ready
pick_first p st i [] = refl
pick_first p st i (s ∷ slots) = go (is_ready st (event_at p s)) (pick_first p st (i + 1) slots)
  where
    go : (b : Bool) → position_from (ready_test p st) (i + 1) slots ≡ pick_place (first_ready st (i + 1) (map (event_at p) slots))
        → cond b (Some i) (position_from (ready_test p st) (i + 1) slots)
        ≡ pick_place (cond b (at_place i (event_at p s)) (first_ready st (i + 1) (map (event_at p) slots)))
    go true h = refl
    go false h = h

-- what the search for a position among the slots says of the events
pub first_told : {p slots : List ℕ} {order : Slots} (row : Row) (n : ℕ) {r : Option ℕ} → slots ≡ meant order
    → (n ≤ 16 → r ≡ cond (ltb (position_or_len (λ s. ready_by n row.entries (event_at p s)) slots) (length slots))
    (Some (position_or_len (λ s. ready_by n row.entries (event_at p s)) slots)) None)
    → FirstReady p order row n r
unfolding is_ready
first_told {p} {slots} row n told h = record {
  first = λ st few _ m e.
      h few ∙ position_from-zero (λ s. ready_by n row.entries (event_at p s)) slots
      ∙ (λ i. position_from (λ s. ready_by (sym m i) (sym e i) (event_at p s)) 0 slots)
      ∙ pick_first p st 0 slots
      ∙ ap (λ (l : List ℕ). pick_place (first_ready st 0 (map (event_at p) l))) told;
}

-- ---- what a pick by position says

pub pick_none : (w : Pick) → None ≡ pick_place w → w ≡ none
pick_none none e = refl
pick_none (at_place i x) e = cc

pub pick_at : (st : State) (l : List Event) (i : ℕ) (w : Pick) → Some i ≡ pick_place w → Answer st l 0 w
    → (w ≡ at_place i (get_or l i no_event)) × (i < length l)
pick_at st l i none e a = cc
pick_at st l i (at_place k x) e a =
    let q : i ≡ k = cc in
    let m : a.k ≡ i = omega (arith, a.at) in
    let s : x ≡ get_or l i no_event = sym (a.is no_event) ∙ ap (λ (z : ℕ). get_or l z no_event) m in
    (λ j. at_place (sym q j) (s j), omega (arith, a.fit))

-- ---- the one that is named

-- no event has the id
pub named_none : (st : State) (o n j : ℕ) (l : List Event) → ((y : Event) → In y l → ¬ HasId o n y) → named_ready st o n j l ≡ none
unfolding named_ready
named_none st o n j [] h = refl
named_none st o n j (x ∷ l) h =
    let rest = named_none st o n (j + 1) l (λ y m. h y (Memᴰ.tail m)) in
    ⊎_elim (λ a. ⊎_elim (λ b. absurd (h x (Memᴰ.head refl) (a, b))) (λ b. rw (eq-eqb x.origin.0 o a, ne_eqb x.number n b) rest) (same-or-other x.number n))
    (λ a. rw (ne_eqb x.origin.0 o a) rest) (same-or-other x.origin.0 o)

-- the event at position i of a sorted list has the id
pub named_at : (st : State) (o n j i : ℕ) (l : List Event) (d : Event) → Sorted l → i < length l → HasId o n (get_or l i d)
    → named_ready st o n j l ≡ cond (is_ready st (get_or l i d)) (at_place (j + i) (get_or l i d)) none
unfolding named_ready
named_at st o n j i [] d s lt h = absurd (not-suc-le-zero lt)
named_at st o n j zero (x ∷ l) d s lt h = rw (eq-eqb x.origin.0 o h.0, eq-eqb x.number n h.1) (ap (λ (k : ℕ). cond (is_ready st x) (at_place k x) none) (omega arith))
named_at st o n j (suc i) (x ∷ l) d s lt h =
    let b = before_other x (get_or l i d) (s.0 (get_or l i d) (in_at l i d (le_of_suc-le-suc lt))) in
    let rest = named_at st o n (j + 1) i l d s.1 (le_of_suc-le-suc lt) h in
    let more : cond (is_ready st (get_or l i d)) (at_place (j + 1 + i) (get_or l i d)) none ≡ cond (is_ready st (get_or l i d)) (at_place (j + suc i) (get_or l i d)) none =
    ap (λ (k : ℕ). cond (is_ready st (get_or l i d)) (at_place k (get_or l i d)) none) (omega arith) in
    ⊎_elim (λ a. ⊎_elim (λ c. absurd (b (a ∙ sym h.0, c ∙ sym h.1))) (λ c. rw (eq-eqb x.origin.0 o a, ne_eqb x.number n c) (rest ∙ more)) (same-or-other x.number n))
    (λ a. rw (ne_eqb x.origin.0 o a) (rest ∙ more)) (same-or-other x.origin.0 o)
