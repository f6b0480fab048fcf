-- One delivery as the code makes it: what the step at a position leaves, and what next and a named delivery answer. Assumes nothing.
use mathlib.Core.Path.{◌≡◌, refl, sym, ap, ◌∙◌, subst}
use mathlib.Core.Bool.{Bool, true, false, cond}
use mathlib.Core.List.{List}
use Prim.Native.Nat.{ℕ, ◌+◌, ◌≤◌, ◌<◌}
use native.Mathlib.Omega.{arith}
use lib.ListN.{length, get_or, set}
use lib.Seq.{get_or-set_other}
use lib.Dec.{leb}
use borrow.Author.Tests.{le-leb}
use Rattle.refusal.specs.declared.Refusal.{Refusal}
use Rattle.clock.specs.declared.version_vector.Row.{Row}
use Rattle.clock.specs.declared.matrix_clock.MatrixClock.{MatrixClock}
use Rattle.clock.specs.Entries.{join_entries}
use Rattle.clock.specs.declared.matrix_clock.Columns.{Columns}
use Rattle.clock.specs.Becomes.{beside, left_with, BecomesWith}
use Rattle.clock.specs.Matrix.{zero_row, row_of, with_row_at, raised_of, set_row_incremental}
use Rattle.store.specs.declared.event.Event.{Event}
use Rattle.store.specs.declared.order.Store.{Store}
use Rattle.store.specs.Words.{event_at}
use Rattle.store.specs.Orders.{Removed, events, del_at, find_from}
use Rattle.store.proofs.Sorting.{find_at, find_gap}
use Rattle.tcsb.specs.Replica.{State, Pick, none, at_place, done, members, own, own_row, is_ready, ready_by, delivered, after_pick}
use Rattle.tcsb.specs.Replica.{picked_of, next_of, deliver_of, next_call, deliver_call}
use Rattle.tcsb.specs.WellFormed.{WellFormed, Waits}
use Rattle.tcsb.specs.Tcsb.{view, Good, Does}
use Rattle.tcsb.specs.Delivery.{no_event, waiting_at, pick_place, FirstReady, DeliversAt}
use Rattle.tcsb.specs.declared.tcsb.Tcsb.{Tcsb}
use Rattle.tcsb.proofs.Places.{in_at}
use Rattle.tcsb.proofs.Valid.{done_fits, members_range}
use Rattle.tcsb.proofs.Delivering.{first_answer, next_well, deliver_well}
use Rattle.tcsb.proofs.Ready.{count-events, events-at, pick_none, pick_at, named_none, named_at}
use Rattle.tcsb.proofs.Calls.{good-after, inbox-count}
use Rattle.std.specs.Prelude.{Result, Ok, Err, Option, Some, None}

-- ---- the matrix

-- our row joined, then the origin's row raised
abbrev pub raised_by : MatrixClock → Event → Result (MatrixClock × Columns) Refusal
raised_by m e =
    set_row_incremental (with_row_at m m.origin.0 (join_entries m.members (row_of m.rows m.origin.0) e.version.entries)) e.origin.0
    (record { members = m.members; origin = e.origin; row = e.version })

-- what the calls on the matrix give, one after the other
pub raised_is : {ours clocks : MatrixClock} {answer : Result Columns Refusal} (m : MatrixClock) (e : Event) (row joined : Row) → row.entries ≡ row_of m.rows m.origin.0
    → joined.entries ≡ join_entries m.members row.entries e.version.entries → ours ≡ with_row_at m m.origin.0 joined.entries
    → BecomesWith ours clocks answer (set_row_incremental ours e.origin.0 (record { members = m.members; origin = e.origin; row = e.version }))
    → BecomesWith ours clocks answer (raised_by m e)
raised_is {ours} {clocks} {answer} m e row joined a b c d =
    let q : ours ≡ with_row_at m m.origin.0 (join_entries m.members (row_of m.rows m.origin.0) e.version.entries) = rw (c, b, a) refl in
    subst (λ (x : MatrixClock). BecomesWith ours clocks answer (set_row_incremental x e.origin.0 (record { members = m.members; origin = e.origin; row = e.version }))) q d

-- the matrix and the columns where the matrix takes the event
abbrev pub matrix_done : State → Event → MatrixClock
matrix_done st e =
    with_row_at (with_row_at st.matrix (own st) (join_entries (members st) (own_row st) e.version.entries)) e.origin.0
    (join_entries (members st) (row_of st.matrix.rows e.origin.0) e.version.entries)

abbrev pub columns_done : State → Event → Columns
columns_done st e = record { raised = raised_of (members st) (row_of st.matrix.rows e.origin.0) e.version.entries }

-- the matrix of a well-formed state takes a waiting event
raised-done : {st : State} {e : Event} → WellFormed st → Waits st e → raised_by st.matrix e ≡ Ok (matrix_done st e, columns_done st e)
raised-done {st} {e} w p =
    let n = members_range w in
    let same :
    get_or (set st.matrix.rows (own st) (record { entries = join_entries (members st) (own_row st) e.version.entries })) e.origin.0 zero_row ≡
    get_or st.matrix.rows e.origin.0 zero_row =
    get_or-set_other st.matrix.rows (own st) e.origin.0 (record { entries = join_entries (members st) (own_row st) e.version.entries }) zero_row p.other in
    let row = ap (λ (r : Row). r.entries) same in
    rw (
      done_fits (members st) (members st) (own st) e.origin.0 (record { two = n.0; few = n.1; like = refl; place = w.ours; another = p.good.member }),
      done_fits (members st) (members st) e.origin.0 e.origin.0 (record { two = n.0; few = n.1; like = refl; place = p.good.member; another = p.good.member }),
      row,
    )
    refl

-- ---- the step at a position

-- it waits, where there is one
at-waits : {t : Tcsb} {list p q : List ℕ} {i : ℕ} → Good t list p q → i < length (events p t.inbox.order) → Waits (view t list p q) (waiting_at p t i)
at-waits {t} {list} {p} {q} {i} g lt = g.well.waits (waiting_at p t i) (in_at (events p t.inbox.order) i no_event lt)

-- a position behind the last slot
pub delivers_none : {p : List ℕ} {t : Tcsb} {i : ℕ} → 256 ≤ i → DeliversAt p t i t (Ok None)
delivers_none {p} {t} {i} h = record {
  answers = λ list q g lt. absurd (omega (arith, inbox-count g, count-events p t.inbox.order));
  leaves = λ list q g lt. absurd (omega (arith, inbox-count g, count-events p t.inbox.order));
  sound = λ list q g. g.sound;
  kept = λ k _. refl;
}

-- the state after a delivery, from what the matrix and the inbox became
left_is : (st : State) (i : ℕ) (e : Event) (clocks : MatrixClock) (columns : Columns) (l : List Event)
    → clocks ≡ matrix_done st e → columns ≡ columns_done st e → l ≡ del_at i st.inbox
    → ◌≡◌ {A = State}
    (record { names = st.names; matrix = clocks; frontier = st.frontier; raised = columns; known = st.known; inbox = l; outbox = st.outbox })
    (delivered st i e)
unfolding delivered
left_is st i e clocks columns l a b d = rw (a, b, d) refl

-- the replica after a delivery
abbrev pub after_delivery : Tcsb → MatrixClock → Columns → Store → Tcsb
after_delivery t clocks columns inbox = record {
  names = t.names;
  matrix = clocks;
  frontier = t.frontier;
  raised = columns;
  known = t.known;
  inbox = inbox;
  outbox = t.outbox;
}

module _ (p : List ℕ) (t : Tcsb) {i : ℕ} {e : Event} (is : e ≡ event_at p (get_or t.inbox.order.at i 0)) where
  waits_is : i < length (events p t.inbox.order) → waiting_at p t i ≡ e
  waits_is lt = events-at p t.inbox.order i no_event lt ∙ sym is

  raised_waits : {list q : List ℕ} → Good t list p q → i < length (events p t.inbox.order)
      → raised_by t.matrix e ≡ Ok (matrix_done (view t list p q) e, columns_done (view t list p q) e)
  raised_waits {list} {q} g lt = raised-done g.well (subst (Waits (view t list p q)) (waits_is lt) (at-waits g lt))

  module _ {ours clocks : MatrixClock} {answer : Result Columns Refusal} (b : BecomesWith ours clocks answer (raised_by t.matrix e)) where
    -- the matrix refused
    pub delivers_refused : {why : Refusal} → answer ≡ Err why → DeliversAt p t i t (Err why)
    delivers_refused {why} o = record {
      answers = λ list q g lt. absurd (no_refusal g lt);
      leaves = λ list q g lt. absurd (no_refusal g lt);
      sound = λ list q g. g.sound;
      kept = λ k _. refl;
    }
      where
        no_refusal : {list q : List ℕ} → Good t list p q → i < length (events p t.inbox.order) → ⊥
        no_refusal g lt = let f = sym o ∙ b.answers ∙ ap beside (raised_waits g lt) in cc

    pub delivers_done : {columns : Columns} {left : Store} {done : Bool} → answer ≡ Ok columns → Removed t.inbox left i done
        → DeliversAt p t i (after_delivery t clocks columns left) (Ok (Some e))
    delivers_done {columns} {left} o rem = record {
      answers = λ list q g lt. ap (λ (x : Event). Ok (Some x)) (sym (waits_is lt));
      leaves = λ list q g lt.
          left_is (view t list p q) i e clocks columns (events p left.order) (b.leaves ∙ ap (left_with ours) (raised_waits g lt)) (columns_are g lt)
          (rem.list 64 p g.sound.stores.inbox)
          ∙ ap (delivered (view t list p q) i) (sym (waits_is lt));
      sound = λ list q g. record { stores = record { inbox = rem.good 64 p g.sound.stores.inbox; outbox = g.sound.stores.outbox }; inside = g.sound.inside };
      kept = λ k f. cc;
    }
      where
        columns_are : {list q : List ℕ} → Good t list p q → i < length (events p t.inbox.order) → columns ≡ columns_done (view t list p q) e
        columns_are g lt = let f = sym o ∙ b.answers ∙ ap beside (raised_waits g lt) in cc

-- ---- calls that pick an event

-- none is picked
pub does_none : {list p q : List ℕ} {t : Tcsb} (picks : State → Pick) → 1728 ≤ length p → (Good t list p q → picks (view t list p q) ≡ none)
    → Does list p p q q (leb 1728 (length p)) t t (Ok None) (λ st. done (picked_of (picks st)) (after_pick st (picks st)))
does_none {list} {p} {q} {t} picks long h = record {
  answers = λ g. rw (h g) refl;
  leaves = λ g. rw (h g) refl;
  good = λ g. g;
  kept = λ k _. (refl, (refl, refl));
  short = λ s. absurd (let c = le-leb 1728 (length p) long in cc);
}

-- the one at a position is picked
pub does_picked : {list p q : List ℕ} {t t' : Tcsb} {i : ℕ} {answer : Result (Option Event) Refusal} (picks : State → Pick) → 1728 ≤ length p
    → DeliversAt p t i t' answer → ((st : State) → WellFormed st → WellFormed (after_pick st (picks st)))
    → (Good t list p q → (picks (view t list p q) ≡ at_place i (waiting_at p t i)) × (i < length (events p t.inbox.order)))
    → Does list p p q q (leb 1728 (length p)) t t' answer (λ st. done (picked_of (picks st)) (after_pick st (picks st)))
does_picked {list} {p} {q} {t} {t'} {i} picks long d well h = record {
  answers = λ g. rw (h g).0 (d.answers list q g (h g).1);
  leaves = leaves;
  good = λ g. good-after (d.sound list q g) (leaves g) (well (view t list p q) g.well);
  kept = λ k e. (d.kept k e, (refl, refl));
  short = λ s. absurd (let c = le-leb 1728 (length p) long in cc);
}
  where
    leaves : Good t list p q → view t' list p q ≡ after_pick (view t list p q) (picks (view t list p q))
    leaves g = rw (h g).0 (d.leaves list q g (h g).1)

-- ---- next

-- what the walk along the inbox says of a good replica
pub walked : {list p q : List ℕ} {t : Tcsb} {row : Row} {x : Option ℕ} → FirstReady p t.inbox.order row t.matrix.members x
    → row.entries ≡ row_of t.matrix.rows t.matrix.origin.0 → Good t list p q → x ≡ pick_place (next_of (view t list p q))
walked {list} {p} {q} {t} f e g = f.first (view t list p q) (members_range g.well).1 (omega (arith, inbox-count g)) refl (sym e)

module _ {p : List ℕ} {t : Tcsb} {row : Row} {x : Option ℕ} (mine : row.entries ≡ row_of t.matrix.rows t.matrix.origin.0)
    (finds : FirstReady p t.inbox.order row t.matrix.members x) where
  -- no event is ready
  pub next_none : 1728 ≤ length p → x ≡ None → (list q : List ℕ) → Does list p p q q (leb 1728 (length p)) t t (Ok None) next_call
  next_none long n list q = does_none next_of long (λ g. pick_none (next_of (view t list p q)) (sym n ∙ walked finds mine g))

  -- the first that is ready stands at a position
  pub next_pick : {list q : List ℕ} {i : ℕ} → x ≡ Some i → Good t list p q
      → (next_of (view t list p q) ≡ at_place i (waiting_at p t i)) × (i < length (events p t.inbox.order))
  next_pick {list} {q} {i} n g =
      pick_at (view t list p q) (events p t.inbox.order) i (next_of (view t list p q)) (sym n ∙ walked finds mine g)
      (first_answer (view t list p q) 0 (events p t.inbox.order))

  pub next_at : {t' : Tcsb} {i : ℕ} {answer : Result (Option Event) Refusal} → 1728 ≤ length p → x ≡ Some i → DeliversAt p t i t' answer
      → (list q : List ℕ) → Does list p p q q (leb 1728 (length p)) t t' answer next_call
  next_at long n d list q = does_picked next_of long d next_well (next_pick n)

-- ---- a named delivery

module _ (o n : ℕ) {p : List ℕ} {t : Tcsb} {i : ℕ} {x : Result ℕ ℕ} (long : 1728 ≤ length p) (finds : x ≡ find_from o n 0 (events p t.inbox.order)) where
  -- no event has the id
  pub deliver_gap : x ≡ Err i → (list q : List ℕ) → Does list p p q q (leb 1728 (length p)) t t (Ok None) (λ st. deliver_call st o n)
  deliver_gap e list q =
      does_none (λ st. deliver_of st o n) long
      (λ g. named_none (view t list p q) o n 0 (events p t.inbox.order) (find_gap o n i (events p t.inbox.order) g.well.inbox_sorted (sym finds ∙ e)))

  -- a position behind the last slot
  pub deliver_far : x ≡ Ok i → 256 ≤ i → (list q : List ℕ) → Does list p p q q (leb 1728 (length p)) t t (Ok None) (λ st. deliver_call st o n)
  deliver_far e h list q =
      does_none (λ st. deliver_of st o n) long
      (λ g. absurd (omega (arith, inbox-count g, count-events p t.inbox.order, (find_at o n i (events p t.inbox.order) (sym finds ∙ e)).0)))

  module _ {e : Event} {row : Row} {b : Bool} (at : x ≡ Ok i) (is : e ≡ event_at p (get_or t.inbox.order.at i 0)) (mine : row.entries ≡ row_of t.matrix.rows t.matrix.origin.0)
      (tests : t.matrix.members ≤ 16 → b ≡ ready_by t.matrix.members row.entries e) where
    -- what is picked, by the test
    named_pick : {list q : List ℕ} → Good t list p q → deliver_of (view t list p q) o n ≡ cond b (at_place i (waiting_at p t i)) none
    unfolding is_ready
    named_pick {list} {q} g =
        let f = find_at o n i (events p t.inbox.order) (sym finds ∙ at) in
        let v : waiting_at p t i ≡ e = events-at p t.inbox.order i no_event f.0 ∙ sym is in
        let a : ready_by t.matrix.members (row_of t.matrix.rows t.matrix.origin.0) (waiting_at p t i) ≡ b =
        ap (λ (y : Event). ready_by t.matrix.members (row_of t.matrix.rows t.matrix.origin.0) y) v
        ∙ (ap (λ (l : List ℕ). ready_by t.matrix.members l e) (sym mine) ∙ sym (tests (members_range g.well).1)) in
        let z : 0 + i ≡ i = omega arith in
        named_at (view t list p q) o n 0 i (events p t.inbox.order) no_event g.well.inbox_sorted f.0 (f.1 no_event) ∙ rw (a, z) refl

    pub deliver_waits : b ≡ false → (list q : List ℕ) → Does list p p q q (leb 1728 (length p)) t t (Ok None) (λ st. deliver_call st o n)
    deliver_waits c list q = does_none (λ st. deliver_of st o n) long (λ g. rw c at (named_pick g))

    pub deliver_at : {t' : Tcsb} {answer : Result (Option Event) Refusal} → b ≡ true → DeliversAt p t i t' answer
        → (list q : List ℕ) → Does list p p q q (leb 1728 (length p)) t t' answer (λ st. deliver_call st o n)
    deliver_at c d list q =
        does_picked (λ st. deliver_of st o n) long d (λ st w. deliver_well st o n w) (λ g. (rw c at (named_pick g), (find_at o n i (events p t.inbox.order) (sym finds ∙ at)).0))
