-- One event received: the room that it takes, its two stores, and what becomes of it. Assumes nothing.
use mathlib.Core.Path.{◌≡◌, refl, sym, ap, ◌∙◌}
use mathlib.Core.Bool.{Bool, true, false, cond}
use mathlib.Core.List.{List, [], ◌∷◌}
use Prim.Native.Nat.{ℕ, suc, ◌+◌, ◌≤◌}
use native.Mathlib.Omega.{arith}
use lib.ListN.{length}
use lib.Dec.{leb}
use borrow.Author.Tests.{le-leb, leb-true}
use Rattle.refusal.specs.declared.Refusal.{Refusal}
use Rattle.refusal.specs.Refusal.{no}
use Rattle.store.specs.declared.event.Event.{Event}
use Rattle.store.specs.Orders.{choose, cmp_of, find_from, insert_sorted, keep, events, in_range, Put}
use Rattle.store.specs.Orders as orders
use Rattle.store.specs.declared.order.Store.{Store}
use Rattle.tcsb.specs.declared.tcsb.Tcsb.{Tcsb}
use Rattle.tcsb.specs.declared.receive.Verdict.{Verdict}
use Rattle.tcsb.specs.declared.receive.Verdict.TheVariants.{Taken, Duplicate, Stale}
use Rattle.tcsb.specs.Replica.{State, done, is_duplicate, is_stale, verdict_by, verdict_of, is_taken, insert_all, recorded}
use Rattle.tcsb.specs.Tcsb.{view, Stores}
use Rattle.tcsb.specs.Receive.{new_to, room_of, Stored, Recorded, take_of, Takes}
use Rattle.tcsb.proofs.Counting.{events-length}
use Rattle.std.specs.Prelude.{Result, Ok, Err}
use Rattle.std.specs.declared.cmp.Ordering.{Ordering}
use Rattle.std.specs.declared.cmp.Ordering.TheVariants.{Less, Equal, Greater}

-- ---- lengths

longer : (r : Ordering) (e x : Event) (l m : List Event) (i : ℕ) (f : Result ℕ ℕ) → length m ≡ length l + new_to f
    → length (choose r (x ∷ m) (e ∷ l) (e ∷ x ∷ l)) ≡ suc (length l) + new_to (choose r f (Ok i) (Err i))
longer Less e x l m i f h = omega (arith, h)
longer Equal e x l m i f h = omega arith
longer Greater e x l m i f h = omega arith

-- an event that is put in makes a list longer by one where its id is new
pub insert_length : (e : Event) (i : ℕ) (l : List Event) → length (insert_sorted e l) ≡ length l + new_to (find_from e.origin.0 e.number i l)
unfolding insert_sorted find_from
insert_length e i [] = omega arith
insert_length e i (x ∷ l) =
    longer (cmp_of x.origin.0 x.number e.origin.0 e.number) e x l (insert_sorted e l) i (find_from e.origin.0 e.number (i + 1) l)
    (insert_length e (i + 1) l)

-- how many a store has with an event
pub stored-length : {c : ℕ} (p : List ℕ) (store : Store) (e : Event) → orders.Good c p store.order store.free
    → length (insert_sorted e (events p store.order)) ≡ store.order.count + new_to (find_from e.origin.0 e.number 0 (events p store.order))
stored-length p store e g = omega (arith, insert_length e 0 (events p store.order), events-length p store.order store.free g)

-- ---- a store

pub put_stored : {p q : List ℕ} {store store' : Store} {e : Event} {done : Bool} → Put p q store store' e done → Stored p q store e store'
put_stored {p} {q} {store} {store'} {e} {done} h = record {
  long = h.long;
  list = λ c g i l. h.list c g (h.answers c g ∙ rw (i, le-leb (length (insert_sorted e (events p store.order))) c l) refl);
  good = h.good;
}

-- ---- what is recorded of one event

-- nothing, where it isn't taken
pub recorded-none : (st : State) (e : Event) → is_taken (verdict_of st e) ≡ false → length st.inbox ≤ 64 → length st.outbox ≤ 256 → recorded st (e ∷ []) ≡ Ok st
unfolding recorded insert_all keep
recorded-none st e v h g = rw (v, le-leb (length st.inbox) 64 h, le-leb (length st.outbox) 256 g) refl

abbrev pub with_one : State → Event → State
with_one st e = record {
  names = st.names;
  matrix = st.matrix;
  frontier = st.frontier;
  raised = st.raised;
  known = st.known;
  inbox = insert_sorted e st.inbox;
  outbox = insert_sorted e st.outbox;
}

-- a state where there is room for it
abbrev room_told : Result (Unit {0}) Refusal → State → Result State Refusal
room_told (Ok tt) st = Ok st
room_told (Err k) st = Err k

recorded_one : (st : State) (e : Event) → verdict_of st e ≡ Taken
    → recorded st (e ∷ [])
    ≡ cond (leb (length (insert_sorted e st.inbox)) 64) (cond (leb (length (insert_sorted e st.outbox)) 256) (Ok (with_one st e)) (Err (no 13))) (Err (no 12))
unfolding recorded insert_all keep
recorded_one st e v = rw v refl

told_cond : (a b : Bool) (st : State)
    → cond a (cond b (Ok st) (Err (no 13))) (Err (no 12)) ≡ room_told (cond a (cond b (Ok tt) (Err (no 13))) (Err (no 12))) st
told_cond true true st = refl
told_cond true false st = refl
told_cond false b st = refl

-- room for both is told by Done
room_told_lem : (a b : Bool) → ◌≡◌ {A = Result (Unit {0}) Refusal} (Ok tt) (cond a (cond b (Ok tt) (Err (no 13))) (Err (no 12))) → (a ≡ true) × (b ≡ true)
room_told_lem true true h = (refl, refl)
room_told_lem true false h = absurd (let z : ◌≡◌ {A = ℕ} 0 1 = cc in omega arith)
room_told_lem false b h = absurd (let z : ◌≡◌ {A = ℕ} 0 1 = cc in omega arith)

-- the replica's own test
pub verdict_view : (t : Tcsb) (list p q : List ℕ) (e : Event) → verdict_of (view t list p q) e ≡ verdict_by t.matrix t.frontier e
unfolding verdict_of is_duplicate is_stale
verdict_view t list p q e = refl

-- ---- what becomes of one event

module _ (t : Tcsb) (p q : List ℕ) (e : Event) where
  -- one that isn't taken leaves the state
  none_more : (list : List ℕ) → Stores t p q → is_taken (verdict_by t.matrix t.frontier e) ≡ false → recorded (view t list p q) (e ∷ []) ≡ Ok (view t list p q)
  none_more list S h =
      recorded-none (view t list p q) e (rw (verdict_view t list p q e) h)
      (omega (arith, events-length p t.inbox.order t.inbox.free S.inbox, S.inbox.counts))
      (omega (arith, events-length q t.outbox.order t.outbox.free S.outbox, S.outbox.counts))

  none-taken : (list : List ℕ) (v : Verdict) → Stores t p q → verdict_by t.matrix t.frontier e ≡ v → is_taken v ≡ false
      → take_of (view t list p q) e ≡ done v (view t list p q)
  none-taken list v S g h =
      rw (none_more list S (rw g h), verdict_view t list p q e, g) refl

  -- one that isn't taken changes nothing
  pub takes_none : {v : Verdict} → v ≡ verdict_by t.matrix t.frontier e → is_taken v ≡ false → Takes p p q q t e t (Ok v)
  takes_none {v} j h = record {
    answers = λ list S. rw (none-taken list v S (sym j) h) refl;
    leaves = λ list S i. rw (none-taken list v S (sym j) h) refl;
    stores = λ S. S;
    fixed = refl;
    kept = λ k z. absurd (let z : ◌≡◌ {A = ℕ} 0 1 = cc in omega arith);
  }

  -- so a duplicate
  pub takes_duplicate : {v : Verdict} → v ≡ verdict_by t.matrix t.frontier e → v ≡ Duplicate → Takes p p q q t e t (Ok v)
  takes_duplicate j h = takes_none j (rw h refl)

  -- and a stale one
  pub takes_stale : {v : Verdict} → v ≡ verdict_by t.matrix t.frontier e → v ≡ Stale → Takes p p q q t e t (Ok v)
  takes_stale j h = takes_none j (rw h refl)

  -- how many more the stores would have
  abbrev pub more_in : ℕ
  more_in = new_to (find_from e.origin.0 e.number 0 (events p t.inbox.order))

  abbrev pub more_out : ℕ
  more_out = new_to (find_from e.origin.0 e.number 0 (events q t.outbox.order))

  -- one that is to be taken, and its room
  pub record Roomed (v : Verdict) (o : Result (Unit {0}) Refusal) : Type 0 where
    pub verdict : v ≡ verdict_by t.matrix t.frontier e
    pub taken : v ≡ Taken
    pub room : o ≡ room_of t.inbox.order.count more_in t.outbox.order.count more_out

  pub roomed : {v : Verdict} {o : Result (Unit {0}) Refusal} {m x : ℕ} → v ≡ verdict_by t.matrix t.frontier e → v ≡ Taken → m ≡ more_in → x ≡ more_out
      → o ≡ room_of t.inbox.order.count m t.outbox.order.count x → Roomed v o
  roomed j g m x o = record { verdict = j; taken = g; room = rw (← m, ← x) o }

  one_taken : {v : Verdict} {o : Result (Unit {0}) Refusal} (list : List ℕ) → Stores t p q → Roomed v o
      → recorded (view t list p q) (e ∷ []) ≡ room_told o (with_one (view t list p q) e)
  one_taken {v} {o} list S R =
      recorded_one (view t list p q) e (verdict_view t list p q e ∙ (sym R.verdict ∙ R.taken))
      ∙ (told_cond (leb (length (insert_sorted e (events p t.inbox.order))) 64) (leb (length (insert_sorted e (events q t.outbox.order))) 256) (with_one (view t list p q) e)
      ∙ rw (
        R.room,
        stored-length p t.inbox e S.inbox,
        stored-length q t.outbox e S.outbox,
      ) refl)

  -- one that finds no room
  pub takes_not : {v : Verdict} {o : Result (Unit {0}) Refusal} {k : Refusal} → Roomed v o → o ≡ Err k → Takes p p q q t e t (Err k)
  takes_not {v} {o} {k} R h = record {
    answers = λ list S. rw (one_taken list S R, h) refl;
    leaves = λ list S i. rw (one_taken list S R, h) refl;
    stores = λ S. S;
    fixed = refl;
    kept = λ k z. (refl, (refl, refl));
  }

  -- one that is taken
  pub takes_one : {v : Verdict} {o : Result (Unit {0}) Refusal} {p' q' : List ℕ} {t' : Tcsb} → Roomed v o → o ≡ (Ok tt) → Recorded p p' q q' t e t'
      → Takes p p' q q' t e t' (Ok Taken)
  takes_one {v} {o} {p'} {q'} {t'} R h r = record {
    answers = λ list S. rw (one_taken list S R, h, verdict_view t list p q e, ← R.verdict, R.taken) refl;
    leaves = λ list S i. rw (one_taken list S R, h) (after list S i);
    stores = λ S. record { inbox = r.inbox.good 64 S.inbox; outbox = r.outbox.good 256 S.outbox };
    fixed = r.fixed;
    kept = λ k z. absurd (let z : ◌≡◌ {A = ℕ} 0 1 = cc in omega arith);
  }
    where
      after : (list : List ℕ) → Stores t p q → in_range e ≡ true → view t' list p' q' ≡ with_one (view t list p q) e
      after list S i =
          let b = room_told_lem (leb (t.inbox.order.count + more_in) 64) (leb (t.outbox.order.count + more_out) 256) (sym h ∙ R.room) in
          let m = stored-length p t.inbox e S.inbox in
          let n = stored-length q t.outbox e S.outbox in
          let x = r.inbox.list 64 S.inbox i (omega (arith, m, leb-true (t.inbox.order.count + more_in) 64 b.0)) in
          let y = r.outbox.list 256 S.outbox i (omega (arith, n, leb-true (t.outbox.order.count + more_out) 256 b.1)) in
          ap (λ (u : Tcsb). view u list p' q') r.fixed
          ∙ (λ j. record { names = (view t list p q).names; matrix = t.matrix; frontier = t.frontier; raised = t.raised; known = t.known; inbox = x j; outbox = y j })
