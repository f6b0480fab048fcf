-- A flush as the code makes it: the deliveries turn by turn, and the batch that is written of them. Assumes nothing.
use mathlib.Core.Path.{◌≡◌, refl, sym, ap, ◌∙◌, subst}
use mathlib.Core.Bool.{Bool, true}
use mathlib.Core.Logic.{◌⊎◌, inl, inr, ⊎_elim}
use mathlib.Core.List.Memᴰ
use mathlib.Core.List.{List, [], ◌∷◌, ◌++◌, append_assoc, append-nil}
use Prim.Native.Nat.{ℕ, zero, suc, ◌+◌, ◌≤◌, ◌<◌}
use native.Mathlib.Nat.{not-suc-le-zero, le_of_suc-le-suc}
use native.Mathlib.Omega.{arith}
use lib.ListN.{length, get_or, length-set}
use Rattle.refusal.specs.declared.Refusal.{Refusal}
use Rattle.clock.specs.declared.version_vector.Row.{Row}
use Rattle.clock.specs.declared.causal_frontier.CausalFrontier.{CausalFrontier}
use Rattle.clock.specs.Matrix.{row_of}
use Rattle.telegram.specs.Writing.{Wrote}
use Rattle.store.specs.declared.event.Event.{Event}
use Rattle.store.specs.declared.order.Slots.{Slots}
use Rattle.store.specs.Words.{event_at}
use Rattle.store.specs.Orders.{In, pushed, events, del_at}
use Rattle.store.proofs.Sorting.{delete_in}
use Rattle.tcsb.specs.Replica.{State, Pick, none, at_place, done, answer_of, members, batch_written, is_settled, frontier_call, stable_call, after_pick, delivered, next_of, Flushed, flush_more, flushed, flush_of}
use Rattle.tcsb.specs.WellFormed.{WellFormed}
use Rattle.tcsb.specs.Tcsb.{view, Good, Does, Writes}
use Rattle.tcsb.specs.Delivery.{no_event, waiting_at, FirstReady, DeliversAt}
use Rattle.tcsb.specs.Writing.{AllWritable, WritesBatch, DeliversAll}
use Rattle.tcsb.specs.declared.tcsb.Tcsb.{Tcsb}
use Rattle.tcsb.proofs.Places.{in_at, cond_ind}
use Rattle.tcsb.proofs.Valid.{members_range}
use Rattle.tcsb.proofs.Delivering.{next_well}
use Rattle.tcsb.proofs.Ready.{count-events, events-at, pick_none}
use Rattle.tcsb.proofs.Delivers.{walked, next_pick}
use Rattle.tcsb.proofs.Calls.{good-after, inbox-count, room-none, room-some}
use Rattle.tcsb.proofs.Wanting.{events-pushed}
use Rattle.std.specs.Prelude.{Option, Result, Ok, Err, Some, None}

-- ---- lists

delete_length : {A : Type 0} (i : ℕ) (l : List A) → i < length l → length l ≡ suc (length (del_at i l))
unfolding del_at
delete_length i [] h = absurd (not-suc-le-zero h)
delete_length zero (x ∷ l) h = refl
delete_length (suc i) (x ∷ l) h = ap suc (delete_length i l (le_of_suc-le-suc h))

-- an element of a list with one more at its end
in_last : {A : Type 0} (l : List A) (x : A) {y : A} → In y (l ++ (x ∷ [])) → In y l ⊎ (y ≡ x)
in_last l x m =
    ⊎_elim inl (λ c. inr (⊎_elim (λ e. e) (λ d. absurd (Memᴰ.not-nil d)) (Memᴰ.cases_cons c))) (Memᴰ.append_cases l m)

-- a list, and one more that is taken from the front of another
shifted : {A : Type 0} {w x : A} (a b c r : List A) → b ≡ w ∷ r → w ≡ x → c ≡ a ++ (x ∷ []) → a ++ b ≡ c ++ r
shifted {x = x} a b c r e f g = rw (e, f, g) (sym (append_assoc a (x ∷ []) r))

-- ---- what is left to deliver

flushed-none : (m : ℕ) (st : State) → next_of st ≡ none → flushed m st ≡ record { events = []; state = frontier_call st }
unfolding flushed
flushed-none zero st e = refl
flushed-none (suc m) st e = rw e refl

flushed-more : (m : ℕ) (st : State) (i : ℕ) (e : Event) → next_of st ≡ at_place i e
    → flushed (suc m) st ≡ record { events = e ∷ (flushed m (delivered st i e)).events; state = (flushed m (delivered st i e)).state }
unfolding flushed
flushed-more m st i e h = rw h refl

-- a flush keeps the member count
frontier-members : (st : State) → members (frontier_call st) ≡ members st
unfolding frontier_call
frontier-members st = cond_ind (λ (s : State). members s ≡ members st) (is_settled st) (λ _. refl) (λ _. refl)

more-members : (rest : State → Flushed) → ((st : State) → members (rest st).state ≡ members st) → (st : State) (w : Pick)
    → members (flush_more rest st w).state ≡ members st
unfolding delivered
more-members rest h st none = frontier-members st
more-members rest h st (at_place i e) = h (delivered st i e)

flushed-members : (m : ℕ) (st : State) → members (flushed m st).state ≡ members st
unfolding flushed
flushed-members zero st = frontier-members st
flushed-members (suc m) st = more-members (flushed m) (flushed-members m) st (next_of st)

abbrev rest : List ℕ → Tcsb → List ℕ → List ℕ → Flushed
rest p t list q = flushed (length (events p t.inbox.order)) (view t list p q)

-- ---- the turns

-- from a good replica: what was delivered and what is left are the whole flush
pub record Flow (list p q : List ℕ) (start t : Tcsb) (slots : Slots) (k : ℕ) : Type 0 where
  pub good : Good t list p q
  pub all : rest p start list q ≡ record { events = events p slots ++ (rest p t list q).events; state = (rest p t list q).state }
  pub left : length (events p t.inbox.order) + k ≤ 64
  pub within : (e : Event) → In e (events p t.inbox.order) → In e (events p start.inbox.order)
  pub from : (e : Event) → In e (events p slots) → In e (events p start.inbox.order)

-- after k turns, of 64
pub record Flushing (p : List ℕ) (start t : Tcsb) (slots : Slots) (k : ℕ) : Type 0 where
  pub few : slots.count ≤ k
  pub most : k ≤ 64
  pub long : length slots.at ≡ 256
  pub flow : (list q : List ℕ) → Good start list p q → Flow list p q start t slots k

module _ {p : List ℕ} {start t : Tcsb} {slots : Slots} {k i : ℕ} {row : Row} {x : Option ℕ} (M : Flushing p start t slots k) (more : k < 64)
    (mine : row.entries ≡ row_of t.matrix.rows t.matrix.origin.0) (f : FirstReady p t.inbox.order row t.matrix.members x) (n : x ≡ Some i) where
  -- a position behind the last slot
  pub flush_skip : 256 ≤ i → Flushing p start t slots (k + 1)
  flush_skip h = record {
    few = omega (arith, M.few);
    most = omega arith;
    long = M.long;
    flow = λ list q g.
        let F = M.flow list q g in
        absurd (omega (arith, inbox-count F.good, count-events p t.inbox.order, (next_pick mine f n F.good).1));
  }

  module _ {d : Tcsb} {answer : Result (Option Event) Refusal} {slots' : Slots} (push : slots.count < 256 → slots' ≡ pushed slots (get_or t.inbox.order.at i 0))
      (at : DeliversAt p t i d answer) where
    is-pushed : slots' ≡ pushed slots (get_or t.inbox.order.at i 0)
    is-pushed = push (omega (arith, M.few))

    grown : events p slots' ≡ events p slots ++ (event_at p (get_or t.inbox.order.at i 0) ∷ [])
    grown = rw is-pushed (events-pushed p slots (get_or t.inbox.order.at i 0) (omega (arith, M.few, M.long)))

    flow_more : {list q : List ℕ} → Flow list p q start t slots k → Flow list p q start d slots' (k + 1)
    unfolding delivered
    flow_more {list} {q} F =
        let pk = next_pick mine f n F.good in
        let lt = pk.1 in
        let is : waiting_at p t i ≡ event_at p (get_or t.inbox.order.at i 0) = events-at p t.inbox.order i no_event lt in
        let v = at.leaves list q F.good lt in
        let inbox : events p d.inbox.order ≡ del_at i (events p t.inbox.order) = ap (λ (s : State). s.inbox) v in
        let len : length (events p t.inbox.order) ≡ suc (length (events p d.inbox.order)) =
        delete_length i (events p t.inbox.order) lt ∙ ap (λ (l : List Event). suc (length l)) (sym inbox) in
        let m = length (events p d.inbox.order) in
        let next : rest p t list q ≡ record { events = waiting_at p t i ∷ (rest p d list q).events; state = (rest p d list q).state } =
        ap (λ (l : ℕ). flushed l (view t list p q)) len
        ∙ (flushed-more m (view t list p q) i (waiting_at p t i) pk.0
        ∙ ap (λ (s : State). record { events = waiting_at p t i ∷ (flushed m s).events; state = (flushed m s).state }) (sym v)) in
        let joined : events p slots ++ (rest p t list q).events ≡ events p slots' ++ (rest p d list q).events =
        shifted (events p slots) (rest p t list q).events (events p slots') (rest p d list q).events (ap (λ (r : Flushed). r.events) next) is grown in
        record {
          good = good-after (at.sound list q F.good) v
              (subst (λ (w : Pick). WellFormed (after_pick (view t list p q) w)) pk.0 (next_well (view t list p q) F.good.well));
          all = F.all ∙ (λ j. record { events = joined j; state = (next j).state });
          left = omega (arith, F.left, len);
          within = λ y w. F.within y (delete_in i (events p t.inbox.order) (subst (λ (l : List Event). In y l) inbox w));
          from = λ y w. ⊎_elim (λ c. F.from y c)
              (λ c. F.within y (subst (λ (z : Event). In z (events p t.inbox.order)) (is ∙ sym c) (in_at (events p t.inbox.order) i no_event lt)))
              (in_last (events p slots) (event_at p (get_or t.inbox.order.at i 0)) (subst (λ (l : List Event). In y l) grown w));
        }

    pub flush_more_lem : Flushing p start d slots' (k + 1)
    flush_more_lem = record {
      few = rw is-pushed (omega (arith, M.few));
      most = omega arith;
      long = rw is-pushed (length-set slots.at slots.count (get_or t.inbox.order.at i 0) ∙ M.long);
      flow = λ list q g. flow_more (M.flow list q g);
    }

-- ---- the end

module _ {p : List ℕ} {start t : Tcsb} {slots : Slots} {k : ℕ} (M : Flushing p start t slots k) where
  -- nothing is left
  flush_end : ((list q : List ℕ) → Good start list p q → rest p t list q ≡ record { events = []; state = frontier_call (view t list p q) })
      → DeliversAll p start t slots
  flush_end h = record {
    few = omega (arith, M.few, M.most);
    all = λ list q g. (M.flow list q g).all ∙ (λ j. record { events = ends list q g j; state = (h list q g j).state });
    good = λ list q g. (M.flow list q g).good;
    from = λ list q g. (M.flow list q g).from;
  }
    where
      ends : (list q : List ℕ) → Good start list p q → events p slots ++ (rest p t list q).events ≡ events p slots
      ends list q g = ap (λ (r : Flushed). events p slots ++ r.events) (h list q g) ∙ append-nil (events p slots)

  -- none is ready
  pub flush_ready : {row : Row} {x : Option ℕ} → row.entries ≡ row_of t.matrix.rows t.matrix.origin.0
      → FirstReady p t.inbox.order row t.matrix.members x → x ≡ None → DeliversAll p start t slots
  flush_ready e f n =
      flush_end (λ list q g. flushed-none (length (events p t.inbox.order)) (view t list p q)
      (pick_none (next_of (view t list p q)) (sym n ∙ walked f e (M.flow list q g).good)))

  -- after 64 turns none waits
  pub flush_all : 64 ≤ k → DeliversAll p start t slots
  unfolding flushed
  flush_all h =
      flush_end (λ list q g.
      let z : length (events p t.inbox.order) ≡ 0 = omega (arith, (M.flow list q g).left) in
      ap (λ (m : ℕ). flushed m (view t list p q)) z)

-- ---- the batch

-- the flush is what was delivered and the state that is left
flush_is : (st : State) (F : Flushed) → flushed (length st.inbox) st ≡ F → flush_of st ≡ done (batch_written F.state F.events) F.state
unfolding flush_of
flush_is st F e = rw e refl

module _ {list p q out out' : List ℕ} {t d s : Tcsb} {slots : Slots} {stable : Bool} {told : Result (Option CausalFrontier) Refusal} {answer : Result ℕ Refusal}
    (all : DeliversAll p t d slots) (settles : Does list p p q q stable d s told stable_call) (writes : WritesBatch list p slots out out' s answer) where
  whole_flush : Good t list p q → flushed (length (events p t.inbox.order)) (view t list p q) ≡ record { events = events p slots; state = view s list p q }
  whole_flush g =
      all.all list q g ∙ ap (λ (st : State). record { events = events p slots; state = st }) (sym (settles.leaves (all.good list q g)))

  flushed-is : Good t list p q → flush_of (view t list p q) ≡ done (batch_written (view s list p q) (events p slots)) (view s list p q)
  flushed-is g = flush_is (view t list p q) (record { events = events p slots; state = view s list p q }) (whole_flush g)

  -- what was delivered can be written
  writable : Good t list p q → AllWritable p slots s.matrix.members
  writable g =
      let n : s.matrix.members ≡ t.matrix.members =
      sym (ap (λ (f : Flushed). members f.state) (whole_flush g)) ∙ flushed-members (length (events p t.inbox.order)) (view t list p q) in
      record {
        few = omega (arith, (members_range g.well).1);
        room = omega (arith, all.few);
        each = λ e m.
            let w = g.well.waits e (all.from list q g e m) in
            record { listed = omega (arith, w.good.member); short = w.good.short };
      }

  wrote_flush : Good t list p q → Wrote out out' 0 0 (Ok (batch_written (view s list p q) (events p slots))) answer
  wrote_flush g = writes.wrote p q (settles.good (all.good list q g)) (writable g)

  wrote-is : Good t list p q → Wrote out out' 0 0 (answer_of (flush_of (view t list p q))) answer
  wrote-is g = rw (flushed-is g) (wrote_flush g)

  pub flush_refused : {words : Bool} {why : Refusal} → words ≡ true → answer ≡ Err why → Writes list p p q q out out' words t t (Err why) flush_of
  flush_refused w e = record {
    wrote = λ g. rw e at (wrote-is g);
    leaves = λ g. rw (flushed-is g, room-none (batch_written (view s list p q) (events p slots)) (wrote_flush g) e) refl;
    good = λ g. g;
    kept = λ k _. (refl, (refl, (refl, writes.kept _ e)));
    short = λ f. absurd (let z : ◌≡◌ {A = ℕ} 0 1 = cc in omega arith);
  }

  pub flush_written : {words : Bool} {next : ℕ} → words ≡ true → answer ≡ Ok next → Writes list p p q q out out' words t s (Ok next) flush_of
  flush_written w e = record {
    wrote = λ g. rw e at (wrote-is g);
    leaves = λ g. rw (flushed-is g, room-some (batch_written (view s list p q) (events p slots)) (wrote_flush g) e) refl;
    good = λ g. settles.good (all.good list q g);
    kept = λ k f. absurd (let z : ◌≡◌ {A = ℕ} 0 1 = cc in omega arith);
    short = λ f. absurd (let z : ◌≡◌ {A = ℕ} 0 1 = cc in omega arith);
  }
