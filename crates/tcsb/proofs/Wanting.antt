-- Which events a requester wants: exceptions as ids, and the slots of the events that are left. Assumes nothing.
use mathlib.Core.Path.{◌≡◌, refl, sym, ap, ◌∙◌}
use mathlib.Core.Bool.{Bool, true, false, ◌&&◌, ◌||◌}
use mathlib.Core.List.{List, [], ◌∷◌, ◌++◌, map, map-append, append_assoc, append-nil}
use Prim.Native.Nat.{ℕ, suc, ◌+◌, ◌-◌, ◌≤◌, ◌<◌}
use native.Mathlib.Omega.{arith}
use native.Mathlib.Numerals.{add-one}
use lib.ListN.{length, get_or, take, length-set, length-take}
use lib.Seq.{take-suc, take-suc-set}
use lib.Dec.{eqb}
use Rattle.refusal.specs.declared.Refusal.{Refusal}
use Rattle.clock.specs.Version.{no_id}
use Rattle.clock.specs.declared.id.EventId.{EventId}
use Rattle.lists.specs.Lists.{any}
use Rattle.lists.proofs.Laws.{length-tab}
use Rattle.telegram.specs.Fields.{after, many}
use Rattle.telegram.specs.declared.since.Exception.{Exception}
use Rattle.store.specs.declared.event.Event.{Event}
use Rattle.store.specs.declared.order.Slots.{Slots}
use Rattle.store.specs.Words.{event_at}
use Rattle.store.specs.Orders.{events, keep, meant, no_slots, pushed}
use Rattle.tcsb.specs.Internalizer.{our_place}
use Rattle.tcsb.specs.Replica.{is_excepted, is_wanted}
use Rattle.tcsb.specs.Survey.{has_id, with_id, no_ids}
use Rattle.tcsb.specs.Writing.{wanted_by}
use Rattle.tcsb.specs.declared.internalizer.Translation.{Translation}
use Rattle.tcsb.specs.declared.batch.Ids.{Ids}
use Rattle.store.proofs.Pruning.{keep_append}
use Rattle.tcsb.proofs.Inserting.{keep_yes, keep-no}
use Rattle.tcsb.proofs.Surveying.{with_id_lem}
use Rattle.std.specs.Prelude.{Ok, Err}
use Rattle.leb128.specs.Leb128.{Read, got}
use Rattle.leb128.proofs.Gots.{got_value}

-- ---- ids

-- an exception behind the others
excepted_more : (row : Translation) (l : List Exception) (x : Exception) (e : Event)
    → is_excepted row (l ++ (x ∷ [])) e ≡ (is_excepted row l e || (eqb (our_place row x.place.0) e.origin.0 && eqb x.number e.number))
unfolding is_excepted
excepted_more row [] x e = or_false (eqb (our_place row x.place.0) e.origin.0 && eqb x.number e.number)
  where
    or_false : (t : Bool) → (t || false) ≡ t
    or_false true = refl
    or_false false = refl
excepted_more row (y ∷ l) x e =
    ap (λ (t : Bool). (eqb (our_place row y.place.0) e.origin.0 && eqb y.number e.number) || t) (excepted_more row l x e)
    ∙ or_assoc (eqb (our_place row y.place.0) e.origin.0 && eqb y.number e.number) (is_excepted row l e) (eqb (our_place row x.place.0) e.origin.0 && eqb x.number e.number)
  where
    or_assoc : (a b c : Bool) → (a || (b || c)) ≡ ((a || b) || c)
    or_assoc true b c = refl
    or_assoc false b c = refl

-- what a reading got, put behind what was read before
abbrev behind : List Exception → Read (List Exception) → Read (List Exception)
behind r g = after g (λ l next. got (r ++ l) next)

-- the first i exceptions, of n, are kept as ids
pub record Excepting (row : Translation) (f : ℕ → Read Exception) (n at : ℕ) (ids : Ids) (i next : ℕ) : Type 0 where
  pub read : List Exception
  pub counts : ids.count ≡ i
  pub few : n ≤ 64
  pub within : i ≤ n
  pub places : length ids.at ≡ 256
  pub has : (e : Event) → has_id ids e.origin.0 e.number ≡ is_excepted row read e
  pub rest : many n f at ≡ behind read (many (n - i) f next)

module _ {row : Translation} {f : ℕ → Read Exception} {n at : ℕ} where
  pub except_none : n ≤ 64 → (ids : Ids) → ids ≡ no_ids → Excepting row f n at ids 0 at
  unfolding any is_excepted
  except_none h ids e = record {
    read = [];
    counts = ap (λ (i : Ids). i.count) e;
    few = h;
    within = omega arith;
    places = ap (λ (i : Ids). length i.at) e ∙ length-tab {A = EventId} 256 (λ k. no_id);
    has = λ x. rw e refl;
    rest = let q : n - 0 ≡ n = omega arith in rw q (all (many n f at));
  }
    where
      all : (g : Read (List Exception)) → g ≡ behind [] g
      all (Ok g) = refl
      all (Err k) = refl

  pub except_more : {ids ids' : Ids} {i next place end : ℕ} {x : Exception} → Excepting row f n at ids i next → i < n → f next ≡ got x end
      → place ≡ our_place row x.place.0 → ids' ≡ with_id ids place x.number → Excepting row f n at ids' (i + 1) end
  unfolding many
  except_more {ids} {ids'} {i} {next} {place} {end} {x} M h told here e = record {
    read = M.read ++ (x ∷ []);
    counts = ap (λ (i : Ids). i.count) e ∙ ap (λ (k : ℕ). k + 1) M.counts;
    few = M.few;
    within = omega arith;
    places = ap (λ (i : Ids). length i.at) e ∙ (length-set ids.at ids.count (record { idx = record { 0 = place }; seq = x.number }) ∙ M.places);
    has = λ y.
        ap (λ (i : Ids). has_id i y.origin.0 y.number) e
        ∙ (with_id_lem ids place x.number y.origin.0 y.number (omega (arith, M.counts, M.few, M.places))
        ∙ (rw (M.has y, here) refl ∙ sym (excepted_more row M.read x y)));
    rest =
        let q : n - i ≡ suc (n - (i + 1)) = omega arith in
        M.rest ∙ (rw (q, told) refl ∙ all (many (n - (i + 1)) f end));
  }
    where
      all : (g : Read (List Exception)) → behind M.read (after g (λ l end. got (x ∷ l) end)) ≡ behind (M.read ++ (x ∷ [])) g
      all (Ok g) = ap (λ (l : List Exception). got l g.next) (sym (append_assoc M.read (x ∷ []) g.value))
      all (Err k) = refl

module _ {row : Translation} {n at : ℕ} {ids : Ids} {i next : ℕ} (f : ℕ → Read Exception) where
  pub excepts_bad : {k : Refusal} → Excepting row f n at ids i next → i < n → f next ≡ Err k
      → (xs : List Exception) (end : ℕ) → many n f at ≡ got xs end → (e : Event) → has_id ids e.origin.0 e.number ≡ is_excepted row xs e
  unfolding many
  excepts_bad {k} M h told xs end got-all e =
      let q : n - i ≡ suc (n - (i + 1)) = omega arith in
      let b : many n f at ≡ Err k = M.rest ∙ rw (q, told) refl in
      let z : ◌≡◌ {A = ℕ} 0 1 = cc in
      absurd (omega arith)

  pub excepts_all : Excepting row f n at ids i next → n ≤ i → (xs : List Exception) (end : ℕ) → many n f at ≡ got xs end → (e : Event)
      → has_id ids e.origin.0 e.number ≡ is_excepted row xs e
  unfolding many
  excepts_all M h xs end got-all e =
      let q : n - i ≡ 0 = omega arith in
      let b : many n f at ≡ got (M.read ++ []) next = M.rest ∙ rw q refl in
      let same : M.read ≡ xs = sym (append-nil M.read) ∙ got_value (sym b ∙ got-all) in
      rw (← same) (M.has e)

-- ---- the slots of the events that pass a test

-- tests that agree
pub keep_same : {A : Type 0} (t u : A → Bool) (l : List A) → ((x : A) → t x ≡ u x) → keep t l ≡ keep u l
unfolding keep
keep_same t u [] h = refl
keep_same t u (x ∷ l) h = rw (h x, keep_same t u l h) refl

pub events-pushed : (p : List ℕ) (s : Slots) (x : ℕ) → s.count < length s.at → events p (pushed s x) ≡ events p s ++ (event_at p x ∷ [])
events-pushed p s x h = rw (add-one, take-suc-set s.at s.count x h) (map-append (event_at p) (take s.count s.at) (x ∷ []))

-- the first slots with one more
one_more_lem : (t : Event → Bool) (p items : List ℕ) (i : ℕ) → i < length items
    → keep t (map (event_at p) (take (i + 1) items)) ≡ keep t (map (event_at p) (take i items)) ++ keep t (event_at p (get_or items i 0) ∷ [])
one_more_lem t p items i lt =
    rw (add-one, take-suc items i 0 lt, map-append (event_at p) (take i items) (get_or items i 0 ∷ []))
    (keep_append t (map (event_at p) (take i items)) (event_at p (get_or items i 0) ∷ []))

-- the events of the first i slots that pass a test, where a fact holds
pub record Wanting (F : Type 0) (t : Event → Bool) (p items : List ℕ) (slots : Slots) (i : ℕ) : Type 0 where
  pub few : slots.count ≤ i
  pub long : length slots.at ≡ 256
  pub so_far : F → events p slots ≡ keep t (map (event_at p) (take i items))

module _ {F : Type 0} {t : Event → Bool} {p items : List ℕ} where
  pub want_none : (slots : Slots) → slots ≡ no_slots → Wanting F t p items slots 0
  unfolding keep
  want_none slots e = record {
    few = let z = ap (λ (s : Slots). s.count) e in omega arith;
    long = ap (λ (s : Slots). length s.at) e ∙ length-tab {A = ℕ} 256 (λ k. 0);
    so_far = λ h. rw e refl;
  }

  pub want_more : {slots r : Slots} {i : ℕ} → Wanting F t p items slots i → length items ≤ 256 → i < length items
      → (slots.count < 256 → r ≡ pushed slots (get_or items i 0)) → (F → t (event_at p (get_or items i 0)) ≡ true) → Wanting F t p items r (i + 1)
  want_more {slots} {r} {i} M room lt push passes =
      let x : ℕ = get_or items i 0 in
      let e : r ≡ pushed slots x = push (omega (arith, M.few)) in
      record {
        few = let z = ap (λ (s : Slots). s.count) e in omega (arith, M.few);
        long = ap (λ (s : Slots). length s.at) e ∙ (length-set slots.at slots.count x ∙ M.long);
        so_far = λ h.
            let before : List Event = keep t (map (event_at p) (take i items)) in
            let a : events p (pushed slots x) ≡ events p slots ++ (event_at p x ∷ []) = events-pushed p slots x (omega (arith, M.few, M.long)) in
            let b : events p slots ++ (event_at p x ∷ []) ≡ before ++ keep t (event_at p x ∷ []) = rw (M.so_far h, keep_yes t (event_at p x) (passes h)) refl in
            ap (events p) e ∙ (a ∙ (b ∙ sym (one_more_lem t p items i lt)));
      }

  pub want_not : {slots : Slots} {i : ℕ} → Wanting F t p items slots i → i < length items → (F → t (event_at p (get_or items i 0)) ≡ false) → Wanting F t p items slots (i + 1)
  want_not {slots} {i} M lt fails = record {
    few = omega (arith, M.few);
    long = M.long;
    so_far = λ h.
        let before : List Event = keep t (map (event_at p) (take i items)) in
        let b : before ++ [] ≡ before ++ keep t (event_at p (get_or items i 0) ∷ []) = rw (keep-no t (event_at p (get_or items i 0)) (fails h)) refl in
        M.so_far h ∙ (sym (append-nil before) ∙ (b ∙ sym (one_more_lem t p items i lt)));
  }

-- no more slots are meant than there are places
pub meant_few : (order : Slots) {items : List ℕ} → length order.at ≡ 256 → items ≡ meant order → length items ≤ 256
meant_few order long same = omega (arith, ap length same, length-take order.count order.at, long)

-- ---- the test

-- what an answer says of an event that was loaded
pub test_told : (t : Event → Bool) {r b : Bool} {e x : Event} → e ≡ x → r ≡ t e → r ≡ b → t x ≡ b
test_told t loaded told said = rw (← loaded) (sym told ∙ said)

-- ids that have what is excepted
pub wants-same : (row : Translation) (xs : List Exception) (ids : Ids) {a b : ℕ} {v u : List ℕ} → a ≡ b → v ≡ u
    → ((e : Event) → has_id ids e.origin.0 e.number ≡ is_excepted row xs e) → (e : Event) → wanted_by a v ids e ≡ is_wanted row b u xs e
unfolding is_wanted
wants-same row xs ids p q h e = rw (p, q, h e) refl
