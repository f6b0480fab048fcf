-- What `insert` and `remove` ensure, from what the functions that they call do. Assumes nothing.
use Prim.Native.Nat.{ℕ, zero, suc, ◌+◌, ◌-◌, ◌*◌, ◌<◌, ◌≤◌, min, zero-le, suc-le-suc}
use native.Mathlib.Omega.{arith}
use native.Mathlib.Nat.{le_of_suc-le-suc, not-suc-le-zero}
use mathlib.Core.Path.{◌≡◌, refl, sym, ap, ◌∙◌}
use mathlib.Core.Bool.{true, false, ◌&&◌, and-false, true≢false}
use mathlib.Core.Logic.{⊎_elim}
use mathlib.Core.List.{List, [], ◌∷◌, map}
use lib.ListN.{length, get_or, set, take, length-map, length-take, length-set}
use lib.Seq.{get_or-take, take-suc}
use lib.Dec.{leb, eqb}
use borrow.Author.Tests.{eq-eqb, lt-ltb, le-ltb, le-leb, lt-leb}
use Rattle.std.specs.Prelude.{Result, Ok, Err}
use Rattle.std.specs.declared.cmp.Ordering.{Ordering}
use Rattle.std.specs.declared.cmp.Ordering.TheVariants.{Less, Equal, Greater}
use Rattle.lists.proofs.Cases.{split}
use Rattle.store.specs.declared.event.Event.{Event}
use Rattle.store.specs.declared.order.Slots.{Slots}
use Rattle.store.specs.declared.order.Store.{Store}
use Rattle.store.specs.Words.{event_at, Saved}
use Rattle.store.specs.Orders.{choose, cmp_of, find_from, insert_sorted, ins_at, del_at, hit, occ, meant}
use Rattle.store.specs.Orders.{moved_up, moved_down, events, but_last, pushed, Good, in_range, Put, Removed}
use Rattle.store.proofs.Moving.{length_ins, del_out, map_ins, map_del, occ_ins, occ_del, occ-append, occ-get_or, hit_self, length-meant, meant_up, meant_down, meant_push}

-- ---- a good store

module _ {c : ℕ} {p : List ℕ} {order free : Slots} (G : Good c p order free) where
  -- a slot that is used or free is used or free once, and the words hold it
  slot_once : (v : ℕ) → 1 ≤ occ v (meant order) + occ v (meant free) → (occ v (meant order) + occ v (meant free) ≡ 1) × (27 * v + 27 ≤ length p)
  slot_once v h = ⊎_elim (λ (a : v < c). (G.once v a, omega (arith, G.room))) (λ a. absurd (omega (arith, G.inside v a))) (split v c)

  -- other words of the same length
  good_words : (q : List ℕ) → length q ≡ length p → Good c q order free
  good_words q e = record { room = omega (arith, G.room); size = G.size; counts = G.counts; once = G.once; inside = G.inside }

  -- slots that change their places between the order and the free ones
  pub good-moved : (order' free' : Slots) → order'.count + free'.count ≡ order.count + free.count
      → ((v : ℕ) → occ v (meant order') + occ v (meant free') ≡ occ v (meant order) + occ v (meant free)) → Good c p order' free'
  good-moved order' free' n o = record {
    room = G.room;
    size = G.size;
    counts = n ∙ G.counts;
    once = λ v h. o v ∙ G.once v h;
    inside = λ v h. o v ∙ G.inside v h;
  }

-- ---- remove

module _ (s : Store) (i : ℕ) where
  pub not_removed : ((c : ℕ) (p : List ℕ) → Good c p s.order s.free → s.order.count ≤ i) → Removed s s i false
  not_removed h = record {
    list = λ c p G. sym (del_out i (events p s.order) (rw (length-map, length-take) (omega (arith, h c p G))));
    good = λ c p G. G;
    kept = λ _. refl;
    answers = λ c p G. sym (le-ltb i s.order.count (h c p G));
  }

  pub removed : length s.order.at ≡ 256 → length s.free.at ≡ 256 → s.order.count ≤ 256 → i < s.order.count → s.free.count < 256
      → Removed s (record { order = moved_down s.order i; free = pushed s.free (get_or s.order.at i 0) }) i true
  unfolding occ
  removed eo ef few h room = record {
    list = λ c p G. rw (meant_down s.order i eo h few, map_del (event_at p) i (meant s.order));
    good = λ c p G. good-moved G (moved_down s.order i) (pushed s.free v) (omega arith)
        (λ w. rw (meant_down s.order i eo h few, meant_push s.free v (omega arith), occ-append w (meant s.free) (v ∷ [])) (one w));
    kept = λ q. absurd (true≢false q);
    answers = λ c p G. sym (lt-ltb i s.order.count h);
  }
    where
      v : ℕ
      v = get_or s.order.at i 0

      took : (w : ℕ) → hit (eqb w v) + occ w (del_at i (meant s.order)) ≡ occ w (meant s.order)
      took w = rw (← get_or-take s.order.count s.order.at i 0 h) (occ_del w i (meant s.order) (omega (arith, length-meant s.order eo)))

      one : (w : ℕ) → occ w (del_at i (meant s.order)) + (occ w (meant s.free) + occ w (v ∷ [])) ≡ occ w (meant s.order) + occ w (meant s.free)
      one w = omega (arith, took w)

-- ---- what `find` answers says where `insert_sorted` puts an event; positions count from j

record GapAt (e : Event) (xs ys : List Event) (j i : ℕ) : Type 0 where
  pub k : ℕ
  pub at : i ≡ j + k
  pub fit : k ≤ length xs
  pub is : ys ≡ ins_at k e xs

record HitAt (e : Event) (xs ys : List Event) (j i : ℕ) : Type 0 where
  pub k : ℕ
  pub at : i ≡ j + k
  pub fit : k < length xs
  pub is : ys ≡ set xs k e

abbrev Puts : Event → List Event → List Event → ℕ → Result ℕ ℕ → Type 0
Puts e xs ys j (Err i) = GapAt e xs ys j i
Puts e xs ys j (Ok i) = HitAt e xs ys j i

puts_cons : (r : Ordering) (e x : Event) (xs ys : List Event) (j : ℕ) (f : Result ℕ ℕ) → Puts e xs ys (j + 1) f
    → Puts e (x ∷ xs) (choose r (x ∷ ys) (e ∷ xs) (e ∷ x ∷ xs)) j (choose r f (Ok j) (Err j))
unfolding ins_at
puts_cons Less e x xs ys j (Err i) h = record { k = suc h.k; at = omega (arith, h.at); fit = suc-le-suc h.fit; is = ap (λ (l : List Event). x ∷ l) h.is }
puts_cons Less e x xs ys j (Ok i) h = record { k = suc h.k; at = omega (arith, h.at); fit = suc-le-suc h.fit; is = ap (λ (l : List Event). x ∷ l) h.is }
puts_cons Equal e x xs ys j f h = record { k = 0; at = omega arith; fit = omega arith; is = refl }
puts_cons Greater e x xs ys j f h = record { k = 0; at = omega arith; fit = omega arith; is = refl }

puts : (e : Event) (xs : List Event) (j : ℕ) → Puts e xs (insert_sorted e xs) j (find_from e.origin.0 e.number j xs)
unfolding insert_sorted find_from ins_at
puts e [] j = record { k = 0; at = omega arith; fit = zero-le; is = refl }
puts e (x ∷ xs) j =
    puts_cons (cmp_of x.origin.0 x.number e.origin.0 e.number) e x xs (insert_sorted e xs) j (find_from e.origin.0 e.number (j + 1) xs) (puts e xs (j + 1))

-- ---- two functions that agree but at one slot

module _ (f g : ℕ → Event) (s : ℕ) (same : (t : ℕ) → (t ≡ s → ⊥) → g t ≡ f t) where
  map_off : (l : List ℕ) → occ s l ≡ 0 → map g l ≡ map f l
  unfolding occ
  map_off [] h = refl
  map_off (x ∷ xs) h = rw (same x (λ q. off q), map_off xs (omega arith))
    where
      off : x ≡ s → ⊥
      off q = let z = eq-eqb s x (sym q) in let w = rw z at h in omega (arith, w)

  map_one : (l : List ℕ) (i : ℕ) → i < length l → get_or l i 0 ≡ s → occ s l ≤ 1 → map g l ≡ set (map f l) i (g s)
  unfolding occ
  map_one [] i h q o = absurd (not-suc-le-zero h)
  map_one (x ∷ xs) zero h q o = rw (q, map_off xs off)
    where
      off : occ s xs ≡ 0
      off = let w = rw (eq-eqb s x (sym q)) at o in omega (arith, w)
  map_one (x ∷ xs) (suc i) h q o = rw (same x off, map_one xs i (le_of_suc-le-suc h) q (omega arith))
    where
      off : x ≡ s → ⊥
      off r = let w = rw (eq-eqb s x (sym r)) at o in let v = rw q at (occ-get_or i xs (le_of_suc-le-suc h)) in omega (arith, w, v)

-- ---- insert

-- the last free slot, beside those before it
last_free : (s : Slots) → length s.at ≡ 256 → 0 < s.count → s.count ≤ 256 → (v : ℕ) → occ v (meant s) ≡ occ v (meant (but_last s)) + hit (eqb v (get_or s.at (s.count - 1) 0))
unfolding occ
last_free s e some few v =
    let n : s.count ≡ suc (s.count - 1) = omega arith in
    ap (λ (k : ℕ). occ v (take k s.at)) n
    ∙ (ap (occ v) (take-suc s.at (s.count - 1) 0 (omega arith)) ∙ (occ-append v (meant (but_last s)) (get_or s.at (s.count - 1) 0 ∷ []) ∙ omega arith))

-- nothing changes
stays : (p : List ℕ) (s : Store) (e : Event)
    → ((c : ℕ) → Good c p s.order s.free → false ≡ (in_range e && leb (length (insert_sorted e (events p s.order))) c)) → Put p p s s e false
stays p s e h = record { long = refl; answers = h; list = λ c G d. absurd (true≢false (sym d)); good = λ c G. G; kept = λ _. (refl, refl) }

-- an event in range is put where no more than c are there with it
fits_in : (e : Event) (n c : ℕ) → (e.origin.0 < 16) × (e.len ≤ 32) → n ≤ c → true ≡ (in_range e && leb n c)
fits_in e n c r h = rw (lt-ltb e.origin.0 16 r.0, le-leb e.len 32 r.1, le-leb n c h) refl

-- what `find` answers, and what is known of it

module _ (p : List ℕ) (s : Store) (e : Event) (eo : length s.order.at ≡ 256) {found : Result ℕ ℕ} (f : found ≡ find_from e.origin.0 e.number 0 (events p s.order)) where
  long : length (events p s.order) ≡ min s.order.count 256
  long = length-map (meant s.order) (event_at p) ∙ length-meant s.order eo

  hit-at : {i : ℕ} → found ≡ Ok i → HitAt e (events p s.order) (insert_sorted e (events p s.order)) 0 i
  hit-at t = rw (← f, t) at (puts e (events p s.order) 0)

  gap_at : {i : ℕ} → found ≡ Err i → GapAt e (events p s.order) (insert_sorted e (events p s.order)) 0 i
  gap_at t = rw (← f, t) at (puts e (events p s.order) 0)

  pub hit-below : {i : ℕ} → found ≡ Ok i → (i < s.order.count) × (i < 256)
  hit-below t = omega (arith, (hit-at t).at, (hit-at t).fit, long)

  pub gap_within : {i : ℕ} → found ≡ Err i → i ≤ s.order.count
  gap_within t = omega (arith, (gap_at t).at, (gap_at t).fit, long)

  pub not_put : {i : ℕ} → found ≡ Err i → ((c : ℕ) → Good c p s.order s.free → s.order.count ≡ c) → Put p p s s e false
  not_put t h = stays p s e (λ c G.
      rw (lt-leb (length (insert_sorted e (events p s.order))) c
      (rw (gap_at t).is (omega (arith, length_ins (gap_at t).k e (events p s.order), long, h c G, G.size)))) (sym (and-false (in_range e))))

  pub replaced : (q : List ℕ) {i : ℕ} → (e.origin.0 < 16) × (e.len ≤ 32) → found ≡ Ok i → Saved p q (get_or s.order.at i 0) e
      → Put p q s s e true
  replaced q {i} r t S = record {
    long = S.long;
    answers = λ c G.
        fits_in e (length (insert_sorted e (events p s.order))) c r
        (rw ((hit-at t).is, length-set (events p s.order) (hit-at t).k e) (omega (arith, long, G.counts)));
    list = λ c G _.
        let h = hit-at t in
        let w = hit-below t in
        let k : h.k ≡ i = omega (arith, h.at) in
        let d : get_or (meant s.order) i 0 ≡ v = get_or-take s.order.count s.order.at i 0 w.0 in
        let l : i < length (meant s.order) = omega (arith, length-meant s.order eo) in
        let m : 1 ≤ occ v (meant s.order) = rw d at (occ-get_or i (meant s.order) l) in
        let o = slot_once G v (omega arith) in
        map_one (event_at p) (event_at q) v S.there (meant s.order) i l d (omega (arith, o.0)) ∙ rw (S.here o.1, ← k) (sym h.is);
    good = λ c G. good_words G q S.long;
    kept = λ h. absurd (true≢false h);
  }
    where
      v : ℕ
      v = get_or s.order.at i 0

  pub inserted : (q : List ℕ) {i : ℕ} → (e.origin.0 < 16) × (e.len ≤ 32) → found ≡ Err i → length s.free.at ≡ 256 → 0 < s.free.count → s.free.count ≤ 256 → s.order.count < 256
      → Saved p q (get_or s.free.at (s.free.count - 1) 0) e
      → Put p q s (record { order = moved_up s.order i (get_or s.free.at (s.free.count - 1) 0); free = but_last s.free }) e true
  inserted q {i} r t ef some few room S = record {
    long = S.long;
    answers = λ c G.
        fits_in e (length (insert_sorted e (events p s.order))) c r
        (rw (gap_at t).is (omega (arith, length_ins (gap_at t).k e (events p s.order), long, G.counts)));
    list = λ c G _.
        let h = gap_at t in
        let k : h.k ≡ i = omega (arith, h.at) in
        let o = slot_once G v (omega (arith, last_free s.free ef some few v, hit_self v)) in
        rw (
          meant_up s.order i v eo (gap_within t) room,
          map_ins (event_at q) i v (meant s.order),
          map_off (event_at p) (event_at q) v S.there (meant s.order) (omega (arith, o.0, last_free s.free ef some few v, hit_self v)),
          S.here o.1,
          ← k,
        )
        (sym h.is);
    good = λ c G. good_words (good-moved G (moved_up s.order i v) (but_last s.free) (omega arith)
        (λ w. rw (meant_up s.order i v eo (gap_within t) room, occ_ins w i v (meant s.order)) (omega (arith, last_free s.free ef some few w)))) q S.long;
    kept = λ h. absurd (true≢false h);
  }
    where
      v : ℕ
      v = get_or s.free.at (s.free.count - 1) 0
