-- What `prune` keeps and frees. Assumes nothing.
use Prim.Native.Nat.{ℕ, ◌+◌, ◌<◌, ◌≤◌}
use native.Mathlib.Omega.{arith}
use native.Mathlib.Numerals.{add-one}
use mathlib.Core.Path.{◌≡◌, refl, sym, ap, ◌∙◌}
use mathlib.Core.Bool.{Bool, true, false, not, cond, true≢false}
use mathlib.Core.List.{List, [], ◌∷◌, ◌++◌, map, append-nil, append_assoc}
use lib.ListN.{length, get_or, take, length-take}
use lib.Seq.{take-suc}
use Rattle.std.proofs.lemmas.List.{take_all}
use Rattle.store.specs.declared.order.Slots.{Slots}
use Rattle.store.specs.declared.order.Store.{Store}
use Rattle.store.specs.Words.{event_at}
use Rattle.store.specs.Orders.{keep, above, occ, meant, pushed, Good, Pruned}
use Rattle.store.proofs.Moving.{occ-append, meant_push, length_push}
use Rattle.store.proofs.Putting.{good-moved}

-- ---- keep

module _ {A : Type 0} where
  cond-append : (b : Bool) (x : A) (l m : List A) → cond b (x ∷ (l ++ m)) (l ++ m) ≡ cond b (x ∷ l) l ++ m
  cond-append true x l m = refl
  cond-append false x l m = refl

  pub keep_append : (p : A → Bool) (l m : List A) → keep p (l ++ m) ≡ keep p l ++ keep p m
  unfolding keep
  keep_append p [] m = refl
  keep_append p (x ∷ l) m = rw (keep_append p l m) (cond-append (p x) x (keep p l) (keep p m))

  -- one element more
  keep_next : (p : A → Bool) (l : List A) (i : ℕ) (d : A) → i < length l → keep p (take (i + 1) l) ≡ keep p (take i l) ++ cond (p (get_or l i d)) (get_or l i d ∷ []) []
  unfolding keep
  keep_next p l i d h = rw (add-one, take-suc l i d h) (keep_append p (take i l) (get_or l i d ∷ []))

map-keep : {A B : Type 0} (f : A → B) (p : B → Bool) (l : List A) → map f (keep (λ a. p (f a)) l) ≡ keep p (map f l)
unfolding keep
map-keep f p [] = refl
map-keep {A} {B} f p (x ∷ l) = rw (← map-keep f p l) (go (p (f x)))
  where
    go : (b : Bool) → map f (cond b (x ∷ keep (λ a. p (f a)) l) (keep (λ a. p (f a)) l)) ≡ cond b (f x ∷ map f (keep (λ a. p (f a)) l)) (map f (keep (λ a. p (f a)) l))
    go true = refl
    go false = refl

-- what is kept and what is not make the whole
occ-keep : (v : ℕ) (p : ℕ → Bool) (l : List ℕ) → occ v (keep p l) + occ v (keep (λ a. not (p a)) l) ≡ occ v l
unfolding keep occ
occ-keep v p [] = omega arith
occ-keep v p (x ∷ l) = go (p x) (occ-keep v p l)
  where
    go : (b : Bool) → occ v (keep p l) + occ v (keep (λ a. not (p a)) l) ≡ occ v l
        → occ v (cond b (x ∷ keep p l) (keep p l)) + occ v (cond (not b) (x ∷ keep (λ a. not (p a)) l) (keep (λ a. not (p a)) l)) ≡ occ v (x ∷ l)
    go true e = omega (arith, e)
    go false e = omega (arith, e)

-- ---- the loop: of l the first i were tested, those that pass make the order, the others went behind the free slots f

pub record Pruning (t : ℕ → Bool) (l : List ℕ) (f s r : Slots) (i : ℕ) : Type 0 where
  pub long : length s.at ≡ 256
  pub long_free : length r.at ≡ 256
  pub within : i ≤ length l
  pub few : s.count ≤ i
  pub all : s.count + r.count ≡ i + f.count
  pub keeps : meant s ≡ keep t (take i l)
  pub frees : meant r ≡ meant f ++ keep (λ v. not (t v)) (take i l)

pub prune_none : (t : ℕ → Bool) (l a : List ℕ) (f : Slots) → length a ≡ 256 → length f.at ≡ 256 → Pruning t l f (record { at = a; count = 0 }) f 0
unfolding keep
prune_none t l a f e g = record {
  long = e;
  long_free = g;
  within = omega arith;
  few = omega arith;
  all = omega arith;
  keeps = refl;
  frees = sym (append-nil (meant f));
}

module _ {t : ℕ → Bool} {l : List ℕ} {f s r : Slots} {i : ℕ} (P : Pruning t l f s r i) (h : i < length l) where
  -- the tests of one more
  next : (p : ℕ → Bool) (b : Bool) → p (get_or l i 0) ≡ b → keep p (take (i + 1) l) ≡ keep p (take i l) ++ cond b (get_or l i 0 ∷ []) []
  next p b e = keep_next p l i 0 h ∙ rw e refl

  pub prune_keeps : s.count < 256 → t (get_or l i 0) ≡ true → Pruning t l f (pushed s (get_or l i 0)) r (i + 1)
  prune_keeps g e = record {
    long = length_push s (get_or l i 0) ∙ P.long;
    long_free = P.long_free;
    within = omega arith;
    few = omega (arith, P.few);
    all = omega (arith, P.all);
    keeps = meant_push s (get_or l i 0) (omega (arith, P.long)) ∙ rw P.keeps (sym (next t true e));
    frees = P.frees ∙ ap (λ (m : List ℕ). meant f ++ m) (sym (next (λ v. not (t v)) false (ap not e) ∙ append-nil (keep (λ v. not (t v)) (take i l))));
  }

  pub prune_frees : r.count < 256 → t (get_or l i 0) ≡ false → Pruning t l f s (pushed r (get_or l i 0)) (i + 1)
  prune_frees g e = record {
    long = P.long;
    long_free = length_push r (get_or l i 0) ∙ P.long_free;
    within = omega arith;
    few = omega (arith, P.few);
    all = omega (arith, P.all);
    keeps = P.keeps ∙ sym (next t false e ∙ append-nil (keep t (take i l)));
    frees = meant_push r (get_or l i 0) (omega (arith, P.long_free)) ∙ rw (P.frees, next (λ v. not (t v)) true (ap not e))
        (append_assoc (meant f) (keep (λ v. not (t v)) (take i l)) (get_or l i 0 ∷ []));
  }

-- ---- what `prune` ensures

pub not_pruned : (p : List ℕ) (s : Store) (es : List ℕ) → ((c : ℕ) → Good c p s.order s.free → ⊥) → Pruned p s s es false
not_pruned p s es h = record { list = λ c G. absurd (h c G); good = λ c G. G; kept = λ _. refl; answers = λ c G. absurd (h c G) }

pub pruned : (p : List ℕ) (s : Store) (es : List ℕ) (order free : Slots) {i : ℕ}
    → Pruning (λ v. above es (event_at p v)) (meant s.order) s.free order free i → length (meant s.order) ≤ i → s.order.count ≤ length (meant s.order)
    → Pruned p s (record { order = order; free = free }) es true
pruned p s es order free {i} P h g = record {
  list = λ c G. rw kept (map-keep (event_at p) (above es) (meant s.order));
  good = λ c G. good-moved G order free (omega (arith, P.all, P.within, few))
      (λ v. rw (kept, freed, occ-append v (meant s.free) (keep (λ v. not (t v)) (meant s.order))) (omega (arith, occ-keep v t (meant s.order))));
  kept = λ h. absurd (true≢false h);
  answers = λ c G. refl;
}
  where
    t : ℕ → Bool
    t v = above es (event_at p v)

    few : length (meant s.order) ≤ s.order.count
    few = rw length-take (omega arith)

    kept : meant order ≡ keep t (meant s.order)
    kept = P.keeps ∙ ap (keep t) (take_all _ _ h)

    freed : meant free ≡ meant s.free ++ keep (λ v. not (t v)) (meant s.order)
    freed = P.frees ∙ ap (λ (l : List ℕ). meant s.free ++ keep (λ v. not (t v)) l) (take_all _ _ h)
