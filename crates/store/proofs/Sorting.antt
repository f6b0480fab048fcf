-- Sorted lists of events: what `insert_sorted`, `del_at`, `keep` and `find_from` do to them. Assumes nothing.
use Prim.Native.Nat.{ℕ, zero, suc, ◌+◌, ◌<◌, zero-le, suc-le-suc}
use native.Mathlib.Omega.{arith}
use mathlib.Core.Path.{◌≡◌, refl, sym, ◌∙◌}
use mathlib.Core.Bool.{Bool, true, false, cond, true≢false}
use mathlib.Core.Logic.{◌⊎◌, inl, inr, ⊎_elim}
use mathlib.Core.List.Memᴰ
use mathlib.Core.List.{List, [], ◌∷◌}
use lib.ListN.{length, get_or}
use borrow.Author.Tests.{lt-ltb, le-ltb}
use Rattle.std.specs.Prelude.{Result, Ok, Err}
use Rattle.std.specs.declared.cmp.Ordering.{Ordering}
use Rattle.std.specs.declared.cmp.Ordering.TheVariants.{Less, Equal, Greater}
use Rattle.lists.proofs.Cases.{split}
use Rattle.store.specs.declared.event.Event.{Event}
use Rattle.store.specs.Orders.{choose, cmp_of, find_from, insert_sorted, del_at, keep, In, HasId, SameId, Before, Sorted}

-- ---- ids

abbrev Below : ℕ → ℕ → ℕ → ℕ → Type 0
Below a b o n = (a < o) ⊎ ((a ≡ o) × (b < n))

-- what a comparison's answer says
abbrev Standing : ℕ → ℕ → ℕ → ℕ → Ordering → Type 0
Standing a b o n Less = Below a b o n
Standing a b o n Equal = (a ≡ o) × (b ≡ n)
Standing a b o n Greater = Below o n a b

standing : (a b o n : ℕ) → Standing a b o n (cmp_of a b o n)
standing a b o n =
    ⊎_elim (λ p. rw (lt-ltb a o p) (inl p))
    (λ p. rw (le-ltb a o p) (⊎_elim (λ q. rw (lt-ltb o a q) (inl q))
    (λ q. rw (le-ltb o a q) (⊎_elim (λ r. rw (lt-ltb b n r) (inr (omega arith)))
    (λ r. rw (le-ltb b n r) (⊎_elim (λ s. rw (lt-ltb n b s) (inr (omega arith)))
    (λ s. rw (le-ltb n b s) (omega arith)) (split n b))) (split b n))) (split o a))) (split a o)

-- a choice by comparison, by the three cases
cmp_ind : {A : Type 0} (P : A → Type 0) (a b o n : ℕ) {x y z : A} → (Below a b o n → P x) → ((a ≡ o) × (b ≡ n) → P y) → (Below o n a b → P z)
    → P (choose (cmp_of a b o n) x y z)
cmp_ind P a b o n {x} {y} {z} f g h = go (cmp_of a b o n) (standing a b o n)
  where
    go : (r : Ordering) → Standing a b o n r → P (choose r x y z)
    go Less s = f s
    go Equal s = g s
    go Greater s = h s

below_trans : (a b c d o n : ℕ) → Below a b c d → Below c d o n → Below a b o n
below_trans a b c d o n (inl p) (inl q) = inl (omega arith)
below_trans a b c d o n (inl p) (inr q) = inl (omega arith)
below_trans a b c d o n (inr p) (inl q) = inl (omega arith)
below_trans a b c d o n (inr p) (inr q) = inr (omega arith)

below_other : (a b o n : ℕ) → Below a b o n → (a ≡ o) × (b ≡ n) → ⊥
below_other a b o n (inl p) s = omega arith
below_other a b o n (inr p) s = omega arith

pub before_trans : (x y z : Event) → Before x y → Before y z → Before x z
before_trans x y z = below_trans x.origin.0 x.number y.origin.0 y.number z.origin.0 z.number

pub before_other : (x y : Event) → Before x y → ¬ SameId x y
before_other x y = below_other x.origin.0 x.number y.origin.0 y.number

-- an event with the id of one that is before another
before_same : (x e y : Event) → SameId x e → Before x y → Before e y
before_same x e y h (inl a) = inl (omega arith)
before_same x e y h (inr a) = inr (omega arith)

same_of : {x y : Event} → x ≡ y → SameId x y
same_of e = (λ i. (e i).origin.0, λ i. (e i).number)

-- ---- insert_sorted

pub insert_self : (e : Event) (l : List Event) → In e (insert_sorted e l)
unfolding insert_sorted
insert_self e [] = Memᴰ.head refl
insert_self e (y ∷ l) =
    cmp_ind (In e) y.origin.0 y.number e.origin.0 e.number
    (λ t. Memᴰ.tail (insert_self e l)) (λ t. Memᴰ.head refl) (λ t. Memᴰ.head refl)

pub in_insert : (e : Event) (l : List Event) {x : Event} → In x l → ¬ SameId x e → In x (insert_sorted e l)
unfolding insert_sorted
in_insert e [] m d = absurd (Memᴰ.not-nil m)
in_insert e (y ∷ l) {x} m d =
    cmp_ind (In x) y.origin.0 y.number e.origin.0 e.number
    (λ t. ⊎_elim (λ c. Memᴰ.head c) (λ c. Memᴰ.tail (in_insert e l c d)) (Memᴰ.cases_cons m))
    (λ t. ⊎_elim (λ c. absurd (d (rw c t))) (λ c. Memᴰ.tail c) (Memᴰ.cases_cons m))
    (λ t. Memᴰ.tail m)

pub insert_in : (e : Event) (l : List Event) {x : Event} → Sorted l → In x (insert_sorted e l) → (x ≡ e) ⊎ (In x l × ¬ SameId x e)
unfolding insert_sorted
insert_in e [] s = λ m. ⊎_elim inl (λ c. absurd (Memᴰ.not-nil c)) (Memᴰ.cases_cons m)
insert_in e (y ∷ l) {x} s =
    cmp_ind (λ (c : List Event). In x c → (x ≡ e) ⊎ (In x (y ∷ l) × ¬ SameId x e)) y.origin.0 y.number e.origin.0 e.number
    (λ t m. ⊎_elim (λ c. inr (Memᴰ.head c, rw c (before_other y e t))) (λ c. ⊎_elim inl (λ r. inr (Memᴰ.tail r.0, r.1)) (insert_in e l s.1 c)) (Memᴰ.cases_cons m))
    (λ t m. ⊎_elim inl (λ c. inr (Memᴰ.tail c, later (before_same y e x t (s.0 x c)))) (Memᴰ.cases_cons m))
    (λ t m. ⊎_elim inl (λ c. inr (c, later (further t (Memᴰ.cases_cons c)))) (Memᴰ.cases_cons m))
  where
    later : Before e x → ¬ SameId x e
    later b h = before_other e x b (sym h.0, sym h.1)

    further : Before e y → (x ≡ y) ⊎ In x l → Before e x
    further t (inl c) = rw c t
    further t (inr c) = before_trans e y x t (s.0 x c)

pub insert_sorted_lem : (e : Event) (l : List Event) → Sorted l → Sorted (insert_sorted e l)
unfolding insert_sorted
insert_sorted_lem e [] s = (λ y m. absurd (Memᴰ.not-nil m), tt)
insert_sorted_lem e (y ∷ l) s =
    cmp_ind Sorted y.origin.0 y.number e.origin.0 e.number
    (λ t. (λ x m. ⊎_elim (λ c. rw c t) (λ c. s.0 x c.0) (insert_in e l s.1 m), insert_sorted_lem e l s.1))
    (λ t. (λ x m. before_same y e x t (s.0 x m), s.1))
    (λ t. (λ x m. ⊎_elim (λ c. rw c t) (λ c. before_trans e y x t (s.0 x c)) (Memᴰ.cases_cons m), s))

-- ---- del_at and keep

module _ {A : Type 0} where
  pub delete_in : (i : ℕ) (l : List A) {x : A} → In x (del_at i l) → In x l
  unfolding del_at
  delete_in i [] m = m
  delete_in zero (y ∷ l) m = Memᴰ.tail m
  delete_in (suc i) (y ∷ l) m = ⊎_elim (λ c. Memᴰ.head c) (λ c. Memᴰ.tail (delete_in i l c)) (Memᴰ.cases_cons m)

  -- a choice by a Boolean, by the two cases
  cond_ind : (P : List A → Type 0) (b : Bool) {x y : List A} → (b ≡ true → P x) → (b ≡ false → P y) → P (cond b x y)
  cond_ind P true f g = f refl
  cond_ind P false f g = g refl

  pub keep_in : (p : A → Bool) (l : List A) {x : A} → In x (keep p l) → In x l × (p x ≡ true)
  unfolding keep
  keep_in p [] = λ m. absurd (Memᴰ.not-nil m)
  keep_in p (y ∷ l) {x} =
      let below : In x (keep p l) → In x (y ∷ l) × (p x ≡ true) = λ m. let r = keep_in p l m in (Memᴰ.tail r.0, r.1) in
      cond_ind (λ (c : List A). In x c → In x (y ∷ l) × (p x ≡ true)) (p y)
      (λ t m. ⊎_elim (λ e. (Memᴰ.head e, rw e t)) below (Memᴰ.cases_cons m))
      (λ t m. below m)

  pub in_keep : (p : A → Bool) (l : List A) {x : A} → In x l → p x ≡ true → In x (keep p l)
  unfolding keep
  in_keep p [] m t = absurd (Memᴰ.not-nil m)
  in_keep p (y ∷ l) {x} m t =
      cond_ind (In x) (p y)
      (λ s. ⊎_elim (λ e. Memᴰ.head e) (λ d. Memᴰ.tail (in_keep p l d t)) (Memᴰ.cases_cons m))
      (λ s. ⊎_elim (λ e. absurd (true≢false (sym (rw e at t) ∙ s))) (λ d. in_keep p l d t) (Memᴰ.cases_cons m))

pub delete_sorted : (i : ℕ) (l : List Event) → Sorted l → Sorted (del_at i l)
unfolding del_at
delete_sorted i [] s = s
delete_sorted zero (y ∷ l) s = s.1
delete_sorted (suc i) (y ∷ l) s = (λ x m. s.0 x (delete_in i l m), delete_sorted i l s.1)

pub keep_sorted : (p : Event → Bool) (l : List Event) → Sorted l → Sorted (keep p l)
unfolding keep
keep_sorted p [] s = tt
keep_sorted p (y ∷ l) s = cond_ind Sorted (p y) (λ t. (λ x m. s.0 x (keep_in p l m).0, keep_sorted p l s.1)) (λ t. keep_sorted p l s.1)

-- ---- sorted lists with the same members are equal

pub sorted_ext : (a b : List Event) → Sorted a → Sorted b → ((x : Event) → In x a → In x b) → ((x : Event) → In x b → In x a) → a ≡ b
sorted_ext [] [] s t f g = refl
sorted_ext [] (y ∷ b) s t f g = absurd (Memᴰ.not-nil (g y (Memᴰ.head refl)))
sorted_ext (x ∷ a) [] s t f g = absurd (Memᴰ.not-nil (f x (Memᴰ.head refl)))
sorted_ext (x ∷ a) (y ∷ b) s t f g =
    let e : x ≡ y = heads (Memᴰ.cases_cons (f x (Memᴰ.head refl))) (Memᴰ.cases_cons (g y (Memᴰ.head refl))) in
    let r : a ≡ b = sorted_ext a b s.1 t.1
    (λ z m. ⊎_elim (λ c. absurd (before_other x z (s.0 z m) (same_of (e ∙ sym c)))) (λ c. c) (Memᴰ.cases_cons (f z (Memᴰ.tail m))))
    (λ z m. ⊎_elim (λ c. absurd (before_other y z (t.0 z m) (same_of (sym e ∙ sym c)))) (λ c. c) (Memᴰ.cases_cons (g z (Memᴰ.tail m)))) in
    λ i. e i ∷ r i
  where
    apart : Before x y → Before y x → ⊥
    apart p q = before_other x x (before_trans x y x p q) (refl, refl)

    heads : (x ≡ y) ⊎ In x b → (y ≡ x) ⊎ In y a → x ≡ y
    heads (inl p) q = p
    heads (inr p) (inl q) = sym q
    heads (inr p) (inr q) = absurd (apart (s.0 y q) (t.0 x p))

-- ---- find_from; positions count from j

record FoundAt (o n : ℕ) (l : List Event) (j i : ℕ) : Type 0 where
  pub k : ℕ
  pub at : i ≡ j + k
  pub fit : k < length l
  pub is : (d : Event) → HasId o n (get_or l k d)

abbrev Answer : ℕ → ℕ → List Event → ℕ → Result ℕ ℕ → Type 0
Answer o n l j (Ok i) = FoundAt o n l j i
Answer o n l j (Err i) = Sorted l → (y : Event) → In y l → ¬ HasId o n y

answer : (o n : ℕ) (l : List Event) (j : ℕ) → Answer o n l j (find_from o n j l)
unfolding find_from
answer o n [] j = λ s y m. absurd (Memᴰ.not-nil m)
answer o n (x ∷ l) j =
    cmp_ind (Answer o n (x ∷ l) j) x.origin.0 x.number o n
    (λ t. later t (find_from o n (j + 1) l) (answer o n l (j + 1)))
    (λ t. record { k = 0; at = omega arith; fit = suc-le-suc zero-le; is = λ d. t })
    (λ t s y m h. below_other o n y.origin.0 y.number
    (⊎_elim (λ c. rw c t) (λ c. below_trans o n x.origin.0 x.number y.origin.0 y.number t (s.0 y c)) (Memᴰ.cases_cons m)) (sym h.0, sym h.1))
  where
    later : Below x.origin.0 x.number o n → (f : Result ℕ ℕ) → Answer o n l (j + 1) f → Answer o n (x ∷ l) j f
    later t (Ok i) h = record { k = suc h.k; at = omega (arith, h.at); fit = suc-le-suc h.fit; is = h.is }
    later t (Err i) h =
        λ s y m g. ⊎_elim (λ c. below_other x.origin.0 x.number o n t (rw c at g)) (λ c. h s.1 y c g) (Memᴰ.cases_cons m)

-- where the id stands
pub find_at : (o n i : ℕ) (l : List Event) → find_from o n 0 l ≡ Ok i → (i < length l) × ((d : Event) → HasId o n (get_or l i d))
find_at o n i l f =
    let h = rw f at (answer o n l 0) in
    let k : i ≡ h.k = omega (arith, h.at) in
    rw k (h.fit, h.is)

-- no element has the id
pub find_gap : (o n i : ℕ) (l : List Event) → Sorted l → find_from o n 0 l ≡ Err i → (y : Event) → In y l → ¬ HasId o n y
find_gap o n i l s f = let h = rw f at (answer o n l 0) in h s
