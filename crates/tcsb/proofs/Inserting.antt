-- Events put into sorted lists one by one: ids, lengths, and what is counted over a list and one more. Assumes nothing.
use mathlib.Core.Path.{◌≡◌, refl, sym, ap, ◌∙◌}
use mathlib.Core.Bool.{Bool, true, false, cond, ◌&&◌, ◌||◌, or-true, or-false, or_assoc, or_self_left}
use mathlib.Core.List.Memᴰ
use mathlib.Core.List.{List, [], ◌∷◌, ◌++◌, map}
use Prim.Native.Nat.{ℕ, zero, suc, ◌+◌, ◌≤◌, ◌<◌}
use native.Mathlib.Nat.{not-suc-le-zero, le_of_suc-le-suc}
use native.Mathlib.Omega.{arith}
use lib.ListN.{length, get_or}
use lib.Dec.{ltb, eqb}
use borrow.Author.Tests.{eq-eqb, eqb-true, ltb-false}
use Rattle.telegram.specs.declared.body.Body.{Body}
use Rattle.store.specs.declared.event.Event.{Event}
use Rattle.store.specs.Orders.{choose, cmp_of, find_from, insert_sorted, keep, In, HasId, Sorted}
use Rattle.store.proofs.Sorting.{find_at, find_gap}
use Rattle.tcsb.specs.declared.internalizer.Translation.{Translation}
use Rattle.tcsb.specs.declared.receive.Verdict.{Verdict}
use Rattle.tcsb.specs.Internalizer.{our_place}
use Rattle.tcsb.specs.Replica.{State, own, misnumbered, verdict_of, same_verdict, insert_all, count_of, some_own, some_misnumbered}
use Rattle.tcsb.specs.Receive.{new_to}
use Rattle.tcsb.specs.Survey.{has_in}
use Rattle.tcsb.proofs.Receiving.{insert_all_sorted}
use Rattle.tcsb.proofs.Taking.{insert_length}
use Rattle.std.specs.Prelude.{Result, Ok, Err}
use Rattle.std.specs.declared.cmp.Ordering.{Ordering}
use Rattle.std.specs.declared.cmp.Ordering.TheVariants.{Less, Equal, Greater}

-- ---- Booleans

or_swap : (a b c : Bool) → (a || (b || c)) ≡ (b || (a || c))
or_swap true true c = refl
or_swap true false c = refl
or_swap false true c = refl
or_swap false false c = refl

-- ---- ids

-- an event has an id
abbrev pub id_is : ℕ → ℕ → Event → Bool
id_is o n e = eqb e.origin.0 o && eqb e.number n

id_is_lem : (o n : ℕ) (e : Event) → HasId o n e → id_is o n e ≡ true
id_is_lem o n e h = rw (eq-eqb e.origin.0 o h.0, eq-eqb e.number n h.1) refl

pub is_id : (o n : ℕ) (e : Event) → id_is o n e ≡ true → HasId o n e
is_id o n e h = go (eqb e.origin.0 o) (eqb e.number n) refl refl h
  where
    go : (a b : Bool) → eqb e.origin.0 o ≡ a → eqb e.number n ≡ b → (a && b) ≡ true → HasId o n e
    go true true p q h = (eqb-true e.origin.0 o p, eqb-true e.number n q)
    go true false p q h = absurd (let z : ◌≡◌ {A = ℕ} 0 1 = cc in omega arith)
    go false b p q h = absurd (let z : ◌≡◌ {A = ℕ} 0 1 = cc in omega arith)

-- the event at a place has the id
has-at : (o n : ℕ) (l : List Event) (i : ℕ) (d : Event) → i < length l → HasId o n (get_or l i d) → has_in o n l ≡ true
unfolding has_in
has-at o n [] i d lt h = absurd (not-suc-le-zero lt)
has-at o n (x ∷ l) zero d lt h = rw (id_is_lem o n x h) refl
has-at o n (x ∷ l) (suc i) d lt h = rw (has-at o n l i d (le_of_suc-le-suc lt) h) (or-true (id_is o n x))

-- no event has it
has-none : (o n : ℕ) (l : List Event) → ((y : Event) → In y l → ¬ HasId o n y) → has_in o n l ≡ false
unfolding has_in
has-none o n [] h = refl
has-none o n (x ∷ l) h = go (id_is o n x) refl (has-none o n l (λ y m. h y (Memᴰ.tail m)))
  where
    go : (a : Bool) → id_is o n x ≡ a → has_in o n l ≡ false → (a || has_in o n l) ≡ false
    go true e r = absurd (h x (Memᴰ.head refl) (is_id o n x e))
    go false e r = r

new_none : (o n : ℕ) → new_to (find_from o n 0 []) ≡ cond (has_in o n []) 0 1
unfolding find_from has_in
new_none o n = refl

-- in a sorted list an id that isn't there is new
pub new_to_lem : (o n : ℕ) (l : List Event) → Sorted l → new_to (find_from o n 0 l) ≡ cond (has_in o n l) 0 1
new_to_lem o n [] s = new_none o n
new_to_lem o n (x ∷ l) s = go (find_from o n 0 (x ∷ l)) refl
  where
    go : (f : Result ℕ ℕ) → find_from o n 0 (x ∷ l) ≡ f → new_to f ≡ cond (has_in o n (x ∷ l)) 0 1
    go (Ok i) e = let h = find_at o n i (x ∷ l) e in rw (has-at o n (x ∷ l) i x h.0 (h.1 x)) refl
    go (Err i) e = rw (has-none o n (x ∷ l) (find_gap o n i (x ∷ l) s e)) refl

-- ---- insert_sorted

-- events that compare as the same have the same id
cmp_same : (a b o n : ℕ) → cmp_of a b o n ≡ Equal → (a ≡ o) × (b ≡ n)
cmp_same a b o n = go (ltb a o) (ltb o a) (ltb b n) (ltb n b) refl refl refl refl
  where
    go : (p q r s : Bool) → ltb a o ≡ p → ltb o a ≡ q → ltb b n ≡ r → ltb n b ≡ s → cond p Less (cond q Greater (cond r Less (cond s Greater Equal))) ≡ Equal
        → (a ≡ o) × (b ≡ n)
    go true q r s e f g h c = absurd (let z : ◌≡◌ {A = ℕ} 0 1 = cc in omega arith)
    go false true r s e f g h c = absurd (let z : ◌≡◌ {A = ℕ} 0 1 = cc in omega arith)
    go false false true s e f g h c = absurd (let z : ◌≡◌ {A = ℕ} 0 1 = cc in omega arith)
    go false false false true e f g h c = absurd (let z : ◌≡◌ {A = ℕ} 0 1 = cc in omega arith)
    go false false false false e f g h c =
        omega (arith, ltb-false a o e, ltb-false o a f, ltb-false b n g, ltb-false n b h)

pub has_insert : (o n : ℕ) (e : Event) (l : List Event) → has_in o n (insert_sorted e l) ≡ (id_is o n e || has_in o n l)
unfolding has_in insert_sorted
has_insert o n e [] = refl
has_insert o n e (x ∷ l) = go (cmp_of x.origin.0 x.number e.origin.0 e.number) refl (has_insert o n e l)
  where
    go : (r : Ordering) → cmp_of x.origin.0 x.number e.origin.0 e.number ≡ r → has_in o n (insert_sorted e l) ≡ (id_is o n e || has_in o n l)
        → has_in o n (choose r (x ∷ insert_sorted e l) (e ∷ l) (e ∷ x ∷ l)) ≡ (id_is o n e || (id_is o n x || has_in o n l))
    go Less c h = rw h (or_swap (id_is o n x) (id_is o n e) (has_in o n l))
    go Equal c h =
        let q = cmp_same x.origin.0 x.number e.origin.0 e.number c in
        rw (q.0, q.1) (sym (or_self_left (id_is o n e) (has_in o n l)))
    go Greater c h = refl

-- ---- insert_all

pub insert_all-append : (es ds l : List Event) → insert_all (es ++ ds) l ≡ insert_all ds (insert_all es l)
unfolding insert_all
insert_all-append [] ds l = refl
insert_all-append (e ∷ es) ds l = insert_all-append es ds (insert_sorted e l)

pub insert_all_one : (e : Event) (l : List Event) → insert_all (e ∷ []) l ≡ insert_sorted e l
unfolding insert_all
insert_all_one e l = refl

pub insert_all-none : (l : List Event) → insert_all [] l ≡ l
unfolding insert_all
insert_all-none l = refl

pub insert_all-long : (es l : List Event) → length l ≤ length (insert_all es l)
unfolding insert_all
insert_all-long [] l = omega arith
insert_all-long (e ∷ es) l = omega (arith, insert_length e 0 l, insert_all-long es (insert_sorted e l))

pub has_all : (o n : ℕ) (es l : List Event) → has_in o n (insert_all es l) ≡ (has_in o n es || has_in o n l)
unfolding has_in insert_all
has_all o n [] l = refl
has_all o n (e ∷ es) l =
    has_all o n es (insert_sorted e l)
    ∙ rw (has_insert o n e l)
    (or_swap (has_in o n es) (id_is o n e) (has_in o n l) ∙ sym (or_assoc (id_is o n e) (has_in o n es) (has_in o n l)))

-- one event more whose id is among those put in: no longer; whose id isn't: longer by one where it is new
pub one_again : (es l : List Event) (e : Event) → Sorted l → has_in e.origin.0 e.number es ≡ true
    → length (insert_all (es ++ (e ∷ [])) l) ≡ length (insert_all es l)
one_again es l e s h =
    let o = e.origin.0 in
    let n = e.number in
    rw (insert_all-append es (e ∷ []) l, insert_all_one e (insert_all es l))
    (insert_length e 0 (insert_all es l) ∙ rw (new_to_lem o n (insert_all es l) (insert_all_sorted es l s), has_all o n es l, h) (omega arith))

pub one_more_lem : (es l : List Event) (e : Event) → Sorted l → has_in e.origin.0 e.number es ≡ false
    → length (insert_all (es ++ (e ∷ [])) l) ≡ length (insert_all es l) + new_to (find_from e.origin.0 e.number 0 l)
one_more_lem es l e s h =
    let o = e.origin.0 in
    let n = e.number in
    rw (insert_all-append es (e ∷ []) l, insert_all_one e (insert_all es l))
    (insert_length e 0 (insert_all es l) ∙ rw (new_to_lem o n (insert_all es l) (insert_all_sorted es l s), has_all o n es l, h, new_to_lem o n l s) refl)

pub has-append : (o n : ℕ) (es : List Event) (e : Event) → has_in o n (es ++ (e ∷ [])) ≡ (has_in o n es || id_is o n e)
unfolding has_in
has-append o n [] e = or-false (id_is o n e)
has-append o n (x ∷ es) e = rw (has-append o n es e) (sym (or_assoc (id_is o n x) (has_in o n es) (id_is o n e)))

-- ---- a list and one more

pub keep_yes : {A : Type 0} (p : A → Bool) (x : A) → p x ≡ true → keep p (x ∷ []) ≡ x ∷ []
unfolding keep
keep_yes p x h = rw h refl

pub keep-no : {A : Type 0} (p : A → Bool) (x : A) → p x ≡ false → keep p (x ∷ []) ≡ []
unfolding keep
keep-no p x h = rw h refl

pub count-append : (st : State) (v : Verdict) (es : List Event) (e : Event) → count_of st v (es ++ (e ∷ [])) ≡ count_of st v es + cond (same_verdict (verdict_of st e) v) 1 0
unfolding count_of
count-append st v [] e = go (same_verdict (verdict_of st e) v)
  where
    go : (b : Bool) → cond b 1 0 ≡ 0 + cond b 1 0
    go true = omega arith
    go false = omega arith
count-append st v (x ∷ es) e = go (same_verdict (verdict_of st x) v) (count-append st v es e)
  where
    go : (b : Bool) → count_of st v (es ++ (e ∷ [])) ≡ count_of st v es + cond (same_verdict (verdict_of st e) v) 1 0
        → cond b (suc (count_of st v (es ++ (e ∷ [])))) (count_of st v (es ++ (e ∷ [])))
        ≡ cond b (suc (count_of st v es)) (count_of st v es) + cond (same_verdict (verdict_of st e) v) 1 0
    go true h = omega arith
    go false h = h

pub own-append : (st : State) (row : Translation) (l : List Body) (b : Body) → some_own st row (l ++ (b ∷ [])) ≡ (some_own st row l || eqb (our_place row b.place.0) (own st))
unfolding some_own
own-append st row [] b = or-false (eqb (our_place row b.place.0) (own st))
own-append st row (x ∷ l) b = rw (own-append st row l b) (sym (or_assoc (eqb (our_place row x.place.0) (own st)) (some_own st row l) (eqb (our_place row b.place.0) (own st))))

pub misnumbered-append : (l : List Body) (b : Body) → some_misnumbered (l ++ (b ∷ [])) ≡ (some_misnumbered l || misnumbered b)
unfolding some_misnumbered
misnumbered-append [] b = or-false (misnumbered b)
misnumbered-append (x ∷ l) b = rw (misnumbered-append l b) (sym (or_assoc (misnumbered x) (some_misnumbered l) (misnumbered b)))

pub map-append : {A B : Type 0} (f : A → B) (l : List A) (x : A) → map f (l ++ (x ∷ [])) ≡ map f l ++ (f x ∷ [])
map-append f [] x = refl
map-append {A} {B} f (y ∷ l) x = ap (λ (r : List B). f y ∷ r) (map-append f l x)
