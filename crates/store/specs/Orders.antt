-- A store's events: the slots in use by their events' ids, origin's place and then number, and the slots that are free. Assumes nothing.
use Rattle.std.specs.Prelude.{ℕ, zero, suc, ◌+◌, ◌-◌, ◌*◌, ◌<◌, ◌≤◌, min, ◌≡◌, Bool, true, false, cond, ◌&&◌, ◌⊎◌, Result, Ok, Err, length, get_or, set, take, ltb, leb, eqb}
use Rattle.std.specs.declared.cmp.Ordering.{Ordering}
use Rattle.std.specs.declared.cmp.Ordering.TheVariants.{Less, Equal, Greater}
use mathlib.Core.List.{List, [], ◌∷◌, map, Memᴰ}
use Rattle.lists.specs.Lists.{at, tab}
use Rattle.store.specs.Words.{event_at}
use Rattle.store.specs.declared.event.Event.{Event}
use Rattle.store.specs.declared.order.Slots.{Slots}
use Rattle.store.specs.declared.order.Store.{Store}

-- ---- sorted lists of events, each id once

abbrev pub choose : {A : Type 0} → Ordering → A → A → A → A
choose Less a b c = a
choose Equal a b c = b
choose Greater a b c = c

-- how the id (a, b) stands to (o, n): by place, then number
abbrev pub cmp_of : ℕ → ℕ → ℕ → ℕ → Ordering
cmp_of a b o n = cond (ltb a o) Less (cond (ltb o a) Greater (cond (ltb b n) Less (cond (ltb n b) Greater Equal)))

-- where the id (o, n) stands in a sorted list (`Ok`), or is to stand (`Err`); positions count from i
unfoldable pub find_from : ℕ → ℕ → ℕ → List Event → Result ℕ ℕ
find_from o n i [] = Err i
find_from o n i (x ∷ xs) = choose (cmp_of x.origin.0 x.number o n) (find_from o n (i + 1) xs) (Ok i) (Err i)

-- e put into a sorted list; one with the same id gives way
unfoldable pub insert_sorted : Event → List Event → List Event
insert_sorted e [] = e ∷ []
insert_sorted e (x ∷ xs) = choose (cmp_of x.origin.0 x.number e.origin.0 e.number) (x ∷ insert_sorted e xs) (e ∷ xs) (e ∷ x ∷ xs)

-- x stands in l
abbrev pub In : {A : Type 0} → A → List A → Type 0
In x l = Memᴰ x l

-- x has the id (o, n); x and y have the same id; the id of x is less than that of y
abbrev pub HasId : ℕ → ℕ → Event → Type 0
HasId o n x = (x.origin.0 ≡ o) × (x.number ≡ n)

abbrev pub SameId : Event → Event → Type 0
SameId x y = HasId y.origin.0 y.number x

abbrev pub Before : Event → Event → Type 0
Before x y = (x.origin.0 < y.origin.0) ⊎ ((x.origin.0 ≡ y.origin.0) × (x.number < y.number))

-- each element is before all later ones
abbrev pub Sorted : List Event → Type 0
Sorted [] = Unit {0}
Sorted (x ∷ xs) = ((y : Event) → In y xs → Before x y) × Sorted xs

-- an element put in at a position, and the element at a position taken out
unfoldable pub ins_at : {A : Type 0} → ℕ → A → List A → List A
ins_at zero a l = a ∷ l
ins_at (suc i) a [] = a ∷ []
ins_at (suc i) a (x ∷ xs) = x ∷ ins_at i a xs

unfoldable pub del_at : {A : Type 0} → ℕ → List A → List A
del_at i [] = []
del_at zero (x ∷ xs) = xs
del_at (suc i) (x ∷ xs) = x ∷ del_at i xs

-- ---- slots

abbrev pub no_slots : Slots
no_slots = record { at = tab 256 (λ k. 0); count = 0 }

abbrev pub free_slots : ℕ → Slots
free_slots n = record { at = tab 256 (λ k. cond (ltb k n) k 0); count = min n 256 }

-- the slots that are meant
abbrev pub meant : Slots → List ℕ
meant s = take s.count s.at

-- those from a position up to the last moved up by one, and a slot put there
abbrev pub moved_up : Slots → ℕ → ℕ → Slots
moved_up s i x = record {
  at = tab 256 (λ k. cond (ltb k i) (get_or s.at k 0) (cond (eqb k i) x (cond (leb k s.count) (get_or s.at (k - 1) 0) (get_or s.at k 0))));
  count = s.count + 1;
}

-- those behind a position moved down by one; what then stands behind the last stays
abbrev pub moved_down : Slots → ℕ → Slots
moved_down s i = record {
  at = tab 256 (λ k. cond (leb i k && ltb (k + 1) s.count) (get_or s.at (k + 1) 0) (get_or s.at k 0));
  count = s.count - 1;
}

-- a slot put behind the others, and the last one taken out
abbrev pub pushed : Slots → ℕ → Slots
pushed s x = record { at = set s.at s.count x; count = s.count + 1 }

abbrev pub but_last : Slots → Slots
but_last s = record { at = s.at; count = s.count - 1 }

-- no slot in use, and the first n free
abbrev pub new_store : ℕ → Store
new_store n = record { order = no_slots; free = free_slots n }

-- the events of an order
abbrev pub events : List ℕ → Slots → List Event
events p o = map (event_at p) (meant o)

-- how often v stands in a list
abbrev pub hit : Bool → ℕ
hit true = 1
hit false = 0

unfoldable pub occ : ℕ → List ℕ → ℕ
occ v [] = 0
occ v (x ∷ xs) = hit (eqb v x) + occ v xs

-- a store of c slots: the words hold them, and each is used or free, once
pub record Good (c : ℕ) (p : List ℕ) (order free : Slots) : Type 0 where
  pub room : 27 * c ≤ length p
  pub size : c ≤ 256
  pub counts : order.count + free.count ≡ c
  pub once : (v : ℕ) → v < c → occ v (meant order) + occ v (meant free) ≡ 1
  pub inside : (v : ℕ) → c ≤ v → occ v (meant order) + occ v (meant free) ≡ 0

-- an origin's place and a length in their range
abbrev pub in_range : Event → Bool
in_range e = ltb e.origin.0 16 && leb e.len 32

-- e is put into the store s, which is t then, where it is in range and no more than c are there with it; where it isn't, nothing changed
pub record Put (p q : List ℕ) (s t : Store) (e : Event) (done : Bool) : Type 0 where
  pub long : length q ≡ length p
  pub answers : (c : ℕ) → Good c p s.order s.free → done ≡ (in_range e && leb (length (insert_sorted e (events p s.order))) c)
  pub list : (c : ℕ) → Good c p s.order s.free → done ≡ true → events q t.order ≡ insert_sorted e (events p s.order)
  pub good : (c : ℕ) → Good c p s.order s.free → Good c q t.order t.free
  pub kept : done ≡ false → (q ≡ p) × (t ≡ s)

-- the event at a position is taken out of s, whatever the words, where there is one; where it isn't, nothing changed
pub record Removed (s t : Store) (i : ℕ) (done : Bool) : Type 0 where
  pub answers : (c : ℕ) (p : List ℕ) → Good c p s.order s.free → done ≡ ltb i s.order.count
  pub list : (c : ℕ) (p : List ℕ) → Good c p s.order s.free → events p t.order ≡ del_at i (events p s.order)
  pub good : (c : ℕ) (p : List ℕ) → Good c p s.order s.free → Good c p t.order t.free
  pub kept : done ≡ false → t ≡ s

-- ---- pruning

-- the elements that pass a test
unfoldable pub keep : {A : Type 0} → (A → Bool) → List A → List A
keep p [] = []
keep p (x ∷ xs) = cond (p x) (x ∷ keep p xs) (keep p xs)

-- an event's number is above its origin's entry
abbrev pub above : List ℕ → Event → Bool
above f e = ltb (at f e.origin.0) e.number

-- the events at or below the entries are taken out of s; where they aren't, nothing changed
pub record Pruned (p : List ℕ) (s t : Store) (f : List ℕ) (done : Bool) : Type 0 where
  pub list : (c : ℕ) → Good c p s.order s.free → events p t.order ≡ keep (above f) (events p s.order)
  pub good : (c : ℕ) → Good c p s.order s.free → Good c p t.order t.free
  pub kept : done ≡ false → t ≡ s
  pub answers : (c : ℕ) → Good c p s.order s.free → done ≡ true
