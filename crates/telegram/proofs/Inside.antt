-- What is read lies inside the bytes, and counts are within their range. Assumes nothing.
use Prim.Native.Nat.{ℕ, zero, suc, ◌+◌, ◌-◌, ◌<◌, ◌≤◌}
use native.Mathlib.Omega.{arith}
use mathlib.Core.Path.{◌≡◌, refl, ap}
use mathlib.Core.Bool.{Bool, true, false, cond, ◌&&◌}
use mathlib.Core.List.{List, ◌∷◌}
use lib.ListN.{length, get_or}
use lib.Dec.{leb, eqb}
use borrow.Author.Tests.{leb-true, le-leb}
use Rattle.refusal.specs.declared.Refusal.{Refusal}
use Rattle.refusal.specs.Refusal.{no}
use Rattle.std.specs.Prelude.{Ok, Err}
use Rattle.leb128.specs.Leb128.{Read, got, read_at}
use Rattle.leb128.proofs.Spelling.{read_inside}
use Rattle.lists.proofs.Laws.{get_or-tab, and_both}
use Rattle.telegram.specs.declared.field.Part.{Part}
use Rattle.telegram.specs.declared.list.Names.{Names}
use Rattle.telegram.specs.declared.event.Event.{Event}
use Rattle.telegram.specs.declared.head.Head.{Head}
use Rattle.telegram.specs.declared.items.Items.{Items}
use Rattle.telegram.specs.declared.batch.Batch.{Batch}
use Rattle.telegram.specs.declared.since.Since.{Since}
use Rattle.telegram.specs.Fields.{after, number, kind, counted, placed, part, sized, many}
use Rattle.telegram.specs.Reading.{nowhere, names_of, names, list, entries, body, Within, Whole, ended, head, event_form, items_of, items_form, batch_of, batch_form, exception, since_of, since_form}

-- ---- a fact of what a reading got and of the place behind it; where it got nothing, nothing is said

abbrev pub Gives : {A : Type 0} → (A → ℕ → Type 0) → Read A → Type 0
Gives P (Ok g) = P g.value g.next
Gives P (Err k) = Unit

pub gave : {A : Type 0} (P : A → ℕ → Type 0) {g : Read A} {a : A} {next : ℕ} → g ≡ got a next → Gives P g → P a next
gave P e h = rw e at h

gives_any : {A : Type 0} (g : Read A) → Gives (λ a next. Unit) g
gives_any (Ok g) = tt
gives_any (Err k) = tt

gives_after : {A B : Type 0} (Q : A → ℕ → Type 0) (P : B → ℕ → Type 0) (g : Read A) (f : A → ℕ → Read B) → Gives Q g
    → ((a : A) (next : ℕ) → Q a next → Gives P (f a next)) → Gives P (after g f)
gives_after Q P (Ok g) f q h = h g.value g.next q
gives_after Q P (Err k) f q h = tt

-- whatever was got first
gives_then : {A B : Type 0} (P : B → ℕ → Type 0) (g : Read A) (f : A → ℕ → Read B) → ((a : A) (next : ℕ) → Gives P (f a next)) → Gives P (after g f)
gives_then P g f h = gives_after (λ a next. Unit) P g f (gives_any g) (λ a next _. h a next)

gives_if : {A : Type 0} (P : A → ℕ → Type 0) (t : Bool) (a : A) (next : ℕ) (k : Refusal) → (t ≡ true → P a next) → Gives P (cond t (got a next) (Err k))
gives_if P true a next k h = h refl
gives_if P false a next k h = tt

-- ---- fields

number_gives : (s : List ℕ) (at : ℕ) → Gives (λ n next. next ≤ length s) (number s at)
number_gives s at = pick (read_at s at) refl
  where
    pick : (r : Read ℕ) → read_at s at ≡ r → Gives (λ n next. next ≤ length s) r
    pick (Ok g) e = read_inside s at g.value g.next e
    pick (Err k) e = tt

pub record Counted (low high : ℕ) (s : List ℕ) (n next : ℕ) : Type 0 where
  pub least : low ≤ n
  pub most : n ≤ high
  pub inside : next ≤ length s

counted_gives : (low high : ℕ) (s : List ℕ) (at : ℕ) → Gives (Counted low high s) (counted low high s at)
unfolding counted
counted_gives low high s at = gives_after (λ n next. next ≤ length s) (Counted low high s) (number s at) _ (number_gives s at)
    (λ n next h. gives_if (Counted low high s) (leb low n && leb n high) n next (no 4)
    (λ e. let b = and_both (leb low n) (leb n high) e in record { least = leb-true low n b.0; most = leb-true n high b.1; inside = h }))

pub counted_range : (low high : ℕ) (s : List ℕ) (at n next : ℕ) → counted low high s at ≡ got n next → Counted low high s n next
counted_range low high s at n next e = gave (Counted low high s) e (counted_gives low high s at)

pub part-whole : (n : ℕ) (s : List ℕ) (at : ℕ) → at ≤ length s → n ≤ length s - at → part n s at ≡ got (record { start = at; len = n }) (at + n)
unfolding part
part-whole n s at h g = rw (le-leb (at + n) (length s) (omega arith))

abbrev Inside : List ℕ → Part → Type 0
Inside s p = p.start + p.len ≤ length s

sized_gives : (low high : ℕ) (s : List ℕ) (at : ℕ) → Gives (λ p next. Inside s p) (sized low high s at)
unfolding sized part
sized_gives low high s at = gives_then (λ p next. Inside s p) (counted low high s at) _
    (λ n m. gives_if (λ p next. Inside s p) (leb (m + n) (length s)) (record { start = m; len = n }) (m + n) (no 1) (leb-true (m + n) (length s)))

-- ---- several things

record Each {A : Type 0} (P : A → Type 0) (n : ℕ) (l : List A) : Type 0 where
  long : length l ≡ n
  each : (d : A) (i : ℕ) → i < n → P (get_or l i d)

each_more : {A : Type 0} (P : A → Type 0) (n : ℕ) (a : A) (l : List A) → P a → Each P n l → Each P (suc n) (a ∷ l)
each_more {A} P n a l p E = record { long = ap suc E.long; each = place }
  where
    place : (d : A) (i : ℕ) → i < suc n → P (get_or (a ∷ l) i d)
    place d zero lt = p
    place d (suc i) lt = E.each d i (omega arith)

many_gives : {A : Type 0} (P : A → Type 0) (f : ℕ → Read A) → ((at : ℕ) → Gives (λ a next. P a) (f at)) → (n at : ℕ) → Gives (λ l next. Each P n l) (many n f at)
unfolding many
many_gives P f h zero at = record { long = refl; each = λ d i lt. absurd (omega arith) }
many_gives P f h (suc n) at = gives_after (λ a next. P a) (λ l next. Each P (suc n) l) (f at) _ (h at)
    (λ a m p. gives_after (λ l next. Each P n l) (λ l next. Each P (suc n) l) (many n f m) _ (many_gives P f h n m) (λ l next E. each_more P n a l p E))

-- ---- the names of a list lie inside the bytes, whatever the list was read with

within_names : (s : List ℕ) (n : ℕ) (l : List Part) → n ≤ 16 → Each (Inside s) n l → Within s (names_of l)
within_names s n l h E = record {
  few = omega (arith, E.long);
  inside = λ i lt. rw (get_or-tab nowhere 16 (λ j. get_or l j nowhere) i (omega (arith, E.long))) (E.each nowhere i (omega (arith, E.long)));
}

list_gives : (s : List ℕ) (at : ℕ) → Gives (λ l next. Within s l) (list s at)
unfolding list names
list_gives s at = gives_after (Counted 1 16 s) (λ l next. Within s l) (counted 1 16 s at) _ (counted_gives 1 16 s at)
    (λ n m c. gives_after (λ l next. Each (Inside s) n l) (λ l next. Within s l) (many n (sized 1 16 s) m) _ (many_gives (Inside s) (sized 1 16 s) (sized_gives 1 16 s) n m)
    (λ l next E. within_names s n l c.most E))

head_gives : (k : ℕ) (s : List ℕ) → Gives (λ (h : Head) next. Within s h.names) (head k s)
unfolding head
head_gives k s = gives_then P (kind k s 0) _ (λ _ a.
    gives_after (λ l next. Within s l) P (list s a) _ (list_gives s a) (λ l b w.
    gives_then P (placed l.count s b) _ (λ sender c.
    gives_then P (entries l.count s c) _ (λ version next. w))))
  where
    P : Head → ℕ → Type 0
    P h next = Within s h.names

-- a fact of a whole telegram
abbrev Holds : {A : Type 0} → (A → Type 0) → Whole A → Type 0
Holds P (Ok a) = P a
Holds P (Err k) = Unit

ended-holds : {A B : Type 0} (P : B → Type 0) (s : List ℕ) (g : Read A) (f : A → ℕ → Read B) → Gives (λ b next. P b) (after g f) → Holds P (ended s (after g f))
ended-holds {A} {B} P s g f = pick (after g f)
  where
    test : (t : Bool) (b : B) → P b → Holds P (cond t (Ok b) (Err (no 5)))
    test true b h = h
    test false b h = tt

    pick : (r : Read B) → Gives (λ b next. P b) r → Holds P (ended s r)
    pick (Ok g) h = test (eqb g.next (length s)) g.value h
    pick (Err k) h = tt

held : {A : Type 0} (P : A → Type 0) {w : Whole A} {a : A} → w ≡ Ok a → Holds P w → P a
held P e h = rw e at h

event-holds : (s : List ℕ) → Holds (λ (e : Event). Within s e.names) (event_form s)
unfolding event_form
event-holds s = ended-holds (λ (e : Event). Within s e.names) s (kind 1 s 0) _ (gives_then P (kind 1 s 0) _ (λ _ a.
    gives_after (λ l next. Within s l) P (list s a) _ (list_gives s a) (λ l b w.
    gives_then P (body l.count s b) _ (λ e next. w))))
  where
    P : Event → ℕ → Type 0
    P e next = Within s e.names

-- whatever is made of a head, a count and a place
items-holds : {A B : Type 0} (k limit : ℕ) (f : ℕ → List ℕ → ℕ → Read A) (make : Head → ℕ → ℕ → B) (P : B → Type 0) (s : List ℕ)
    → ((h : Head) (count start : ℕ) → Within s h.names → P (make h count start)) → Holds P (items_form k limit f make s)
items-holds k limit f make P s q =
    ended-holds P s (head k s) _ (gives_after (λ (h : Head) next. Within s h.names) (λ b next. P b) (head k s) _ (head_gives k s) (λ h a w.
    gives_then (λ b next. P b) (counted 0 limit s a) _ (λ count b.
    gives_then (λ b next. P b) (many count (f h.names.count s) b) _ (λ _ next. q h count b w))))

-- ---- the names that an answer holds

pub list-names : (s : List ℕ) (at : ℕ) (l : Names) (next : ℕ) → list s at ≡ got l next → Within s l
list-names s at l next e = gave (λ l next. Within s l) e (list_gives s at)

pub head-names : (k : ℕ) (s : List ℕ) (h : Head) (next : ℕ) → head k s ≡ got h next → Within s h.names
head-names k s h next e = gave (λ (h : Head) next. Within s h.names) e (head_gives k s)

pub event-names : (s : List ℕ) (e : Event) → event_form s ≡ Ok e → Within s e.names
event-names s e h = held (λ (e : Event). Within s e.names) h (event-holds s)

pub items-names : {A : Type 0} (k limit : ℕ) (f : ℕ → List ℕ → ℕ → Read A) (s : List ℕ) (i : Items) → items_form k limit f items_of s ≡ Ok i → Within s i.head.names
items-names k limit f s i h =
    held (λ (i : Items). Within s i.head.names) h (items-holds k limit f items_of (λ (i : Items). Within s i.head.names) s (λ h count start w. w))

pub batch-names : (s : List ℕ) (b : Batch) → batch_form s ≡ Ok b → Within s b.head.names
unfolding batch_form
batch-names s b h = held (λ (b : Batch). Within s b.head.names) h (items-holds 2 256 body batch_of (λ (b : Batch). Within s b.head.names) s (λ h count start w. w))

pub since-names : (s : List ℕ) (r : Since) → since_form s ≡ Ok r → Within s r.head.names
unfolding since_form
since-names s r h = held (λ (r : Since). Within s r.head.names) h (items-holds 3 64 exception since_of (λ (r : Since). Within s r.head.names) s (λ h count start w. w))
