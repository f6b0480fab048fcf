-- Telegrams as they are read, from document 01's section Telegrams. Bytes are answered as parts of the telegram. Assumes nothing.
use Rattle.std.specs.Prelude.{ℕ, ◌+◌, ◌≤◌, ◌<◌, Bool, cond, not, ◌&&◌, Result, Ok, Err, List, [], length, get_or, leb, eqb}
use Rattle.refusal.specs.declared.Refusal.{Refusal}
use Rattle.refusal.specs.Refusal.{no, then}
use Rattle.lists.specs.Lists.{at, tab, all}
use Rattle.leb128.specs.Leb128.{Read, got}
use Rattle.telegram.specs.Fields.{after, number, kind, counted, placed, sized, text, many}
use Rattle.telegram.specs.declared.field.Part.{Part}
use Rattle.telegram.specs.declared.list.Names.{Names}
use Rattle.telegram.specs.declared.body.Body.{Body}
use Rattle.telegram.specs.declared.event.Event.{Event}
use Rattle.telegram.specs.declared.head.Head.{Head}
use Rattle.telegram.specs.declared.items.Items.{Items}
use Rattle.telegram.specs.declared.batch.Batch.{Batch}
use Rattle.telegram.specs.declared.since.Exception.{Exception}
use Rattle.telegram.specs.declared.since.Since.{Since}

-- ---- a list: count 1 to 16, then each name as length and bytes

-- sixteen places, of which a list fills the first
abbrev pub filled : {A : Type 0} → A → List A → List A
filled d l = tab 16 (λ j. get_or l j d)

abbrev pub nowhere : Part
nowhere = record { start = 0; len = 0 }

abbrev pub names_of : List Part → Names
names_of l = record { count = length l; parts = filled nowhere l }

abbrev pub no_names : Names
no_names = names_of []

unfoldable pub names : ℕ → List ℕ → ℕ → Read Names
names count s at = after (many count (sized 1 16 s) at) (λ l next. got (names_of l) next)

unfoldable pub list : List ℕ → ℕ → Read Names
list s at = after (counted 1 16 s at) (λ count next. names count s next)

-- ---- an event body: origin's place in that list, number, one version entry per listed name, operation length, operation

-- a member that isn't listed has entry 0
unfoldable pub entries : ℕ → List ℕ → ℕ → Read (List ℕ)
entries count s at = after (many count (number s) at) (λ l next. got (filled 0 l) next)

abbrev pub body_rest : ℕ → List ℕ → ℕ → ℕ → ℕ → Read Body
body_rest count s at place n =
    after (entries count s at) (λ version c.
    after (sized 0 32 s c) (λ operation next.
    got (record { place = record { 0 = place }; number = n; entries = version; operation = operation }) next))

unfoldable pub body : ℕ → List ℕ → ℕ → Read Body
body count s at = after (placed count s at) (λ place a. after (number s a) (λ n b. body_rest count s b place n))

-- a body by itself: 4 where its list would have more than 16 names
abbrev pub body_at : ℕ → List ℕ → ℕ → Read Body
body_at count s at = cond (leb count 16) (body count s at) (Err (no 4))

-- ---- a whole telegram: its fields, then 5 where bytes follow, then 6 over the whole list

abbrev pub Whole : Type 0 → Type 0
Whole A = Result A Refusal

abbrev pub ended : {A : Type 0} → List ℕ → Read A → Whole A
ended s (Ok g) = cond (eqb g.next (length s)) (Ok g.value) (Err (no 5))
ended s (Err k) = Err k

-- the names of a list as bytes
unfoldable pub texts : List ℕ → Names → List (List ℕ)
texts s l = tab l.count (λ i. text s (get_or l.parts i nowhere))

-- at most sixteen names, each a part of the bytes
pub record Within (s : List ℕ) (l : Names) : Type 0 where
  pub few : l.count ≤ 16
  pub inside : (i : ℕ) → i < l.count → (get_or l.parts i nowhere).start + (get_or l.parts i nowhere).len ≤ length s

-- each byte 0x21 to 0x7E
unfoldable pub fair_bytes : List ℕ → Bool
fair_bytes t = all (length t) (λ k. leb 33 (at t k) && leb (at t k) 126)

unfoldable pub same_bytes : List ℕ → List ℕ → Bool
same_bytes t u = eqb (length t) (length u) && all (length t) (λ k. eqb (at t k) (at u k))

-- the name at a place has no wrong byte, and no name before it is the same
unfoldable pub fair_at : List (List ℕ) → ℕ → Bool
fair_at l i = fair_bytes (get_or l i []) && all i (λ j. not (same_bytes (get_or l j []) (get_or l i [])))

unfoldable pub fair : List (List ℕ) → Bool
fair l = all (length l) (fair_at l)

abbrev pub fairly : {A : Type 0} → List ℕ → (A → Names) → Whole A → Whole A
fairly s namesIn w = then w (λ a. cond (fair (texts s (namesIn a))) (Ok a) (Err (no 6)))

-- ---- an event: 1, list, event body

unfoldable pub event_form : List ℕ → Whole Event
event_form s =
    ended s
    (after (kind 1 s 0) (λ _ a.
    after (list s a) (λ l b.
    after (body l.count s b) (λ e next.
    got (record { names = l; body = e }) next))))

abbrev pub event : List ℕ → Whole Event
event s = fairly s (λ (e : Event). e.names) (event_form s)

-- ---- what batch and since begin with: kind, list, sender's place, sender's version

abbrev pub head_rest : List ℕ → ℕ → Names → Read Head
head_rest s at l =
    after (placed l.count s at) (λ sender c.
    after (entries l.count s c) (λ version next.
    got (record { names = l; sender = record { 0 = sender }; entries = version }) next))

unfoldable pub head : ℕ → List ℕ → Read Head
head k s = after (kind k s 0) (λ _ a. after (list s a) (λ l b. head_rest s b l))

-- ---- what batch and since share: behind a head a count up to a limit and so many things, of which the place of the first is kept

abbrev pub items_rest : {A B : Type 0} → ℕ → (ℕ → List ℕ → ℕ → Read A) → (Head → ℕ → ℕ → B) → List ℕ → ℕ → Head → Read B
items_rest limit f make s at h =
    after (counted 0 limit s at) (λ count b.
    after (many count (f h.names.count s) b) (λ _ next.
    got (make h count b) next))

-- a telegram of kind k, whose things f reads; what is made of its head, its count and that place
abbrev pub items_form : {A B : Type 0} → ℕ → ℕ → (ℕ → List ℕ → ℕ → Read A) → (Head → ℕ → ℕ → B) → List ℕ → Whole B
items_form k limit f make s = ended s (after (head k s) (λ h a. items_rest limit f make s a h))

abbrev pub items_of : Head → ℕ → ℕ → Items
items_of h count start = record { head = h; count = count; start = start }

-- its form, then its names
abbrev pub items : {A : Type 0} → ℕ → ℕ → (ℕ → List ℕ → ℕ → Read A) → List ℕ → Whole Items
items k limit f s = fairly s (λ (i : Items). i.head.names) (items_form k limit f items_of s)

-- ---- a batch: 2, list, sender's place, sender's version, count, event bodies

abbrev pub batch_of : Head → ℕ → ℕ → Batch
batch_of h count start = record { head = h; count = count; bodies = start }

unfoldable pub batch_form : List ℕ → Whole Batch
batch_form s = items_form 2 256 body batch_of s

abbrev pub batch : List ℕ → Whole Batch
batch s = fairly s (λ (b : Batch). b.head.names) (batch_form s)

-- ---- a since: 3, list, sender's place, sender's version, count, pairs of place and number

unfoldable pub exception : ℕ → List ℕ → ℕ → Read Exception
exception count s at =
    after (placed count s at) (λ place a.
    after (number s a) (λ n next.
    got (record { place = record { 0 = place }; number = n }) next))

abbrev pub since_of : Head → ℕ → ℕ → Since
since_of h count start = record { head = h; count = count; exceptions = start }

unfoldable pub since_form : List ℕ → Whole Since
since_form s = items_form 3 64 exception since_of s

abbrev pub since : List ℕ → Whole Since
since s = fairly s (λ (r : Since). r.head.names) (since_form s)
