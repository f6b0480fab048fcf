-- What a telegram that is read holds, whatever its bytes: places, numbers and lengths within their ranges. Assumes nothing.
use mathlib.Core.Path.{◌≡◌, refl}
use mathlib.Core.Bool.{Bool, true, false, cond, ◌||◌}
use mathlib.Core.List.{List}
use mathlib.Core.Logic.{⊎_elim}
use Prim.Native.Nat.{ℕ, zero, suc, ◌+◌, ◌≤◌, ◌<◌}
use native.Mathlib.Omega.{arith}
use lib.ListN.{length, get_or, get_or-eq_default}
use lib.Dec.{leb, ltb}
use borrow.Author.Tests.{ltb-true, ltb-false}
use Rattle.refusal.specs.Refusal.{no}
use Rattle.lists.specs.Lists.{at}
use Rattle.lists.proofs.Cases.{split}
use Rattle.lists.proofs.Laws.{length-tab, get_or-tab}
use Rattle.lists.proofs.Joined.{Each, each_none, each_more}
use Rattle.leb128.specs.Leb128.{last_number, value_of, closed, padded, field_read}
use Rattle.telegram.specs.Fields.{number, kind, counted, placed, part, sized, many}
use Rattle.telegram.specs.Reading.{filled, list, entries, body, head, exception, texts, fair, event_form, batch_form, since_form, event, batch, since}
use Rattle.telegram.specs.declared.field.Part.{Part}
use Rattle.telegram.specs.declared.list.Names.{Names}
use Rattle.telegram.specs.declared.body.Body.{Body}
use Rattle.telegram.specs.declared.event.Event.{Event}
use Rattle.telegram.specs.declared.head.Head.{Head}
use Rattle.telegram.specs.declared.batch.Batch.{Batch}
use Rattle.telegram.specs.declared.since.Since.{Since}
use Rattle.telegram.proofs.Steps.{got_carry, after_is, if_got, judged-is, ended_is, fairly-is}
use Rattle.telegram.proofs.Inside.{counted_range, event-names, batch-names, since-names}
use Rattle.telegram.proofs.Accepted.{each-or-none}
use Rattle.std.specs.Prelude.{Ok, Err}
use Rattle.leb128.specs.Leb128.{Read, got}
use Rattle.leb128.proofs.Gots.{got_value}

-- ---- numbers

-- a field that is read isn't too large
field_most : (f : List ℕ) (at n next : ℕ) → field_read f at ≡ got n next → n ≤ last_number
unfolding field_read
field_most f at n next = go (closed f) (ltb last_number (value_of f)) (padded f) (ltb (length f) 5) (ltb-false last_number (value_of f))
  where
    go : (c t p u : Bool) → (t ≡ false → value_of f ≤ last_number)
        → cond c (cond (t || p) (Err (no 2)) (got (value_of f) (at + length f))) (cond u (Err (no 1)) (Err (no 2))) ≡ got n next
        → n ≤ last_number
    go true true p u h e = absurd (let z : ◌≡◌ {A = ℕ} 0 1 = cc in omega arith)
    go true false true u h e = absurd (let z : ◌≡◌ {A = ℕ} 0 1 = cc in omega arith)
    go true false false u h e = let q : value_of f ≡ n = got_value e in omega (arith, h refl)
    go false t p true h e = absurd (let z : ◌≡◌ {A = ℕ} 0 1 = cc in omega arith)
    go false t p false h e = absurd (let z : ◌≡◌ {A = ℕ} 0 1 = cc in omega arith)

number_most : (s : List ℕ) (at n next : ℕ) → number s at ≡ got n next → n ≤ last_number
number_most s at n next e = field_most _ at n next e

placed_below : (count : ℕ) (s : List ℕ) (at n next : ℕ) → placed count s at ≡ got n next → n < count
unfolding placed
placed_below count s at n next e = ltb-true n count (judged-is (no 9) (λ n. ltb n count) (number s at) n next e).0

-- ---- several things

many-each : {A : Type 0} (P : A → Type 0) (f : ℕ → Read A) → ((at : ℕ) (a : A) (next : ℕ) → f at ≡ got a next → P a) → (k at : ℕ) (l : List A) (next : ℕ)
    → many k f at ≡ got l next → Each P l
unfolding many
many-each P f h zero at l next e = got_carry (λ l next. Each P l) e (each_none P)
many-each P f h (suc k) at l next e =
    after_is (f at) _ e (λ a mid ea el.
    after_is (many k f mid) _ el (λ rest end er eq.
    got_carry (λ l next. Each P l) eq (each_more P a rest (h at a mid ea) (many-each P f h k mid rest end er))))

-- ---- event bodies

-- sixteen places that hold a list, and 0 behind it
filled_most : (l : List ℕ) → Each (λ n. n ≤ last_number) l → (j : ℕ) → at (filled 0 l) j ≤ last_number
filled_most l h j =
    ⊎_elim (λ lt. omega (arith, get_or-tab 0 16 (λ j. get_or l j 0) j lt, each-or-none l h j))
    (λ le. omega (arith, get_or-eq_default (filled 0 l) 0 {n = j} (omega (arith, length-tab 16 (λ j. get_or l j 0)))))
    (split j 16)

entries_most : (count : ℕ) (s : List ℕ) (from : ℕ) (v : List ℕ) (next : ℕ) → entries count s from ≡ got v next → (j : ℕ) → at v j ≤ last_number
unfolding entries
entries_most count s from v next e =
    after_is (many count (number s) from) _ e (λ l end em eq.
    got_carry (λ (v : List ℕ) next. (j : ℕ) → at v j ≤ last_number) eq
    (filled_most l (many-each (λ n. n ≤ last_number) (number s) (number_most s) count from l end em)))

part_len : (n : ℕ) (s : List ℕ) (at : ℕ) (p : Part) (next : ℕ) → part n s at ≡ got p next → p.len ≡ n
unfolding part
part_len n s at p next e =
    got_carry (λ (p : Part) next. p.len ≡ n) (if_got (leb (at + n) (length s)) (got (record { start = at; len = n }) (at + n)) (no 1) e).1 refl

sized_most : (low high : ℕ) (s : List ℕ) (at : ℕ) (p : Part) (next : ℕ) → sized low high s at ≡ got p next → p.len ≤ high
unfolding sized
sized_most low high s at p next e =
    after_is (counted low high s at) _ e (λ n mid ec ep. omega (arith, (counted_range low high s at n mid ec).most, part_len n s mid p next ep))

-- what is read as a body of a list of so many names
pub record BodyHeard (count : ℕ) (b : Body) : Type 0 where
  pub listed : b.place.0 < count
  pub numbers : (j : ℕ) → at b.entries j ≤ last_number
  pub short : b.operation.len ≤ 32

pub body_heard : (count : ℕ) (s : List ℕ) (at : ℕ) (b : Body) (next : ℕ) → body count s at ≡ got b next → BodyHeard count b
unfolding body
body_heard count s at b next e =
    after_is (placed count s at) _ e (λ place a ep e1.
    after_is (number s a) _ e1 (λ number c en e2.
    after_is (entries count s c) _ e2 (λ version d ev e3.
    after_is (sized 0 32 s d) _ e3 (λ operation end eo eq.
    got_carry (λ b next. BodyHeard count b) eq
    (record { listed = placed_below count s at place a ep; numbers = entries_most count s c version d ev; short = sized_most 0 32 s d operation end eo })))))

pub bodies_heard : (count : ℕ) (s : List ℕ) (k at : ℕ) (l : List Body) (next : ℕ) → many k (body count s) at ≡ got l next → Each (BodyHeard count) l
bodies_heard count s = many-each (BodyHeard count) (body count s) (body_heard count s)

-- ---- whole telegrams

-- a list and a place of it
pub record ListHeard (s : List ℕ) (l : Names) (place : ℕ) : Type 0 where
  pub few : l.count ≤ 16
  pub distinct : fair (texts s l) ≡ true
  pub listed : place < l.count

head-listed : (k : ℕ) (s : List ℕ) (h : Head) (next : ℕ) → head k s ≡ got h next → h.sender.0 < h.names.count
unfolding head
head-listed k s h next e =
    after_is (kind k s 0) _ e (λ _ a ek e1.
    after_is (list s a) _ e1 (λ l b el e2.
    after_is (placed l.count s b) _ e2 (λ sender c ep e3.
    after_is (entries l.count s c) _ e3 (λ version end ev eq.
    got_carry (λ (h : Head) next. h.sender.0 < h.names.count) eq (placed_below l.count s b sender c ep)))))

event-body : (s : List ℕ) (t : Event) → event_form s ≡ Ok t → BodyHeard t.names.count t.body
unfolding event_form
event-body s t h =
    after_is (kind 1 s 0) _ (ended_is s _ h) (λ _ a ek e1.
    after_is (list s a) _ e1 (λ l b el e2.
    after_is (body l.count s b) _ e2 (λ x end eb eq.
    got_carry (λ (t : Event) next. BodyHeard t.names.count t.body) eq (body_heard l.count s b x end eb))))

batch-listed : (s : List ℕ) (t : Batch) → batch_form s ≡ Ok t → t.head.sender.0 < t.head.names.count
unfolding batch_form
batch-listed s t h =
    after_is (head 2 s) _ (ended_is s _ h) (λ x mid eh e1.
    after_is (counted 0 256 s mid) _ e1 (λ count start ec e2.
    after_is (many count (body x.names.count s) start) _ e2 (λ items end em eq.
    got_carry (λ (t : Batch) next. t.head.sender.0 < t.head.names.count) eq (head-listed 2 s x mid eh))))

since-listed : (s : List ℕ) (t : Since) → since_form s ≡ Ok t → t.head.sender.0 < t.head.names.count
unfolding since_form
since-listed s t h =
    after_is (head 3 s) _ (ended_is s _ h) (λ x mid eh e1.
    after_is (counted 0 64 s mid) _ e1 (λ count start ec e2.
    after_is (many count (exception x.names.count s) start) _ e2 (λ items end em eq.
    got_carry (λ (t : Since) next. t.head.sender.0 < t.head.names.count) eq (head-listed 3 s x mid eh))))

pub event_heard : (s : List ℕ) (t : Event) → event s ≡ Ok t → ListHeard s t.names t.body.place.0 × BodyHeard t.names.count t.body
event_heard s t e =
    let f = fairly-is s (λ (t : Event). t.names) (event_form s) e in
    let b = event-body s t f.0 in
    (record { few = (event-names s t f.0).few; distinct = f.1; listed = b.listed }, b)

pub batch_heard : (s : List ℕ) (t : Batch) → batch s ≡ Ok t → ListHeard s t.head.names t.head.sender.0
batch_heard s t e =
    let f = fairly-is s (λ (t : Batch). t.head.names) (batch_form s) e in
    record { few = (batch-names s t f.0).few; distinct = f.1; listed = batch-listed s t f.0 }

pub since_heard : (s : List ℕ) (t : Since) → since s ≡ Ok t → ListHeard s t.head.names t.head.sender.0
since_heard s t e =
    let f = fairly-is s (λ (t : Since). t.head.names) (since_form s) e in
    record { few = (since-names s t f.0).few; distinct = f.1; listed = since-listed s t f.0 }
