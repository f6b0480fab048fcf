-- A telegram has one spelling: no two have the same bytes, and what is accepted is what its meaning is spelt by. Assumes nothing.
use mathlib.Core.Path.{◌≡◌, refl, sym, ap, ◌∙◌, subst}
use mathlib.Core.Bool.{true}
use mathlib.Core.List.Memᴰ
use mathlib.Core.List.{List, [], ◌∷◌, ◌++◌, map}
use Prim.Native.Nat.{ℕ, ◌≤◌}
use native.Mathlib.Omega.{arith}
use lib.ListN.{length, get_or, length-map}
use borrow.Author.Tests.{le-leb, lt-ltb}
use Rattle.std.specs.Prelude.{Ok}
use Rattle.refusal.specs.Refusal.{then}
use Rattle.lists.specs.Lists.{joined}
use Rattle.lists.proofs.Joined.{Each, joined-map}
use Rattle.lists.proofs.Stands.{stand_join, stand_only}
use Rattle.leb128.specs.Leb128.{Read, got, groups}
use Rattle.leb128.proofs.Spelling.{Bytes}
use Rattle.telegram.specs.Fields.{kind, counted, many}
use Rattle.telegram.specs.Reading.{Whole, list, body, head, exception, texts, fair, event_form, batch_form, since_form, event, batch, since}
use Rattle.telegram.specs.Meaning.{EventBody, EventTelegram, BatchTelegram, SinceTelegram, Telegram, an_event, a_batch, a_since, Good, bytes_of, body_of, heading_of, event_of, list_bytes, body_bytes, head_bytes, exception_bytes, event_bytes, batch_bytes, since_bytes, event_told, batch_told, since_told, GoodHeading, GoodException, GoodEvent, GoodBatch, GoodSince}
use Rattle.telegram.specs.Writing.{list_spelt, body_spelt, event_spelt, head_spelt, exception_spelt}
use Rattle.telegram.specs.declared.list.Names.{Names}
use Rattle.telegram.specs.declared.body.Body.{Body}
use Rattle.telegram.specs.declared.event.Event.{Event}
use Rattle.telegram.specs.declared.head.Head.{Head}
use Rattle.telegram.specs.declared.batch.Batch.{Batch}
use Rattle.telegram.specs.declared.since.Exception.{Exception}
use Rattle.telegram.specs.declared.since.Since.{Since}
use Rattle.telegram.proofs.Filled.{count-texts}
use Rattle.telegram.proofs.Steps.{got_carry, whole_same, after_is, then_is, ended_is, fairly-is}
use Rattle.telegram.proofs.Parts.{ListIs, part_fits_lem, list_fits_lem}
use Rattle.telegram.proofs.Accepted.{BodyIs, HeadIs, Carries, list-good, kind-is, list-is, body_is, exception-is, carries}
use Rattle.telegram.proofs.RoundTrip.{event_read_back, batch_read_back, since_read_back}

-- ---- two telegrams

-- the first byte is the kind
abbrev kind_of : Telegram → ℕ
kind_of (an_event t) = 1
kind_of (a_batch t) = 2
kind_of (a_since t) = 3

first_byte : (t : Telegram) → get_or (bytes_of t) 0 0 ≡ kind_of t
unfolding event_bytes batch_bytes since_bytes head_bytes groups
first_byte (an_event t) = refl
first_byte (a_batch t) = refl
first_byte (a_since t) = refl

one_kind : (t u : Telegram) → bytes_of t ≡ bytes_of u → kind_of t ≡ kind_of u
one_kind t u e = sym (first_byte t) ∙ (ap (λ (b : List ℕ). get_or b 0 0) e ∙ first_byte u)

-- two telegrams never have the same bytes
pub one_spelling : (t u : Telegram) → Good t → Good u → bytes_of t ≡ bytes_of u → t ≡ u
one_spelling (an_event t) (an_event u) g h e = ap an_event (whole_same (sym (event_read_back t g) ∙ (ap event_told e ∙ event_read_back u h)))
one_spelling (an_event t) (a_batch u) g h e = absurd (omega (arith, one_kind (an_event t) (a_batch u) e))
one_spelling (an_event t) (a_since u) g h e = absurd (omega (arith, one_kind (an_event t) (a_since u) e))
one_spelling (a_batch t) (an_event u) g h e = absurd (omega (arith, one_kind (a_batch t) (an_event u) e))
one_spelling (a_batch t) (a_batch u) g h e = ap a_batch (whole_same (sym (batch_read_back t g) ∙ (ap batch_told e ∙ batch_read_back u h)))
one_spelling (a_batch t) (a_since u) g h e = absurd (omega (arith, one_kind (a_batch t) (a_since u) e))
one_spelling (a_since t) (an_event u) g h e = absurd (omega (arith, one_kind (a_since t) (an_event u) e))
one_spelling (a_since t) (a_batch u) g h e = absurd (omega (arith, one_kind (a_since t) (a_batch u) e))
one_spelling (a_since t) (a_since u) g h e = ap a_since (whole_same (sym (since_read_back t g) ∙ (ap since_told e ∙ since_read_back u h)))

-- ---- what an accepted telegram is

record EventIs (s : List ℕ) (e : Event) : Type 0 where
  list : ListIs s e.names
  body : BodyIs s e.names.count e.body
  same : s ≡ event_bytes (event_of s e)

abbrev BatchIs : List ℕ → Batch → Type 0
BatchIs s b = Carries s 2 256 (λ count. body count s) (λ count x. body_bytes (body_of count s x)) (BodyIs s) b.head b.count b.bodies

abbrev SinceIs : List ℕ → Since → Type 0
SinceIs s r = Carries s 3 64 (λ count. exception count s) (λ count x. exception_bytes x) GoodException r.head r.count r.exceptions

module _ {s : List ℕ} (bytes : Bytes s) where
  event-is : (e : Event) → event_form s ≡ Ok e → EventIs s e
  unfolding event_form event_bytes
  event-is e h =
      after_is (kind 1 s 0) _ (ended_is s _ h) (λ n a ek e1.
      after_is (list s a) _ e1 (λ l b el e2.
      after_is (body l.count s b) _ e2 (λ x end eb eq.
      let k = kind-is bytes 1 0 n a ek in
      let m = list-is bytes a l b el in
      let y = body_is bytes l.count m.fit.few b x end eb in
      got_carry (λ e next. next ≡ length s → EventIs s e) eq
      (λ z. record { list = m.fit; body = y.fit; same = stand_only (rw z at (stand_join k (stand_join m.stands y.stands))) })
      refl)))

  batch-is : (b : Batch) → batch_form s ≡ Ok b → BatchIs s b
  unfolding batch_form
  batch-is b h =
      after_is (head 2 s) _ (ended_is s _ h) (λ x mid eh e1.
      after_is (counted 0 256 s mid) _ e1 (λ count start ec e2.
      after_is (many count (body x.names.count s) start) _ e2 (λ items end em eq.
      got_carry (λ b next. next ≡ length s → BatchIs s b) eq
      (λ z.
      carries bytes 2 256 (λ count. body count s) (λ count x. body_bytes (body_of count s x)) (BodyIs s) (body_is bytes) x mid count start items eh ec (rw z at em))
      refl)))

  since-is : (r : Since) → since_form s ≡ Ok r → SinceIs s r
  unfolding since_form
  since-is r h =
      after_is (head 3 s) _ (ended_is s _ h) (λ x mid eh e1.
      after_is (counted 0 64 s mid) _ e1 (λ count start ec e2.
      after_is (many count (exception x.names.count s) start) _ e2 (λ items end em eq.
      got_carry (λ r next. next ≡ length s → SinceIs s r) eq
      (λ z.
      carries bytes 3 64 (λ count. exception count s) (λ count x. exception_bytes x) GoodException (λ count few. exception-is bytes count) x mid count start items eh ec
      (rw z at em))
      refl)))

-- ---- an accepted telegram is what its meaning is spelt by

pub heading-good : (s : List ℕ) (h : Head) → HeadIs s h → fair (texts s h.names) ≡ true → GoodHeading (heading_of s h)
heading-good s h g e =
    let c = count-texts s h.names in
    record { list = list-good g.list e; listed = rw c g.listed; version = rw c g.version }

pub event_accepted : (s : List ℕ) (t : EventTelegram) → Bytes s → event_told s ≡ Ok t → (s ≡ event_bytes t) × GoodEvent t
unfolding event_told
event_accepted s t bytes h =
    then_is (event s) _ h (λ e he ht.
    let f = fairly-is s (λ (e : Event). e.names) (event_form s) he in
    let i = event-is bytes e f.0 in
    subst (λ t. (s ≡ event_bytes t) × GoodEvent t) (whole_same ht)
    (i.same, record { list = list-good i.list f.1; body = rw (count-texts s e.names) i.body.good }))

pub batch_accepted : (s : List ℕ) (t : BatchTelegram) → Bytes s → batch_told s ≡ Ok t → (s ≡ batch_bytes t) × GoodBatch t
unfolding batch_told batch_bytes
batch_accepted s t bytes h =
    then_is (batch s) _ h (λ b hb h1.
    let f = fairly-is s (λ (b : Batch). b.head.names) (batch_form s) hb in
    let i = batch-is bytes b f.0 in
    let n = b.head.names.count in
    let says : Body → EventBody = body_of n s in
    let l : length (map says i.items) ≡ b.count = length-map i.items says ∙ i.counted in
    subst (λ t. (s ≡ batch_bytes t) × GoodBatch t) (whole_same (rw i.reads at h1)) (
      i.same ∙ rw (l, joined-map body_bytes says i.items),
      record {
        heading = heading-good s b.head i.heads f.1;
        few = omega (arith, l, i.few);
        bodies = λ x m. let o = Memᴰ.of_map says i.items m in rw (count-texts s b.head.names, ← o.2) (i.fit o.0 o.1).good;
      },
    ))

pub since_accepted : (s : List ℕ) (t : SinceTelegram) → Bytes s → since_told s ≡ Ok t → (s ≡ since_bytes t) × GoodSince t
unfolding since_told since_bytes
since_accepted s t bytes h =
    then_is (since s) _ h (λ r hr h1.
    let f = fairly-is s (λ (r : Since). r.head.names) (since_form s) hr in
    let i = since-is bytes r f.0 in
    subst (λ t. (s ≡ since_bytes t) × GoodSince t) (whole_same (rw i.reads at h1)) (
      i.same ∙ rw i.counted,
      record {
        heading = heading-good s r.head i.heads f.1;
        few = omega (arith, i.counted, i.few);
        exceptions = λ x m. rw (count-texts s r.head.names) (i.fit x m);
      },
    ))

-- ---- what is written of an accepted telegram is that telegram

-- several things, one behind the other, or the first refusal
unfoldable pub all_spelt : {A : Type 0} → (A → Whole (List ℕ)) → List A → Whole (List ℕ)
all_spelt f [] = Ok []
all_spelt f (a ∷ l) = then (f a) (λ x. then (all_spelt f l) (λ rest. Ok (x ++ rest)))

-- a head, then so many things behind it
abbrev pub head_then : {A : Type 0} → Whole (List ℕ) → (A → Whole (List ℕ)) → List A → Whole (List ℕ)
head_then h f l = then h (λ start. then (all_spelt f l) (λ rest. Ok (start ++ rest)))

all_spelt_lem : {A : Type 0} (f : A → Whole (List ℕ)) (g : A → List ℕ) (l : List A) → Each (λ a. f a ≡ Ok (g a)) l → all_spelt f l ≡ Ok (joined g l)
unfolding all_spelt joined
all_spelt_lem f g [] h = refl
all_spelt_lem f g (a ∷ l) h = rw (h a (Memᴰ.head refl), all_spelt_lem f g l (λ x m. h x (Memᴰ.tail m)))

list_spelt_lem : (s : List ℕ) (l : Names) → ListIs s l → list_spelt s l ≡ Ok (list_bytes (texts s l))
unfolding list_spelt
list_spelt_lem s l h = rw (list_fits_lem h)

body_spelt_lem : (s : List ℕ) (count : ℕ) (b : Body) → count ≤ 16 → BodyIs s count b → body_spelt count s b ≡ Ok (body_bytes (body_of count s b))
unfolding body_spelt
body_spelt_lem s count b few h = rw (le-leb count 16 few, lt-ltb b.place.0 count h.good.listed, part_fits_lem h.operation)

exception_spelt_lem : (count : ℕ) (e : Exception) → count ≤ 16 → GoodException count e → exception_spelt count e ≡ Ok (exception_bytes e)
unfolding exception_spelt
exception_spelt_lem count e few h = rw (le-leb count 16 few, lt-ltb e.place.0 count h.listed)

head_spelt_lem : (s : List ℕ) (k limit : ℕ) (h : Head) (count : ℕ) → HeadIs s h → count ≤ limit → head_spelt k limit s h count ≡ Ok (head_bytes k (heading_of s h) count)
unfolding head_spelt
head_spelt_lem s k limit h count g few = rw (list_fits_lem g.list, lt-ltb h.sender.0 h.names.count g.listed, le-leb count limit few)

pub event_rewritten : (s : List ℕ) (e : Event) → Bytes s → event s ≡ Ok e → event_spelt s e.names s e.body ≡ Ok s
unfolding event_spelt event_bytes
event_rewritten s e bytes h =
    let i = event-is bytes e (fairly-is s (λ (e : Event). e.names) (event_form s) h).0 in
    rw (list_spelt_lem s e.names i.list, body_spelt_lem s e.names.count e.body i.list.few i.body) (ap Ok (sym i.same))

-- the things that stand behind a head are read, and head and things are written as the telegram that they were read from
pub record Rewritten {A : Type 0} (s : List ℕ) (reads : Read (List A)) (head : Whole (List ℕ)) (spelt : A → Whole (List ℕ)) : Type 0 where
  pub items : List A
  pub read : reads ≡ got items (length s)
  pub written : head_then head spelt items ≡ Ok s

pub batch_rewritten : (s : List ℕ) (b : Batch) → Bytes s → batch s ≡ Ok b
    → Rewritten s (many b.count (body b.head.names.count s) b.bodies) (head_spelt 2 256 s b.head b.count) (body_spelt b.head.names.count s)
batch_rewritten s b bytes h =
    let i = batch-is bytes b (fairly-is s (λ (b : Batch). b.head.names) (batch_form s) h).0 in
    let n = b.head.names.count in
    record {
      items = i.items;
      read = i.reads;
      written =
          rw (
            head_spelt_lem s 2 256 b.head b.count i.heads i.few,
            all_spelt_lem (body_spelt n s) (λ x. body_bytes (body_of n s x)) i.items (λ x m. body_spelt_lem s n x i.heads.list.few (i.fit x m)),
          )
          (ap Ok (sym i.same));
    }

pub since_rewritten : (s : List ℕ) (r : Since) → Bytes s → since s ≡ Ok r
    → Rewritten s (many r.count (exception r.head.names.count s) r.exceptions) (head_spelt 3 64 s r.head r.count) (exception_spelt r.head.names.count)
since_rewritten s r bytes h =
    let i = since-is bytes r (fairly-is s (λ (r : Since). r.head.names) (since_form s) h).0 in
    let n = r.head.names.count in
    record {
      items = i.items;
      read = i.reads;
      written =
          rw (
            head_spelt_lem s 3 64 r.head r.count i.heads i.few,
            all_spelt_lem (exception_spelt n) exception_bytes i.items (λ x m. exception_spelt_lem n x i.heads.list.few (i.fit x m)),
          )
          (ap Ok (sym i.same));
    }
