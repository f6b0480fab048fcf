-- How long a telegram can be: 393 bytes an event, 30,821 a batch, 740 a since, and each is reached. Assumes nothing.
use mathlib.Core.Path.{◌≡◌, refl, ap, ◌∙◌}
use mathlib.Core.Logic.{⊎_elim}
use mathlib.Core.List.{List, [], ◌++◌}
use Prim.Native.Nat.{ℕ, suc, ◌+◌, ◌*◌, ◌/◌, ◌≤◌, ◌<◌}
use native.Mathlib.Omega.{arith}
use lib.ListN.{length, get_or, replicate, length-append, length-take, length-replicate}
use Rattle.std.specs.Prelude.{Ok}
use Rattle.lists.specs.Lists.{tab, all, chain, joined}
use Rattle.lists.proofs.Cases.{split}
use Rattle.lists.proofs.Laws.{get_or-tab}
use Rattle.lists.proofs.Joined.{at_each, each_same, chain-joined, joined_most, joined_same}
use Rattle.leb128.specs.Leb128.{groups, spell, width_of, last_number}
use Rattle.leb128.proofs.Laws.{width_one, width_more}
use Rattle.leb128.proofs.Spelling.{width_range}
use Rattle.telegram.specs.Reading.{texts, fair, fair_at, fair_bytes, same_bytes}
use Rattle.telegram.specs.Meaning.{EventBody, EventTelegram, BatchTelegram, SinceTelegram, Heading, body_of, heading_of, sized_bytes, list_bytes, version_bytes, body_bytes, head_bytes, exception_bytes, event_bytes, batch_bytes, since_bytes, GoodList, GoodVersion, GoodBody, GoodHeading, GoodException, GoodEvent, GoodBatch, GoodSince}
use Rattle.telegram.specs.Writing.{body_spelt, event_spelt, head_spelt, exception_spelt}
use Rattle.telegram.specs.declared.list.Names.{Names}
use Rattle.telegram.specs.declared.body.Body.{Body}
use Rattle.telegram.specs.declared.head.Head.{Head}
use Rattle.telegram.specs.declared.since.Exception.{Exception}
use Rattle.telegram.proofs.Filled.{count-texts}
use Rattle.telegram.proofs.Parts.{ListIs, length_name, length-text}
use Rattle.telegram.proofs.Accepted.{each-or-none}
use Rattle.telegram.proofs.OneSpelling.{head_then}
use Rattle.telegram.proofs.WrittenRead.{BodyFits, Follows, event_from, event_written, batch_written_lem, since_written}

-- ---- pieces

width_small : (n : ℕ) → n < 128 → width_of n ≡ 1
width_small n h = width_one 4 n h

width_two : (n : ℕ) → n < 16384 → width_of n ≤ 2
width_two n h = ⊎_elim (λ l. omega (arith, width_small n l)) (λ l. omega (arith, width_more 3 n 1 l (width_one 3 (n / 128) (omega arith)))) (split n 128)

sized_most : (b : List ℕ) (most : ℕ) → length b ≤ most → most < 128 → length (sized_bytes b) ≤ suc most
unfolding sized_bytes
sized_most b most h l = omega (arith, length-append (spell (length b)) b, width_small (length b) (omega arith))

-- at most sixteen names of at most sixteen bytes
record ShortList (l : List (List ℕ)) : Type 0 where
  few : length l ≤ 16
  short : (i : ℕ) → i < length l → length (get_or l i []) ≤ 16

list_most : (l : List (List ℕ)) → ShortList l → length (list_bytes l) ≤ 273
unfolding list_bytes
list_most l h =
    let names =
    joined_most sized_bytes 17 l (at_each (λ b. length (sized_bytes b) ≤ 17) [] l (λ i lt. sized_most (get_or l i []) 16 (h.short i lt) (omega arith)))
    in
    rw (chain-joined sized_bytes [] l, length-append (spell (length l)) (joined sized_bytes l)) (omega (arith, h.few, names, width_small (length l) (omega (arith, h.few))))

version_most : (v : List ℕ) → length v ≤ 16 → length (version_bytes v) ≤ 80
unfolding version_bytes
version_most v h = rw (chain-joined spell 0 v) (omega (arith, joined_most spell 5 v (λ n m. (width_range n).1)))

body_most : (b : EventBody) → b.origin < 16 → length b.version ≤ 16 → length b.operation ≤ 32 → length (body_bytes b) ≤ 119
unfolding body_bytes
body_most b h v o =
    rw (
      length-append (spell b.origin) (spell b.number ++ (version_bytes b.version ++ sized_bytes b.operation)),
      length-append (spell b.number) (version_bytes b.version ++ sized_bytes b.operation),
      length-append (version_bytes b.version) (sized_bytes b.operation),
    )
    (omega (arith, width_small b.origin (omega arith), width_range b.number, version_most b.version v, sized_most b.operation 32 o (omega arith)))

exception_most : (e : Exception) → e.place.0 < 16 → length (exception_bytes e) ≤ 6
unfolding exception_bytes
exception_most e h = rw (length-append (spell e.place.0) (spell e.number)) (omega (arith, width_small e.place.0 (omega arith), width_range e.number))

head_most : (k : ℕ) (h : Heading) (count : ℕ) → k < 128 → ShortList h.names → h.sender < 16 → length h.version ≤ 16 → length (head_bytes k h count) ≤ 355 + width_of count
unfolding head_bytes
head_most k h count lk l p v =
    rw (
      length-append (spell k) (list_bytes h.names ++ (spell h.sender ++ (version_bytes h.version ++ spell count))),
      length-append (list_bytes h.names) (spell h.sender ++ (version_bytes h.version ++ spell count)),
      length-append (spell h.sender) (version_bytes h.version ++ spell count),
      length-append (version_bytes h.version) (spell count),
    )
    (omega (arith, width_small k lk, list_most h.names l, width_small h.sender (omega arith), version_most h.version v))

-- ---- good telegrams

good-list : {l : List (List ℕ)} → GoodList l → ShortList l
good-list g = record { few = g.few; short = g.short }

good-body : {count : ℕ} (b : EventBody) → count ≤ 16 → GoodBody count b → length (body_bytes b) ≤ 119
good-body b h g = body_most b (omega (arith, g.listed)) (omega (arith, g.version.one_each)) g.short

good-head : (k : ℕ) (h : Heading) (count : ℕ) → k < 128 → GoodHeading h → length (head_bytes k h count) ≤ 355 + width_of count
good-head k h count lk g = head_most k h count lk (good-list g.list) (omega (arith, g.listed, g.list.few)) (omega (arith, g.version.one_each, g.list.few))

event_bytes_most : (t : EventTelegram) → ShortList t.names → length (body_bytes t.body) ≤ 119 → length (event_bytes t) ≤ 393
unfolding event_bytes
event_bytes_most t l b =
    rw (length-append (spell 1) (list_bytes t.names ++ body_bytes t.body), length-append (list_bytes t.names) (body_bytes t.body))
    (omega (arith, width_small 1 (omega arith), list_most t.names l, b))

pub event_most : (t : EventTelegram) → GoodEvent t → length (event_bytes t) ≤ 393
event_most t g = event_bytes_most t (good-list g.list) (good-body t.body g.list.few g.body)

pub batch_most : (t : BatchTelegram) → GoodBatch t → length (batch_bytes t) ≤ 30821
unfolding batch_bytes
batch_most t g =
    rw (length-append (head_bytes 2 t.heading (length t.bodies)) (joined body_bytes t.bodies))
    (omega (
      arith,
      g.few,
      good-head 2 t.heading (length t.bodies) (omega arith) g.heading,
      width_two (length t.bodies) (omega (arith, g.few)),
      joined_most body_bytes 119 t.bodies (λ b m. good-body b g.heading.list.few (g.bodies b m)),
    ))

pub since_most : (t : SinceTelegram) → GoodSince t → length (since_bytes t) ≤ 740
unfolding since_bytes
since_most t g =
    rw (length-append (head_bytes 3 t.heading (length t.exceptions)) (joined exception_bytes t.exceptions))
    (omega (
      arith,
      g.few,
      good-head 3 t.heading (length t.exceptions) (omega arith) g.heading,
      width_small (length t.exceptions) (omega (arith, g.few)),
      joined_most exception_bytes 6 t.exceptions (λ e m. exception_most e (omega (arith, (g.exceptions e m).listed, g.heading.list.few))),
    ))

-- ---- what is written, whatever the numbers are

listed-short : {s : List ℕ} {l : Names} → ListIs s l → ShortList (texts s l)
listed-short {s} {l} i =
    let c = count-texts s l in
    record { few = omega (arith, c, i.few); short = λ j lt. omega (arith, length_name i j (omega (arith, c)), (i.parts j (omega (arith, c))).most) }

fits_most : (count : ℕ) (s : List ℕ) (b : Body) → BodyFits count s b → length (body_bytes (body_of count s b)) ≤ 119
fits_most count s b f =
    body_most (body_of count s b) (omega (arith, f.few, f.listed)) (omega (arith, f.few, length-take count b.entries))
    (omega (arith, length-text s b.operation f.operation.within, f.operation.most))

follows_most : {A : Type 0} {k limit : ℕ} {s : List ℕ} {h : Head} {count : ℕ} {spelt : A → List ℕ} {Fit : A → Type 0} {l : List A} {bytes : List ℕ}
    → Follows k limit s h count spelt Fit l bytes → k < 128 → (most : ℕ) → ((a : A) → Fit a → length (spelt a) ≤ most)
    → length bytes ≤ 355 + width_of count + length l * most
follows_most {k = k} {s = s} {h} {count} {spelt} {l = l} w lk most each =
    let n = h.names.count in
    rw (w.same, length-append (head_bytes k (heading_of s h) count) (joined spelt l))
    (omega (
      arith,
      head_most k (heading_of s h) count lk (listed-short w.list) (omega (arith, w.listed, w.list.few)) (omega (arith, length-take n h.entries, w.list.few)),
      joined_most spelt most l (λ a m. each a (w.fit a m)),
    ))

-- the names of t, the body of s
pub event_written_most : (t : List ℕ) (l : Names) (s : List ℕ) (b : Body) (bytes : List ℕ) → event_spelt t l s b ≡ Ok bytes → length bytes ≤ 393
event_written_most t l s b bytes e =
    let w = event_written t l s b bytes e in
    rw w.0 (event_bytes_most (event_from t l s b) (listed-short w.1.0) (fits_most l.count s b w.1.1))

-- a head and as many bodies as it counts or fewer, each a part of its own bytes
pub batch_written_most : (s : List ℕ) (h : Head) (count : ℕ) (l : List (List ℕ × Body)) (bytes : List ℕ) → length l ≤ count
    → head_then (head_spelt 2 256 s h count) (λ p. body_spelt h.names.count p.0 p.1) l ≡ Ok bytes → length bytes ≤ 30821
batch_written_most s h count l bytes few e =
    let w = batch_written_lem s h count l bytes e in
    omega (arith, w.few, width_two count (omega (arith, w.few)), follows_most w (omega arith) 119 (λ p. fits_most h.names.count p.0 p.1))

-- a head and as many exceptions as it counts or fewer
pub since_written_most : (s : List ℕ) (h : Head) (count : ℕ) (l : List Exception) (bytes : List ℕ) → length l ≤ count
    → head_then (head_spelt 3 64 s h count) (exception_spelt h.names.count) l ≡ Ok bytes → length bytes ≤ 740
since_written_most s h count l bytes few e =
    let w = since_written s h count l bytes e in
    omega (arith, w.few, width_small count (omega (arith, w.few)), follows_most w (omega arith) 6 (λ x lt. exception_most x (omega (arith, w.list.few))))

-- ---- the largest telegrams

-- AAAAAAAAAAAAAAAA to PPPPPPPPPPPPPPPP
abbrev pub largest_names : List (List ℕ)
largest_names = tab 16 (λ i. replicate 16 (65 + i))

abbrev pub largest_version : List ℕ
largest_version = replicate 16 last_number

abbrev pub largest_body : EventBody
largest_body = record { origin = 15; number = last_number; version = largest_version; operation = replicate 32 0 }

abbrev pub largest_heading : Heading
largest_heading = record { names = largest_names; sender = 15; version = largest_version }

abbrev pub largest_exception : Exception
largest_exception = record { place = record { 0 = 15 }; number = last_number }

abbrev pub largest_event : EventTelegram
largest_event = record { names = largest_names; body = largest_body }

abbrev pub largest_batch : BatchTelegram
largest_batch = record { heading = largest_heading; bodies = replicate 256 largest_body }

abbrev pub largest_since : SinceTelegram
largest_since = record { heading = largest_heading; exceptions = replicate 64 largest_exception }

largest_list-good : GoodList largest_names
unfolding tab fair fair_at fair_bytes same_bytes all
largest_list-good = record {
  some = omega arith;
  few = omega arith;
  long = λ i lt. omega (arith, name_length i lt);
  short = λ i lt. omega (arith, name_length i lt);
  distinct = refl;
}
  where
    name_length : (i : ℕ) → i < 16 → length (get_or largest_names i []) ≡ 16
    name_length i lt = ap length (get_or-tab [] 16 (λ i. replicate 16 (65 + i)) i lt) ∙ length-replicate 16 (65 + i)

largest_version-good : GoodVersion 16 largest_version
largest_version-good = record {
  one_each = refl;
  numbers = each-or-none largest_version (each_same (λ n. n ≤ last_number) 16 last_number (omega arith));
}

largest_body-good : GoodBody 16 largest_body
largest_body-good = record { listed = omega arith; counts = omega arith; version = largest_version-good; short = omega arith }

largest_heading-good : GoodHeading largest_heading
unfolding tab
largest_heading-good = record { list = largest_list-good; listed = omega arith; version = largest_version-good }

pub largest_event-good : GoodEvent largest_event
unfolding tab
largest_event-good = record { list = largest_list-good; body = largest_body-good }

pub largest_batch-good : GoodBatch largest_batch
unfolding tab
largest_batch-good = record {
  heading = largest_heading-good;
  few = omega (arith, length-replicate 256 largest_body);
  bodies = each_same (GoodBody 16) 256 largest_body largest_body-good;
}

pub largest_since-good : GoodSince largest_since
unfolding tab
largest_since-good = record {
  heading = largest_heading-good;
  few = omega (arith, length-replicate 64 largest_exception);
  exceptions = each_same (GoodException 16) 64 largest_exception (record { listed = omega arith; counts = omega arith });
}

pub largest_event-length : length (event_bytes largest_event) ≡ 393
unfolding event_bytes list_bytes body_bytes version_bytes sized_bytes tab chain groups
largest_event-length = refl

largest_body-length : length (body_bytes largest_body) ≡ 119
unfolding body_bytes version_bytes sized_bytes chain groups
largest_body-length = refl

-- a head that counts 256 bodies, and one that counts 64 exceptions
largest_head_lengths : (length (head_bytes 2 largest_heading 256) ≡ 357) × (length (head_bytes 3 largest_heading 64) ≡ 356)
unfolding head_bytes list_bytes version_bytes sized_bytes tab chain groups
largest_head_lengths = (refl, refl)

largest_exception-length : length (exception_bytes largest_exception) ≡ 6
unfolding exception_bytes groups
largest_exception-length = refl

pub largest_batch-length : length (batch_bytes largest_batch) ≡ 30821
unfolding batch_bytes
largest_batch-length =
    let bodies : List EventBody = replicate 256 largest_body in
    rw (length-append (head_bytes 2 largest_heading (length bodies)) (joined body_bytes bodies), length-replicate 256 largest_body)
    (omega (arith, joined_same body_bytes 256 largest_body, largest_body-length, largest_head_lengths))

pub largest_since-length : length (since_bytes largest_since) ≡ 740
unfolding since_bytes
largest_since-length =
    let exceptions : List Exception = replicate 64 largest_exception in
    rw
    (length-append (head_bytes 3 largest_heading (length exceptions)) (joined exception_bytes exceptions), length-replicate 64 largest_exception)
    (omega (arith, joined_same exception_bytes 64 largest_exception, largest_exception-length, largest_head_lengths))
