-- What was written is read back. Assumes nothing.
use mathlib.Core.Path.{◌≡◌, refl, sym, ap, ◌∙◌}
use mathlib.Core.List.{List, [], ◌∷◌, ◌++◌, map, map-id}
use mathlib.Core.List.Memᴰ
use Prim.Native.Nat.{ℕ, ◌+◌, ◌≤◌, ◌<◌}
use native.Mathlib.Omega.{arith}
use lib.ListN.{length, take, drop, get_or, length-map}
use borrow.Author.Tests.{lt-ltb, le-leb, eq-eqb}
use Rattle.std.specs.Prelude.{Ok}
use Rattle.lists.specs.Lists.{joined}
use Rattle.lists.proofs.Joined.{Each, at_each, chain-joined}
use Rattle.lists.proofs.Stands.{Stands, stand_first, stand_second, stand_drop, stand_whole}
use Rattle.leb128.specs.Leb128.{Read, got, spell, last_number}
use Rattle.leb128.proofs.Spelling.{read_spelt}
use Rattle.telegram.specs.Fields.{number, kind, counted, placed, part, sized, text, many}
use Rattle.telegram.specs.Reading.{Whole, fair, event_form, batch_form, since_form, exception, head, names, list, entries, body, filled, names_of, texts}
use Rattle.telegram.specs.Meaning.{EventBody, EventTelegram, Heading, BatchTelegram, SinceTelegram, body_of, heading_of, event_of, sized_bytes, list_bytes, version_bytes, body_bytes, head_bytes, exception_bytes, event_bytes, batch_bytes, since_bytes, event_told, batch_told, since_told, GoodList, GoodVersion, GoodBody, GoodHeading, GoodException, GoodEvent, GoodBatch, GoodSince}
use Rattle.telegram.specs.declared.since.Exception.{Exception}
use Rattle.telegram.proofs.Filled.{take-filled, count-texts, texts_named}

-- something is read that says x, and next is the place behind it
record ReadBack {A X : Type 0} (says : A → X) (g : Read A) (x : X) (next : ℕ) : Type 0 where
  found : A
  answers : g ≡ got found next
  means : says found ≡ x

-- a whole telegram is read that says x
record ReadWhole {A X : Type 0} (says : A → X) (w : Whole A) (x : X) : Type 0 where
  found : A
  answers : w ≡ Ok found
  means : says found ≡ x

-- a head is read, and at mid stands a count
record Begun (s : List ℕ) (k : ℕ) (h : Heading) (count next : ℕ) : Type 0 where
  mid : ℕ
  heads : ReadBack (heading_of s) (head k s) h mid
  counts : Stands s mid (spell count) next

-- a head, a count and so many things are read, and nothing stands behind them
record Carried (s : List ℕ) {A X : Type 0} (k limit : ℕ) (f : ℕ → ℕ → Read A) (says : ℕ → A → X) (h : Heading) (l : List X) : Type 0 where
  mid : ℕ
  start : ℕ
  heads : ReadBack (heading_of s) (head k s) h mid
  counts : counted 0 limit s mid ≡ got (length l) start
  items : ReadBack (map (says heads.found.names.count)) (many (length l) (f heads.found.names.count) start) l (length s)

module _ {s : List ℕ} where
  -- ---- numbers

  number_back : {at next : ℕ} (n : ℕ) → n ≤ last_number → Stands s at (spell n) next → number s at ≡ got n next
  number_back {at} {next} n h p = read_spelt n at s (drop next s) h (stand_drop p) ∙ rw (← p.ends)

  kind_back : {at next : ℕ} (k : ℕ) → k ≤ last_number → Stands s at (spell k) next → kind k s at ≡ got k next
  unfolding kind
  kind_back k h p = rw (number_back k h p, eq-eqb k k refl)

  counted_back : {at next : ℕ} (low high n : ℕ) → high ≤ last_number → low ≤ n → n ≤ high → Stands s at (spell n) next → counted low high s at ≡ got n next
  unfolding counted
  counted_back low high n h l m p = rw (number_back n (omega arith) p, le-leb low n l, le-leb n high m)

  placed_back : {at next : ℕ} (count n : ℕ) → count ≤ 16 → n < count → Stands s at (spell n) next → placed count s at ≡ got n next
  unfolding placed
  placed_back count n h l p = rw (number_back n (omega arith) p, lt-ltb n count l)

  -- ---- bytes

  part_back : {at next : ℕ} (b : List ℕ) → Stands s at b next → part (length b) s at ≡ got (record { start = at; len = length b }) next
  unfolding part
  part_back {next = next} b p = rw (← p.ends, le-leb next (length s) p.within)

  sized_back : {at next : ℕ} (low high : ℕ) (b : List ℕ) → high ≤ last_number → low ≤ length b → length b ≤ high → Stands s at (sized_bytes b) next
      → ReadBack (text s) (sized low high s at) b next
  unfolding sized sized_bytes
  sized_back {at} low high b h l m p =
      let q = stand_second (spell (length b)) b p in
      record {
        found = record { start = at + length (spell (length b)); len = length b };
        answers = rw (counted_back low high (length b) h l m (stand_first (spell (length b)) b p)) (part_back b q);
        means = q.same;
      }

  -- ---- several things

  many_back : {A X : Type 0} (says : A → X) (bytes : X → List ℕ) (f : ℕ → Read A) (l : List X)
      → Each (λ x. (at next : ℕ) → Stands s at (bytes x) next → ReadBack says (f at) x next) l
      → {at next : ℕ} → Stands s at (joined bytes l) next → ReadBack (map says) (many (length l) f at) l next
  unfolding many joined
  many_back says bytes f [] h p = record { found = []; answers = ap (got []) (omega (arith, p.ends)); means = refl }
  many_back says bytes f (x ∷ l) h p =
      let r = h x (Memᴰ.head refl) _ _ (stand_first (bytes x) (joined bytes l) p) in
      let q = many_back says bytes f l (λ y m. h y (Memᴰ.tail m)) (stand_second (bytes x) (joined bytes l) p) in
      record { found = r.found ∷ q.found; answers = rw (r.answers, q.answers); means = rw (r.means, q.means) }

  -- ---- lists of names

  names_back : {at next : ℕ} (l : List (List ℕ)) → GoodList l → Stands s at (joined sized_bytes l) next → ReadBack (texts s) (names (length l) s at) l next
  unfolding names
  names_back l g p =
      let r = many_back (text s) sized_bytes (sized 1 16 s) l
      (at_each (λ b. (at next : ℕ) → Stands s at (sized_bytes b) next → ReadBack (text s) (sized 1 16 s at) b next) [] l
      (λ i lt at next q. sized_back 1 16 (get_or l i []) (omega arith) (g.long i lt) (g.short i lt) q)) p in
      record {
        found = names_of r.found;
        answers = rw r.answers;
        means = texts_named s r.found (omega (arith, g.few, length-map r.found (text s), ap length r.means)) ∙ r.means;
      }

  list_back : {at next : ℕ} (l : List (List ℕ)) → GoodList l → Stands s at (list_bytes l) next → ReadBack (texts s) (list s at) l next
  unfolding list list_bytes
  list_back l g p =
      let q = rw (chain-joined sized_bytes [] l) at p in
      let r = names_back l g (stand_second (spell (length l)) (joined sized_bytes l) q) in
      record {
        found = r.found;
        answers = rw (counted_back 1 16 (length l) (omega arith) g.some g.few (stand_first (spell (length l)) (joined sized_bytes l) q)) r.answers;
        means = r.means;
      }

  -- ---- event bodies

  entries_back : {at next : ℕ} (count : ℕ) (v : List ℕ) → count ≤ 16 → GoodVersion count v → Stands s at (version_bytes v) next → ReadBack (take count) (entries count s at) v next
  unfolding entries version_bytes
  entries_back count v h g p =
      let r = many_back (λ n. n) spell (number s) v
      (at_each (λ n. (at next : ℕ) → Stands s at (spell n) next → ReadBack (λ n. n) (number s at) n next) 0 v
      (λ i lt at next q. record { found = _; answers = number_back (get_or v i 0) (g.numbers i) q; means = refl })) (rw (chain-joined spell 0 v) at p) in
      let e = sym (map-id r.found) ∙ r.means in
      record {
        found = filled 0 r.found;
        answers = rw (← g.one_each, r.answers);
        means = take-filled 0 count r.found (ap length e ∙ g.one_each) h ∙ e;
      }

  body_back : {at next : ℕ} (count : ℕ) (b : EventBody) → count ≤ 16 → GoodBody count b → Stands s at (body_bytes b) next → ReadBack (body_of count s) (body count s at) b next
  unfolding body body_bytes
  body_back count b h g p =
      let p1 = stand_second (spell b.origin) (spell b.number ++ (version_bytes b.version ++ sized_bytes b.operation)) p in
      let p2 = stand_second (spell b.number) (version_bytes b.version ++ sized_bytes b.operation) p1 in
      let v = entries_back count b.version h g.version (stand_first (version_bytes b.version) (sized_bytes b.operation) p2) in
      let o = sized_back 0 32 b.operation (omega arith) (omega arith) g.short (stand_second (version_bytes b.version) (sized_bytes b.operation) p2) in
      record {
        found = record { place = record { 0 = b.origin }; number = b.number; entries = v.found; operation = o.found };
        answers =
            rw (
              placed_back count b.origin h g.listed (stand_first (spell b.origin) (spell b.number ++ (version_bytes b.version ++ sized_bytes b.operation)) p),
              number_back b.number g.counts (stand_first (spell b.number) (version_bytes b.version ++ sized_bytes b.operation) p1),
              v.answers,
              o.answers,
            );
        means = rw (v.means, o.means);
      }

  -- ---- events

  event_form_back : (t : EventTelegram) → GoodEvent t → Stands s 0 (event_bytes t) (length s) → ReadWhole (event_of s) (event_form s) t
  unfolding event_form event_bytes
  event_form_back t g p =
      let p1 = stand_second (spell 1) (list_bytes t.names ++ body_bytes t.body) p in
      let l = list_back t.names g.list (stand_first (list_bytes t.names) (body_bytes t.body) p1) in
      let c = sym (ap length l.means) ∙ count-texts s l.found in
      let b =
      body_back l.found.count t.body (omega (arith, g.list.few)) (rw (← c) g.body) (stand_second (list_bytes t.names) (body_bytes t.body) p1)
      in
      record {
        found = record { names = l.found; body = b.found };
        answers = rw (kind_back 1 (omega arith) (stand_first (spell 1) (list_bytes t.names ++ body_bytes t.body) p), l.answers, b.answers, eq-eqb (length s) (length s) refl);
        means = λ i. record { names = l.means i; body = b.means i };
      }

  event_back : (t : EventTelegram) → GoodEvent t → Stands s 0 (event_bytes t) (length s) → event_told s ≡ Ok t
  unfolding event_told
  event_back t g p =
      let r = event_form_back t g p in
      rw (r.answers, ap (λ (e : EventTelegram). fair e.names) r.means, g.list.distinct) (ap Ok r.means)

  -- ---- batches and sinces

  head_back : {next : ℕ} (k : ℕ) (h : Heading) (count : ℕ) → k ≤ last_number → GoodHeading h → Stands s 0 (head_bytes k h count) next → Begun s k h count next
  unfolding head head_bytes
  head_back k h count lt g p =
      let version : List ℕ = version_bytes h.version ++ spell count in
      let sender : List ℕ = spell h.sender ++ version in
      let p1 = stand_second (spell k) (list_bytes h.names ++ sender) p in
      let p2 = stand_second (list_bytes h.names) sender p1 in
      let p3 = stand_second (spell h.sender) version p2 in
      let l = list_back h.names g.list (stand_first (list_bytes h.names) sender p1) in
      let c = sym (ap length l.means) ∙ count-texts s l.found in
      let v = entries_back l.found.count h.version (omega (arith, g.list.few)) (rw (← c) g.version) (stand_first (version_bytes h.version) (spell count) p3) in
      record {
        mid = 0 + length (spell k) + length (list_bytes h.names) + length (spell h.sender) + length (version_bytes h.version);
        heads = record {
          found = record { names = l.found; sender = record { 0 = h.sender }; entries = v.found };
          answers =
              rw (
                kind_back k lt (stand_first (spell k) (list_bytes h.names ++ sender) p),
                l.answers,
                placed_back l.found.count h.sender (omega (arith, g.list.few)) (rw (← c) g.listed) (stand_first (spell h.sender) version p2),
                v.answers,
              );
          means = λ i. record { names = l.means i; sender = h.sender; version = v.means i };
        };
        counts = stand_second (version_bytes h.version) (spell count) p3;
      }

  carried_back : {A X : Type 0} (k limit : ℕ) (f : ℕ → ℕ → Read A) (says : ℕ → A → X) (bytes : X → List ℕ) (h : Heading) (l : List X)
      → k ≤ last_number → limit ≤ last_number → GoodHeading h → length l ≤ limit
      → Each (λ x. (at next : ℕ) → Stands s at (bytes x) next → ReadBack (says (length h.names)) (f (length h.names) at) x next) l
      → Stands s 0 (head_bytes k h (length l) ++ joined bytes l) (length s) → Carried s k limit f says h l
  carried_back k limit f says bytes h l lk ll g few each p =
      let b = head_back k h (length l) lk g (stand_first (head_bytes k h (length l)) (joined bytes l) p) in
      let c : b.heads.found.names.count ≡ length h.names = sym (count-texts s b.heads.found.names) ∙ ap (λ (r : Heading). length r.names) b.heads.means in
      record {
        mid = b.mid;
        start = 0 + length (head_bytes k h (length l));
        heads = b.heads;
        counts = counted_back 0 limit (length l) ll (omega arith) few b.counts;
        items = rw c (many_back (says (length h.names)) bytes (f (length h.names)) l each (stand_second (head_bytes k h (length l)) (joined bytes l) p));
      }

  batch_back : (t : BatchTelegram) → GoodBatch t → Stands s 0 (batch_bytes t) (length s) → batch_told s ≡ Ok t
  unfolding batch_told batch_form batch_bytes
  batch_back t g p =
      let r =
      carried_back 2 256 (λ count. body count s) (λ count. body_of count s) body_bytes t.heading t.bodies (omega arith) (omega arith) g.heading g.few
      (λ b m at next q. body_back (length t.heading.names) b g.heading.list.few (g.bodies b m) q) p
      in
      rw (
        r.heads.answers,
        r.counts,
        r.items.answers,
        eq-eqb (length s) (length s) refl,
        ap (λ (h : Heading). fair h.names) r.heads.means,
        g.heading.list.distinct,
        r.items.answers,
      )
      (λ i. Ok (record { heading = r.heads.means i; bodies = r.items.means i }))

  exception_back : {at next : ℕ} (count : ℕ) (e : Exception) → count ≤ 16 → GoodException count e → Stands s at (exception_bytes e) next
      → exception count s at ≡ got e next
  unfolding exception exception_bytes
  exception_back count e h g p =
      rw (
        placed_back count e.place.0 h g.listed (stand_first (spell e.place.0) (spell e.number) p),
        number_back e.number g.counts (stand_second (spell e.place.0) (spell e.number) p),
      )

  since_back : (t : SinceTelegram) → GoodSince t → Stands s 0 (since_bytes t) (length s) → since_told s ≡ Ok t
  unfolding since_told since_form since_bytes
  since_back t g p =
      let r =
      carried_back 3 64 (λ count. exception count s) (λ count e. e) exception_bytes t.heading t.exceptions (omega arith) (omega arith) g.heading g.few
      (λ e m at next q. record { found = e; answers = exception_back (length t.heading.names) e g.heading.list.few (g.exceptions e m) q; means = refl })
      p
      in
      let e = sym (map-id r.items.found) ∙ r.items.means in
      rw (
        r.heads.answers,
        r.counts,
        r.items.answers,
        eq-eqb (length s) (length s) refl,
        ap (λ (h : Heading). fair h.names) r.heads.means,
        g.heading.list.distinct,
        r.items.answers,
      )
      (λ i. Ok (record { heading = r.heads.means i; exceptions = e i }))

-- ---- reading what was written

pub event_read_back : (t : EventTelegram) → GoodEvent t → event_told (event_bytes t) ≡ Ok t
event_read_back t g = event_back t g (stand_whole (event_bytes t))

pub batch_read_back : (t : BatchTelegram) → GoodBatch t → batch_told (batch_bytes t) ≡ Ok t
batch_read_back t g = batch_back t g (stand_whole (batch_bytes t))

pub since_read_back : (t : SinceTelegram) → GoodSince t → since_told (since_bytes t) ≡ Ok t
since_read_back t g = since_back t g (stand_whole (since_bytes t))
