-- What is written is read back as what was to be written. Assumes nothing.
use mathlib.Core.Path.{◌≡◌, sym, ap, ◌∙◌}
use mathlib.Core.Bool.{true}
use mathlib.Core.Logic.{⊎_elim}
use mathlib.Core.List.Memᴰ
use mathlib.Core.List.{List, [], ◌∷◌, ◌++◌, map, Memᴰ}
use Prim.Native.Nat.{ℕ, ◌≤◌, ◌<◌}
use native.Mathlib.Omega.{arith}
use lib.ListN.{length, take, length-map, get_or-eq_default}
use lib.Seq.{length-take-le, get_or-take}
use lib.Dec.{leb, ltb}
use borrow.Author.Tests.{leb-true, ltb-true}
use Rattle.std.specs.Prelude.{Ok}
use Rattle.refusal.specs.Refusal.{no}
use Rattle.lists.specs.Lists.{at, joined}
use Rattle.lists.proofs.Cases.{split}
use Rattle.lists.proofs.Joined.{Each, each_none, each_more, joined-map}
use Rattle.leb128.specs.Leb128.{last_number}
use Rattle.telegram.specs.Reading.{Whole, texts, fair}
use Rattle.telegram.specs.Meaning.{EventBody, EventTelegram, BatchTelegram, SinceTelegram, body_of, heading_of, list_bytes, body_bytes, head_bytes, exception_bytes, event_bytes, batch_bytes, since_bytes, event_told, batch_told, since_told, GoodVersion, GoodBody, GoodHeading}
use Rattle.telegram.specs.Writing.{part_fits, list_fits, list_spelt, body_spelt, event_spelt, head_spelt, exception_spelt}
use Rattle.telegram.specs.declared.list.Names.{Names}
use Rattle.telegram.specs.declared.body.Body.{Body}
use Rattle.telegram.specs.declared.head.Head.{Head}
use Rattle.telegram.specs.declared.since.Exception.{Exception}
use Rattle.telegram.proofs.Filled.{count-texts}
use Rattle.telegram.proofs.Steps.{whole_same, then_is, if_whole}
use Rattle.telegram.proofs.Parts.{PartIs, ListIs, fits_list, fits_part, length-text}
use Rattle.telegram.proofs.Accepted.{list-good}
use Rattle.telegram.proofs.RoundTrip.{event_read_back, batch_read_back, since_read_back}
use Rattle.telegram.proofs.OneSpelling.{all_spelt, head_then, heading-good}

-- ---- what a machine's types say: sixteen entries, and numbers up to the last one

pub record Numbers (b : Body) : Type 0 where
  pub sixteen : length b.entries ≡ 16
  pub number : b.number ≤ last_number
  pub entries : (j : ℕ) → at b.entries j ≤ last_number

pub record HeadNumbers (h : Head) : Type 0 where
  pub sixteen : length h.entries ≡ 16
  pub entries : (j : ℕ) → at h.entries j ≤ last_number

-- the first entries of sixteen are a version
version-good : (count : ℕ) (v : List ℕ) → count ≤ 16 → length v ≡ 16 → ((j : ℕ) → at v j ≤ last_number) → GoodVersion count (take count v)
version-good count v few n h =
    let c = length-take-le count v (omega (arith, n)) in
    record {
      one_each = c;
      numbers = λ j.
          ⊎_elim (λ lt. omega (arith, get_or-take count v j 0 lt, h j)) (λ le. omega (arith, get_or-eq_default (take count v) 0 {n = j} (omega (arith, c)))) (split j count);
    }

-- ---- what is spelt fits, and its bytes are those of what it says

list_written : (s : List ℕ) (l : Names) (x : List ℕ) → list_spelt s l ≡ Ok x → (x ≡ list_bytes (texts s l)) × ListIs s l
unfolding list_spelt
list_written s l x e =
    let i = if_whole (list_fits s l) (Ok (list_bytes (texts s l))) (no 4) e in
    (sym (whole_same i.1), fits_list s l i.0)

pub record BodyFits (count : ℕ) (s : List ℕ) (b : Body) : Type 0 where
  pub few : count ≤ 16
  pub listed : b.place.0 < count
  pub operation : PartIs 0 32 s b.operation

body_written_lem : (count : ℕ) (s : List ℕ) (b : Body) (x : List ℕ) → body_spelt count s b ≡ Ok x → (x ≡ body_bytes (body_of count s b)) × BodyFits count s b
unfolding body_spelt
body_written_lem count s b x e =
    let i = if_whole (leb count 16) _ (no 4) e in
    let j = if_whole (ltb b.place.0 count) _ (no 9) i.1 in
    let k = if_whole (part_fits 0 32 s b.operation) (Ok (body_bytes (body_of count s b))) (no 4) j.1 in (
      sym (whole_same k.1),
      record { few = leb-true count 16 i.0; listed = ltb-true b.place.0 count j.0; operation = fits_part 0 32 s b.operation k.0 },
    )

exception_written : (count : ℕ) (e : Exception) (x : List ℕ) → exception_spelt count e ≡ Ok x → (x ≡ exception_bytes e) × (e.place.0 < count)
unfolding exception_spelt
exception_written count e x h =
    let i = if_whole (leb count 16) _ (no 4) h in
    let j = if_whole (ltb e.place.0 count) (Ok (exception_bytes e)) (no 9) i.1 in
    (sym (whole_same j.1), ltb-true e.place.0 count j.0)

body-good : (count : ℕ) (s : List ℕ) (b : Body) → BodyFits count s b → Numbers b → GoodBody count (body_of count s b)
body-good count s b f n = record {
  listed = f.listed;
  counts = n.number;
  version = version-good count b.entries f.few n.sixteen n.entries;
  short = omega (arith, length-text s b.operation f.operation.within, f.operation.most);
}

all_written : {A : Type 0} (f : A → Whole (List ℕ)) (spelt : A → List ℕ) (Fit : A → Type 0) → ((a : A) (x : List ℕ) → f a ≡ Ok x → (x ≡ spelt a) × Fit a)
    → (l : List A) (rest : List ℕ) → all_spelt f l ≡ Ok rest → (rest ≡ joined spelt l) × Each Fit l
unfolding all_spelt joined
all_written f spelt Fit each [] rest e = (sym (whole_same e), each_none Fit)
all_written f spelt Fit each (a ∷ l) rest e =
    then_is (f a) _ e (λ x ea e1.
    then_is (all_spelt f l) _ e1 (λ more el e2.
    let h = each a x ea in
    let t = all_written f spelt Fit each l more el in
    (sym (whole_same e2) ∙ rw (h.0, t.0), each_more Fit a l h.1 t.1)))

-- a head that counts so many things, and things behind it
pub record Follows {A : Type 0} (k limit : ℕ) (s : List ℕ) (h : Head) (count : ℕ) (spelt : A → List ℕ) (Fit : A → Type 0) (l : List A) (bytes : List ℕ) : Type 0 where
  pub list : ListIs s h.names
  pub listed : h.sender.0 < h.names.count
  pub few : count ≤ limit
  pub fit : Each Fit l
  pub same : bytes ≡ head_bytes k (heading_of s h) count ++ joined spelt l

follows : {A : Type 0} (k limit : ℕ) (s : List ℕ) (h : Head) (count : ℕ) (f : A → Whole (List ℕ)) (spelt : A → List ℕ) (Fit : A → Type 0)
    → ((a : A) (x : List ℕ) → f a ≡ Ok x → (x ≡ spelt a) × Fit a)
    → (l : List A) (bytes : List ℕ) → head_then (head_spelt k limit s h count) f l ≡ Ok bytes → Follows k limit s h count spelt Fit l bytes
unfolding head_spelt
follows k limit s h count f spelt Fit each l bytes e =
    then_is (head_spelt k limit s h count) _ e (λ start eh e1.
    then_is (all_spelt f l) _ e1 (λ rest er e2.
    let i = if_whole (list_fits s h.names) _ (no 4) eh in
    let j = if_whole (ltb h.sender.0 h.names.count) _ (no 9) i.1 in
    let m = if_whole (leb count limit) (Ok (head_bytes k (heading_of s h) count)) (no 4) j.1 in
    let r = all_written f spelt Fit each l rest er in
    record {
      list = fits_list s h.names i.0;
      listed = ltb-true h.sender.0 h.names.count j.0;
      few = leb-true count limit m.0;
      fit = r.1;
      same = sym (whole_same e2) ∙ rw (← whole_same m.1, r.0);
    }))

follows_good : {A : Type 0} {k limit : ℕ} {s : List ℕ} {h : Head} {count : ℕ} {spelt : A → List ℕ} {Fit : A → Type 0} {l : List A} {bytes : List ℕ}
    → Follows k limit s h count spelt Fit l bytes → fair (texts s h.names) ≡ true → HeadNumbers h → GoodHeading (heading_of s h)
follows_good {s = s} {h} w e n =
    heading-good s h (record { list = w.list; listed = w.listed; version = version-good h.names.count h.entries w.list.few n.sixteen n.entries }) e

-- ---- events: the names of t, the body of s

abbrev pub event_from : List ℕ → Names → List ℕ → Body → EventTelegram
event_from t l s b = record { names = texts t l; body = body_of l.count s b }

pub event_written : (t : List ℕ) (l : Names) (s : List ℕ) (b : Body) (bytes : List ℕ) → event_spelt t l s b ≡ Ok bytes
    → (bytes ≡ event_bytes (event_from t l s b)) × (ListIs t l × BodyFits l.count s b)
unfolding event_spelt event_bytes
event_written t l s b bytes e =
    then_is (list_spelt t l) _ e (λ names el e1.
    then_is (body_spelt l.count s b) _ e1 (λ body eb e2.
    let n = list_written t l names el in
    let y = body_written_lem l.count s b body eb in
    (sym (whole_same e2) ∙ rw (n.0, y.0), (n.1, y.1))))

pub event_written_bytes : (t : List ℕ) (l : Names) (s : List ℕ) (b : Body) (bytes : List ℕ) → event_spelt t l s b ≡ Ok bytes
    → bytes ≡ event_bytes (event_from t l s b)
event_written_bytes t l s b bytes e = (event_written t l s b bytes e).0

pub event_written_read : (t : List ℕ) (l : Names) (s : List ℕ) (b : Body) (bytes : List ℕ) → event_spelt t l s b ≡ Ok bytes → fair (texts t l) ≡ true → Numbers b
    → event_told bytes ≡ Ok (event_from t l s b)
event_written_read t l s b bytes e f n =
    let w = event_written t l s b bytes e in
    ap event_told w.0
    ∙ event_read_back (event_from t l s b)
    (record { list = list-good w.1.0 f; body = rw (count-texts t l) (body-good l.count s b w.1.1 n) })

-- ---- batches: a head and as many bodies as it counts, each a part of its own bytes

abbrev pub batch_from : List ℕ → Head → List (List ℕ × Body) → BatchTelegram
batch_from s h l = record { heading = heading_of s h; bodies = map (λ p. body_of h.names.count p.0 p.1) l }

pub batch_written_lem : (s : List ℕ) (h : Head) (count : ℕ) (l : List (List ℕ × Body)) (bytes : List ℕ)
    → head_then (head_spelt 2 256 s h count) (λ p. body_spelt h.names.count p.0 p.1) l ≡ Ok bytes
    → Follows 2 256 s h count (λ p. body_bytes (body_of h.names.count p.0 p.1)) (λ p. BodyFits h.names.count p.0 p.1) l bytes
batch_written_lem s h count l bytes e =
    let n = h.names.count in
    follows 2 256 s h count (λ p. body_spelt n p.0 p.1) (λ p. body_bytes (body_of n p.0 p.1)) (λ p. BodyFits n p.0 p.1) (λ p. body_written_lem n p.0 p.1) l bytes e

pub batch_written_bytes : (s : List ℕ) (h : Head) (l : List (List ℕ × Body)) (bytes : List ℕ)
    → head_then (head_spelt 2 256 s h (length l)) (λ p. body_spelt h.names.count p.0 p.1) l ≡ Ok bytes
    → bytes ≡ batch_bytes (batch_from s h l)
unfolding batch_bytes
batch_written_bytes s h l bytes e =
    let says : List ℕ × Body → EventBody = λ p. body_of h.names.count p.0 p.1 in
    (batch_written_lem s h (length l) l bytes e).same ∙ rw (length-map l says, joined-map body_bytes says l)

pub batch_written_read : (s : List ℕ) (h : Head) (l : List (List ℕ × Body)) (bytes : List ℕ)
    → head_then (head_spelt 2 256 s h (length l)) (λ p. body_spelt h.names.count p.0 p.1) l ≡ Ok bytes → fair (texts s h.names) ≡ true
    → HeadNumbers h → ((p : List ℕ × Body) → Memᴰ p l → Numbers p.1) → batch_told bytes ≡ Ok (batch_from s h l)
batch_written_read s h l bytes e f n each =
    let w = batch_written_lem s h (length l) l bytes e in
    let says : List ℕ × Body → EventBody = λ p. body_of h.names.count p.0 p.1 in
    ap batch_told (batch_written_bytes s h l bytes e)
    ∙ batch_read_back (batch_from s h l)
    (record {
      heading = follows_good w f n;
      few = omega (arith, length-map l says, w.few);
      bodies = λ x m.
          let o = Memᴰ.of_map says l m in
          let p = o.0 in
          rw (count-texts s h.names, ← o.2) (body-good h.names.count p.0 p.1 (w.fit p o.1) (each p o.1));
    })

-- ---- sinces: a head and as many exceptions as it counts

abbrev pub since_from : List ℕ → Head → List Exception → SinceTelegram
since_from s h l = record { heading = heading_of s h; exceptions = l }

pub since_written : (s : List ℕ) (h : Head) (count : ℕ) (l : List Exception) (bytes : List ℕ)
    → head_then (head_spelt 3 64 s h count) (exception_spelt h.names.count) l ≡ Ok bytes
    → Follows 3 64 s h count exception_bytes (λ e. e.place.0 < h.names.count) l bytes
since_written s h count l bytes e =
    follows 3 64 s h count (exception_spelt h.names.count) exception_bytes (λ e. e.place.0 < h.names.count) (exception_written h.names.count) l bytes e

pub since_written_bytes : (s : List ℕ) (h : Head) (l : List Exception) (bytes : List ℕ)
    → head_then (head_spelt 3 64 s h (length l)) (exception_spelt h.names.count) l ≡ Ok bytes → bytes ≡ since_bytes (since_from s h l)
unfolding since_bytes
since_written_bytes s h l bytes e = (since_written s h (length l) l bytes e).same

pub since_written_read : (s : List ℕ) (h : Head) (l : List Exception) (bytes : List ℕ)
    → head_then (head_spelt 3 64 s h (length l)) (exception_spelt h.names.count) l ≡ Ok bytes → fair (texts s h.names) ≡ true
    → HeadNumbers h → ((e : Exception) → Memᴰ e l → e.number ≤ last_number) → since_told bytes ≡ Ok (since_from s h l)
since_written_read s h l bytes e f n each =
    let w = since_written s h (length l) l bytes e in
    ap since_told (since_written_bytes s h l bytes e)
    ∙ since_read_back (since_from s h l)
    (record {
      heading = follows_good w f n;
      few = w.few;
      exceptions = λ x m. record { listed = rw (count-texts s h.names) (w.fit x m); counts = each x m };
    })
