-- What is spelt, measured and written. Assumes nothing.
use Prim.Native.Nat.{ℕ, ◌+◌, ◌≤◌, ◌<◌}
use native.Mathlib.Omega.{arith}
use mathlib.Core.Path.{◌≡◌, refl, sym, ap, ◌∙◌}
use mathlib.Core.Bool.{Bool, true, false, cond}
use mathlib.Core.List.{List, ◌++◌}
use lib.ListN.{length, take, length-append}
use lib.Dec.{leb, ltb}
use borrow.Author.Tests.{leb-true, ltb-true, le-leb, lt-ltb}
use Rattle.lists.specs.Lists.{all, chain}
use Rattle.refusal.specs.declared.Refusal.{Refusal}
use Rattle.std.specs.Prelude.{Ok, Err}
use Rattle.refusal.specs.Refusal.{no}
use Rattle.leb128.specs.Leb128.{spell, width_of}
use Rattle.telegram.specs.declared.list.Names.{Names}
use Rattle.telegram.specs.declared.body.Body.{Body}
use Rattle.telegram.specs.declared.head.Head.{Head}
use Rattle.telegram.specs.declared.since.Exception.{Exception}
use Rattle.telegram.specs.Reading.{Whole, texts, fair, Within}
use Rattle.telegram.specs.Meaning.{list_bytes, version_bytes, body_bytes, head_bytes, exception_bytes, body_of, heading_of}
use Rattle.telegram.specs.Writing.{part_fits, list_fits, names_spelt, list_spelt, list_judged, body_spelt, event_spelt, head_spelt, exception_spelt, measured, Put, Room, Wrote}
use Rattle.telegram.proofs.Parts.{part_of, fits_list}
use Rattle.telegram.proofs.Widths.{one_byte, name_bytes, names_most, list_width, list_most, body_width, body_most, head_width}

-- ---- what a width says

pub refused-is : (g : Whole (List ℕ)) {k : Refusal} {r : Whole ℕ} → r ≡ measured g → r ≡ Err k → g ≡ Err k
refused-is (Ok b) told said = let z : ◌≡◌ {A = ℕ} 0 1 = cc in absurd (omega arith)
refused-is (Err j) told said = cc

-- a width is answered only where the test passes
cond-is : (t : Bool) (g : Whole (List ℕ)) (k : Refusal) (w : ℕ) → measured (cond t g (Err k)) ≡ Ok w → (t ≡ true) × (measured g ≡ Ok w)
cond-is true g k w e = (refl, e)
cond-is false g k w e = let z : ◌≡◌ {A = ℕ} 0 1 = cc in absurd (omega arith)

whole_long : (b : List ℕ) (w : ℕ) → measured (Ok b) ≡ Ok w → length b ≡ w
whole_long b w e = cc

-- these bytes, so many, are what is spelt
pub record Spelt (g : Whole (List ℕ)) (b : List ℕ) (w : ℕ) : Type 0 where
  pub is : g ≡ Ok b
  pub long : length b ≡ w

-- ---- names and lists

pub names_small : (s : List ℕ) (l : Names) (n : ℕ) {w : ℕ} {r : Whole ℕ} → n ≤ 16 → r ≡ measured (names_spelt s l n) → r ≡ Ok w → w ≤ 272
names_small s l n {w} h told said =
    let f = cond-is (all n (λ i. part_fits 1 16 s (part_of l i))) (Ok (chain n (name_bytes s l))) (no 4) w (sym told ∙ said) in
    omega (arith, whole_long (chain n (name_bytes s l)) w f.1, names_most s l n h f.0)

abbrev one_more : Whole ℕ → Whole ℕ
one_more (Ok w) = Ok (1 + w)
one_more (Err k) = Err k

-- a list takes one byte more than its names
pub list-measured : (s : List ℕ) (l : Names) → 1 ≤ l.count → l.count ≤ 16 → {r g : Whole ℕ} → r ≡ measured (names_spelt s l l.count) → r ≡ g
    → one_more g ≡ measured (list_spelt s l)
unfolding list_spelt list_fits
list-measured s l h k told said = rw (le-leb 1 l.count h, le-leb l.count 16 k, ← said, told) (sym (pick (all l.count (λ i. part_fits 1 16 s (part_of l i)))))
  where
    pick : (t : Bool) → measured (cond t (Ok (list_bytes (texts s l))) (Err (no 4))) ≡ one_more (measured (cond t (Ok (chain l.count (name_bytes s l))) (Err (no 4))))
    pick true = ap Ok (list_width s l k)
    pick false = refl

pub record ListSpelt (s : List ℕ) (l : Names) (w : ℕ) : Type 0 where
  pub fits : list_fits s l ≡ true
  pub spelt : Spelt (list_spelt s l) (list_bytes (texts s l)) w

pub list_spelt_lem : (s : List ℕ) (l : Names) {w : ℕ} {r : Whole ℕ} → r ≡ measured (list_spelt s l) → r ≡ Ok w → ListSpelt s l w
unfolding list_spelt
list_spelt_lem s l {w} told said =
    let f = cond-is (list_fits s l) (Ok (list_bytes (texts s l))) (no 4) w (sym told ∙ said) in
    record { fits = f.0; spelt = record { is = rw f.0; long = whole_long (list_bytes (texts s l)) w f.1 } }

-- a list judged by itself
pub list-not-judged : (s : List ℕ) (l : Names) {k : Refusal} {r : Whole ℕ} → r ≡ measured (list_spelt s l) → r ≡ Err k → Err k ≡ list_judged s l
unfolding list_spelt
list-not-judged s l {k} told said = pick (list_fits s l) (refused-is _ told said)
  where
    pick : (t : Bool) → cond t (Ok (list_bytes (texts s l))) (Err (no 4)) ≡ Err k
        → ◌≡◌ {A = Whole Unit} (Err k) (cond t (cond (fair (texts s l)) (Ok tt) (Err (no 6))) (Err (no 4)))
    pick true e = let z : ◌≡◌ {A = ℕ} 0 1 = cc in absurd (omega arith)
    pick false e = cc

pub fits_within : (s : List ℕ) (l : Names) → list_fits s l ≡ true → Within s l
fits_within s l e = let f = fits_list s l e in record { few = f.few; inside = λ i lt. (f.parts i lt).within }

pub list_small : {s : List ℕ} {l : Names} {w : ℕ} → ListSpelt s l w → w ≤ 273
list_small {s} {l} f = omega (arith, f.spelt.long, list_most s l f.fits)

-- ---- bodies

pub record BodySpelt (count : ℕ) (s : List ℕ) (b : Body) (w : ℕ) : Type 0 where
  pub few : count ≤ 16
  pub listed : b.place.0 < count
  pub fits : part_fits 0 32 s b.operation ≡ true
  pub spelt : Spelt (body_spelt count s b) (body_bytes (body_of count s b)) w

pub body_spelt_lem : (count : ℕ) (s : List ℕ) (b : Body) {w : ℕ} {r : Whole ℕ} → r ≡ measured (body_spelt count s b) → r ≡ Ok w → BodySpelt count s b w
unfolding body_spelt
body_spelt_lem count s b {w} told said =
    let bytes : Whole (List ℕ) = Ok (body_bytes (body_of count s b)) in
    let f = cond-is (leb count 16) (cond (ltb b.place.0 count) (cond (part_fits 0 32 s b.operation) bytes (Err (no 4))) (Err (no 9))) (no 4) w (sym told ∙ said) in
    let g = cond-is (ltb b.place.0 count) (cond (part_fits 0 32 s b.operation) bytes (Err (no 4))) (no 9) w f.1 in
    let h = cond-is (part_fits 0 32 s b.operation) bytes (no 4) w g.1 in
    record {
      few = leb-true _ _ f.0;
      listed = ltb-true _ _ g.0;
      fits = h.0;
      spelt = record { is = rw (f.0, g.0, h.0); long = whole_long (body_bytes (body_of count s b)) w h.1 };
    }

pub body_small : {count : ℕ} {s : List ℕ} {b : Body} {w : ℕ} → BodySpelt count s b w → w ≤ 311
body_small {count} {s} {b} f = omega (arith, f.spelt.long, body_most count s b f.few f.listed f.fits)

pub body-measured : (count : ℕ) (s : List ℕ) (b : Body) → count ≤ 16 → b.place.0 < count → part_fits 0 32 s b.operation ≡ true
    → measured (body_spelt count s b) ≡ Ok (1 + width_of b.number + length (version_bytes (take count b.entries)) + 1 + b.operation.len)
unfolding body_spelt
body-measured count s b h g e = rw (le-leb count 16 h, lt-ltb b.place.0 count g, e) (ap Ok (body_width count s b h g e))

-- ---- heads

pub record HeadSpelt (k limit : ℕ) (s : List ℕ) (h : Head) (count w : ℕ) : Type 0 where
  pub fits : list_fits s h.names ≡ true
  pub listed : h.sender.0 < h.names.count
  pub few : count ≤ limit
  pub spelt : Spelt (head_spelt k limit s h count) (head_bytes k (heading_of s h) count) w

pub head_spelt_lem : (k limit : ℕ) (s : List ℕ) (h : Head) (count : ℕ) {w : ℕ} {r : Whole ℕ} → r ≡ measured (head_spelt k limit s h count) → r ≡ Ok w
    → HeadSpelt k limit s h count w
unfolding head_spelt
head_spelt_lem k limit s h count {w} told said =
    let bytes : Whole (List ℕ) = Ok (head_bytes k (heading_of s h) count) in
    let f = cond-is (list_fits s h.names) (cond (ltb h.sender.0 h.names.count) (cond (leb count limit) bytes (Err (no 4))) (Err (no 9))) (no 4) w (sym told ∙ said) in
    let g = cond-is (ltb h.sender.0 h.names.count) (cond (leb count limit) bytes (Err (no 4))) (no 9) w f.1 in
    let i = cond-is (leb count limit) bytes (no 4) w g.1 in
    record {
      fits = f.0;
      listed = ltb-true _ _ g.0;
      few = leb-true _ _ i.0;
      spelt = record { is = rw (f.0, g.0, i.0); long = whole_long (head_bytes k (heading_of s h) count) w i.1 };
    }

-- a head is refused as its list is
pub head-refused : (k limit : ℕ) (s : List ℕ) (h : Head) (count : ℕ) {why : Refusal} {r : Whole ℕ} → r ≡ measured (list_spelt s h.names) → r ≡ Err why
    → measured (head_spelt k limit s h count) ≡ Err why
unfolding list_spelt head_spelt
head-refused k limit s h count {why} told said =
    pick (list_fits s h.names) (list_bytes (texts s h.names))
    (cond (ltb h.sender.0 h.names.count) (cond (leb count limit) (Ok (head_bytes k (heading_of s h) count)) (Err (no 4))) (Err (no 9)))
    (sym told ∙ said)
  where
    pick : (t : Bool) (b : List ℕ) (g : Whole (List ℕ)) → measured (cond t (Ok b) (Err (no 4))) ≡ Err why → measured (cond t g (Err (no 4))) ≡ Err why
    pick true b g e = let z : ◌≡◌ {A = ℕ} 0 1 = cc in absurd (omega arith)
    pick false b g e = e

pub head-measured : (k limit : ℕ) (s : List ℕ) (h : Head) (count : ℕ) → list_fits s h.names ≡ true → h.sender.0 < h.names.count → count ≤ limit
    → measured (head_spelt k limit s h count)
    ≡ Ok (width_of k + length (list_bytes (texts s h.names)) + 1 + length (version_bytes (take h.names.count h.entries)) + width_of count)
unfolding head_spelt
head-measured k limit s h count e g f =
    rw (e, lt-ltb h.sender.0 h.names.count g, le-leb count limit f) (ap Ok (head_width k s h count (omega (arith, (fits_list s h.names e).few))))

-- ---- exceptions

pub record ExceptionSpelt (count : ℕ) (x : Exception) (w : ℕ) : Type 0 where
  pub few : count ≤ 16
  pub listed : x.place.0 < count
  pub spelt : Spelt (exception_spelt count x) (exception_bytes x) w

pub exception_spelt_lem : (count : ℕ) (x : Exception) {w : ℕ} {r : Whole ℕ} → r ≡ measured (exception_spelt count x) → r ≡ Ok w → ExceptionSpelt count x w
unfolding exception_spelt
exception_spelt_lem count x {w} told said =
    let f = cond-is (leb count 16) (cond (ltb x.place.0 count) (Ok (exception_bytes x)) (Err (no 9))) (no 4) w (sym told ∙ said) in
    let g = cond-is (ltb x.place.0 count) (Ok (exception_bytes x)) (no 9) w f.1 in
    record {
      few = leb-true _ _ f.0;
      listed = ltb-true _ _ g.0;
      spelt = record { is = rw (f.0, g.0); long = whole_long (exception_bytes x) w g.1 };
    }

-- ---- events

module _ (t : List ℕ) (l : Names) (s : List ℕ) (b : Body) where
  pub event-list-refused : {k : Refusal} {r : Whole ℕ} → r ≡ measured (list_spelt t l) → r ≡ Err k → event_spelt t l s b ≡ Err k
  unfolding event_spelt
  event-list-refused told said = rw (refused-is (list_spelt t l) told said)

  pub event-body-refused : {w : ℕ} {k : Refusal} {r q : Whole ℕ} → r ≡ measured (list_spelt t l) → r ≡ Ok w → q ≡ measured (body_spelt l.count s b) → q ≡ Err k
      → event_spelt t l s b ≡ Err k
  unfolding event_spelt
  event-body-refused told said told2 said2 = rw ((list_spelt_lem t l told said).spelt.is, refused-is (body_spelt l.count s b) told2 said2)

  pub record EventSpelt (v w : ℕ) : Type 0 where
    pub list : ListSpelt t l v
    pub body : BodySpelt l.count s b w
    pub spelt : Spelt (event_spelt t l s b) (spell 1 ++ (list_bytes (texts t l) ++ body_bytes (body_of l.count s b))) (1 + v + w)

  pub event_spelt_lem : {v w : ℕ} {r q : Whole ℕ} → r ≡ measured (list_spelt t l) → r ≡ Ok v → q ≡ measured (body_spelt l.count s b) → q ≡ Ok w → EventSpelt v w
  unfolding event_spelt
  event_spelt_lem told said told2 said2 =
      let f = list_spelt_lem t l told said in
      let g = body_spelt_lem l.count s b told2 said2 in
      record {
        list = f;
        body = g;
        spelt = record {
          is = rw (f.spelt.is, g.spelt.is);
          long = simp length-append (omega (arith, one_byte 1 (omega arith), f.spelt.long, g.spelt.long));
        };
      }

-- ---- what a call of a writing function ends with

module _ (out : List ℕ) (at behind : ℕ) where
  pub wrote-refused : {g : Whole (List ℕ)} {k : Refusal} → g ≡ Err k → Wrote out out at behind g (Err k)
  wrote-refused e = record { answers = rw e; holds = rw e }

  -- there is room, or there is not
  module _ {g : Whole (List ℕ)} {b : List ℕ} {w : ℕ} (spelt : Spelt g b w) where
    pub wrote-short : false ≡ leb (at + (w + behind)) (length out) → Wrote out out at behind g (Err (no 15))
    wrote-short told =
        let room : leb (at + (length b + behind)) (length out) ≡ false = rw spelt.long (sym told) in
        record { answers = rw (spelt.is, room); holds = rw (spelt.is, room) }

    pub spelt_room : true ≡ leb (at + (w + behind)) (length out) → Room out at b
    spelt_room told = omega (arith, leb-true (at + (w + behind)) (length out) (sym told), spelt.long)

    pub wrote_put : {after : List ℕ} {next : ℕ} → true ≡ leb (at + (w + behind)) (length out) → Put out after at b next → Wrote out after at behind g (Ok next)
    wrote_put told p =
        let room : leb (at + (length b + behind)) (length out) ≡ true = rw spelt.long (sym told) in
        record { answers = rw (spelt.is, room, p.ends); holds = rw (spelt.is, room) p.holds }
