-- What fits into a telegram, and how many bytes it takes. Assumes nothing.
use Prim.Native.Nat.{ℕ, zero, suc, ◌+◌, ◌*◌, ◌≤◌, ◌<◌}
use native.Mathlib.Omega.{arith}
use mathlib.Core.Path.{◌≡◌, refl, ap}
use mathlib.Core.Bool.{true, ◌&&◌}
use mathlib.Core.List.{List, [], ◌++◌}
use lib.ListN.{length, take, get_or, length-append, length-take}
use lib.Dec.{leb}
use Rattle.lists.specs.Lists.{at, all, chain}
use Rattle.lists.proofs.Laws.{length-tab, get_or-tab, chain_more, chain_same, all-at, and_both}
use Rattle.leb128.specs.Leb128.{spell, width_of}
use Rattle.leb128.proofs.Laws.{width_one}
use Rattle.leb128.proofs.Spelling.{width_range}
use Rattle.telegram.specs.declared.field.Part.{Part}
use Rattle.telegram.specs.declared.list.Names.{Names}
use Rattle.telegram.specs.declared.body.Body.{Body}
use Rattle.telegram.specs.declared.head.Head.{Head}
use Rattle.telegram.specs.Fields.{text}
use Rattle.telegram.specs.Reading.{texts}
use Rattle.telegram.specs.Meaning.{sized_bytes, list_bytes, version_bytes, body_bytes, head_bytes, body_of, heading_of}
use Rattle.telegram.specs.Writing.{part_fits, list_fits}
use Rattle.telegram.proofs.Parts.{PartIs, fits_part, fits_list, part_of, length-text}
use Rattle.telegram.proofs.Laying.{sized-text}

-- ---- bytes by place

-- a name with its length
abbrev pub name_bytes : List ℕ → Names → ℕ → List ℕ
name_bytes s l i = sized_bytes (text s (part_of l i))

pub list_bytes_lem : (s : List ℕ) (l : Names) → list_bytes (texts s l) ≡ spell l.count ++ chain l.count (name_bytes s l)
unfolding list_bytes texts
list_bytes_lem s l =
    rw (
      length-tab l.count (λ i. text s (part_of l i)),
      chain_same l.count (λ i. sized_bytes (get_or (texts s l) i [])) (name_bytes s l) (λ j h. ap sized_bytes (get_or-tab [] l.count (λ i. text s (part_of l i)) j h)),
    )

-- an entry's bytes
abbrev pub entry_bytes : List ℕ → ℕ → List ℕ
entry_bytes v j = spell (at v j)

-- what a body has behind its number, and behind its place
abbrev pub after_number : ℕ → List ℕ → Body → List ℕ
after_number count s b = version_bytes (take count b.entries) ++ sized_bytes (text s b.operation)

abbrev pub after_place : ℕ → List ℕ → Body → List ℕ
after_place count s b = spell b.number ++ after_number count s b

-- what a head has behind its sender, its list and its kind
abbrev pub after_sender : Head → ℕ → List ℕ
after_sender h count = version_bytes (take h.names.count h.entries) ++ spell count

abbrev pub after_list : Head → ℕ → List ℕ
after_list h count = spell h.sender.0 ++ after_sender h count

abbrev pub after_kind : List ℕ → Head → ℕ → List ℕ
after_kind s h count = list_bytes (texts s h.names) ++ after_list h count

-- ---- widths

pub one_byte : (n : ℕ) → n < 128 → width_of n ≡ 1
one_byte n h = width_one 4 n h

pub sized_width : {low high : ℕ} {s : List ℕ} {p : Part} → high ≤ 32 → PartIs low high s p → length (sized_bytes (text s p)) ≡ 1 + p.len
sized_width {s = s} {p = p} g f =
    rw (sized-text s p f.within, length-append (spell p.len) (text s p), length-text s p f.within, one_byte p.len (omega (arith, f.most)))

-- the bytes of f 0 .. f (i - 1), of n, are counted
pub record Measuring (f : ℕ → List ℕ) (n i total : ℕ) : Type 0 where
  pub few : n ≤ 16
  pub within : i ≤ n
  pub small : total ≤ 17 * i
  pub so_far : total ≡ length (chain i f)

pub measure_none : (f : ℕ → List ℕ) (n : ℕ) → n ≤ 16 → Measuring f n 0 0
unfolding chain
measure_none f n h = record { few = h; within = omega arith; small = omega arith; so_far = refl }

module _ {f : ℕ → List ℕ} {n i total : ℕ} (m : Measuring f n i total) where
  pub measure_more : {w : ℕ} → i < n → w ≡ length (f i) → w ≤ 17 → Measuring f n (i + 1) (total + w)
  measure_more h e g = record {
    few = m.few;
    within = omega arith;
    small = omega (arith, m.small);
    so_far = rw (chain_more i f, length-append (chain i f) (f i)) (omega (arith, m.so_far));
  }

  pub measure_all : n ≤ i → total ≡ length (chain n f)
  measure_all h = let e : n ≡ i = omega (arith, m.within) in rw e m.so_far

-- every thing of a chain has at most 17 bytes
chain_most : (n : ℕ) (f : ℕ → List ℕ) → ((j : ℕ) → j < n → length (f j) ≤ 17) → length (chain n f) ≤ 17 * n
unfolding chain
chain_most zero f h = omega arith
chain_most (suc n) f h = omega (arith, length-append (chain n f) (f n), chain_most n f (λ j lt. h j (omega arith)), h n (omega arith))

-- names of at most 16 bytes
pub names_most : (s : List ℕ) (l : Names) (n : ℕ) → n ≤ 16 → all n (λ i. part_fits 1 16 s (part_of l i)) ≡ true → length (chain n (name_bytes s l)) ≤ 272
names_most s l n h e =
    omega (
      arith,
      chain_most n (name_bytes s l) (λ j lt.
          let f = fits_part 1 16 s (part_of l j) (all-at n j (λ i. part_fits 1 16 s (part_of l i)) e lt) in omega (arith, sized_width (omega arith) f, f.most)),
    )

pub list_width : (s : List ℕ) (l : Names) → l.count ≤ 16 → length (list_bytes (texts s l)) ≡ 1 + length (chain l.count (name_bytes s l))
list_width s l h = rw (list_bytes_lem s l, length-append (spell l.count) (chain l.count (name_bytes s l)), one_byte l.count (omega arith))

pub list_most : (s : List ℕ) (l : Names) → list_fits s l ≡ true → length (list_bytes (texts s l)) ≤ 273
unfolding list_fits
list_most s l e =
    let f = fits_list s l e in
    let g = and_both (leb 1 l.count && leb l.count 16) (all l.count (λ i. part_fits 1 16 s (part_of l i))) e in
    omega (arith, list_width s l f.few, names_most s l l.count f.few g.1)

pub version_most : (v : List ℕ) (count : ℕ) → count ≤ 16 → length (version_bytes (take count v)) ≤ 272
unfolding version_bytes
version_most v count h =
    omega (arith, length-take count v, chain_most (length (take count v)) (entry_bytes (take count v)) (λ j lt. omega (arith, width_range (at (take count v) j))))

pub body_width : (count : ℕ) (s : List ℕ) (b : Body) → count ≤ 16 → b.place.0 < count → part_fits 0 32 s b.operation ≡ true
    → length (body_bytes (body_of count s b)) ≡ 1 + width_of b.number + length (version_bytes (take count b.entries)) + 1 + b.operation.len
unfolding body_bytes
body_width count s b h g e =
    let f = fits_part 0 32 s b.operation e in
    simp length-append (omega (arith, one_byte b.place.0 (omega arith), sized_width (omega arith) f))

pub body_most : (count : ℕ) (s : List ℕ) (b : Body) → count ≤ 16 → b.place.0 < count → part_fits 0 32 s b.operation ≡ true
    → length (body_bytes (body_of count s b)) ≤ 311
body_most count s b h g e =
    omega (arith, body_width count s b h g e, width_range b.number, version_most b.entries count h, (fits_part 0 32 s b.operation e).most)

pub head_width : (k : ℕ) (s : List ℕ) (h : Head) (count : ℕ) → h.sender.0 < 128
    → length (head_bytes k (heading_of s h) count) ≡ width_of k + length (list_bytes (texts s h.names)) + 1 + length (version_bytes (take h.names.count h.entries)) + width_of count
unfolding head_bytes
head_width k s h count g = simp length-append (omega (arith, one_byte h.sender.0 g))
