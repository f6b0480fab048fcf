-- Parts that lie in their slice, and lists of them. Assumes nothing.
use mathlib.Core.Path.{◌≡◌, ap, ◌∙◌}
use mathlib.Core.Bool.{true, ◌&&◌}
use mathlib.Core.List.{List, []}
use Prim.Native.Nat.{ℕ, ◌+◌, ◌≤◌, ◌<◌}
use native.Mathlib.Omega.{arith}
use lib.ListN.{length, take, drop, get_or, length-take, length-drop}
use lib.Seq.{length-take-le, get_or-take}
use lib.Dec.{leb}
use borrow.Author.Tests.{leb-true, le-leb}
use Rattle.lists.specs.Lists.{all}
use Rattle.lists.proofs.Laws.{get_or-tab, all-each, all-at, and_both}
use Rattle.telegram.specs.Fields.{text}
use Rattle.telegram.specs.Reading.{nowhere, texts}
use Rattle.telegram.specs.Writing.{part_fits, list_fits}
use Rattle.telegram.specs.declared.field.Part.{Part}
use Rattle.telegram.specs.declared.list.Names.{Names}

-- the part of a name
abbrev pub part_of : Names → ℕ → Part
part_of l i = get_or l.parts i nowhere

-- a part of those that are listed
pub listed : (l : Names) (i : ℕ) → i < length (take l.count l.parts) → (i < l.count) × (get_or (take l.count l.parts) i nowhere ≡ part_of l i)
listed l i h =
    let lt : i < l.count = omega (arith, length-take l.count l.parts) in
    (lt, get_or-take l.count l.parts i nowhere lt)

pub length-text : (s : List ℕ) (p : Part) → p.start + p.len ≤ length s → length (text s p) ≡ p.len
length-text s p h = length-take-le p.len (drop p.start s) (omega (arith, length-drop p.start s))

pub record PartIs (low high : ℕ) (s : List ℕ) (p : Part) : Type 0 where
  pub least : low ≤ p.len
  pub most : p.len ≤ high
  pub within : p.start + p.len ≤ length s

pub part_fits_lem : {low high : ℕ} {s : List ℕ} {p : Part} → PartIs low high s p → part_fits low high s p ≡ true
part_fits_lem {low} {high} {s} {p} h =
    rw (le-leb low p.len h.least, le-leb p.len high h.most, le-leb (p.start + p.len) (length s) h.within)

pub fits_part : (low high : ℕ) (s : List ℕ) (p : Part) → part_fits low high s p ≡ true → PartIs low high s p
fits_part low high s p e =
    let a = and_both (leb low p.len) (leb p.len high && leb (p.start + p.len) (length s)) e in
    let b = and_both (leb p.len high) (leb (p.start + p.len) (length s)) a.1 in
    record { least = leb-true _ _ a.0; most = leb-true _ _ b.0; within = leb-true _ _ b.1 }

pub record ListIs (s : List ℕ) (l : Names) : Type 0 where
  pub some : 1 ≤ l.count
  pub few : l.count ≤ 16
  pub parts : (i : ℕ) → i < l.count → PartIs 1 16 s (part_of l i)

pub list_fits_lem : {s : List ℕ} {l : Names} → ListIs s l → list_fits s l ≡ true
unfolding list_fits
list_fits_lem {s} {l} h =
    rw (
      le-leb 1 l.count h.some,
      le-leb l.count 16 h.few,
      all-each l.count (λ i. part_fits 1 16 s (part_of l i)) (λ i lt. part_fits_lem (h.parts i lt)),
    )

pub fits_list : (s : List ℕ) (l : Names) → list_fits s l ≡ true → ListIs s l
unfolding list_fits
fits_list s l e =
    let a = and_both (leb 1 l.count && leb l.count 16) (all l.count (λ i. part_fits 1 16 s (part_of l i))) e in
    let b = and_both (leb 1 l.count) (leb l.count 16) a.0 in
    record {
      some = leb-true _ _ b.0;
      few = leb-true _ _ b.1;
      parts = λ i lt. fits_part 1 16 s (part_of l i) (all-at l.count i (λ j. part_fits 1 16 s (part_of l j)) a.1 lt);
    }

-- each name is the bytes of its part, and as long as it
pub texts-at : (s : List ℕ) (l : Names) (i : ℕ) → i < l.count → get_or (texts s l) i [] ≡ text s (part_of l i)
unfolding texts
texts-at s l i h = get_or-tab [] l.count (λ i. text s (part_of l i)) i h

pub length_name : {s : List ℕ} {l : Names} → ListIs s l → (i : ℕ) → i < l.count → length (get_or (texts s l) i []) ≡ (part_of l i).len
length_name {s} {l} h i lt = ap length (texts-at s l i lt) ∙ length-text s (part_of l i) (h.parts i lt).within
