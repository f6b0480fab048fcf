-- What the definitions say together: a number has one spelling, its spelling is read back, and writing changes no other byte. Assumes nothing.
use Prim.Native.Nat.{ℕ, zero, suc, ◌+◌, ◌-◌, ◌*◌, ◌/◌, ◌%◌, ◌<◌, ◌≤◌}
use native.Mathlib.Omega.{arith}
use mathlib.Core.Path.{◌≡◌, refl, sym, ap, ◌∙◌}
use mathlib.Core.Logic.{◌⊎◌, ⊎_elim}
use mathlib.Core.Bool.{Bool, true, false, cond, ◌||◌}
use mathlib.Core.List.{List, [], ◌∷◌, ◌++◌, map}
use lib.ListN.{length, take, drop, get_or, length-append, length-drop, get_or-append}
use lib.Seq.{length-take-le, drop_at, get_or-take, get_or-drop, get_or-append-add}
use lib.Dec.{ltb}
use borrow.Author.Tests.{lt-ltb, le-ltb, ltb-true, ltb-false, leb-true, eqb-false, ne_eqb}
use Rattle.refusal.specs.Refusal.{no}
use Rattle.lists.proofs.Cases.{split}
use Rattle.std.specs.Prelude.{Ok, Err}
use Rattle.leb128.proofs.Gots.{got_value, got_next}
use Rattle.leb128.specs.Leb128.{Read, got, last_number, field, value_of, closed, padded, field_read, read_at, groups, spell, width_of, fits_at, bytes_at}
use Rattle.leb128.proofs.Laws.{read_closed, read_open, narrow, wider, lengths, Holds}

-- every element is a byte
abbrev pub Bytes : List ℕ → Type 0
Bytes s = (i : ℕ) → get_or s i 0 < 256

-- true is not false
clash : {A : Type 0} → true ≡ false → A
clash e = let z : ◌≡◌ {A = ℕ} 0 1 = cc in absurd (omega arith)

-- ---- the groups of a number, one by one
module _ (P : ℕ → ℕ → List ℕ → Type 0) (one : (k n : ℕ) → n < 128 → P k n (n ∷ []))
    (more : (k n : ℕ) (g : List ℕ) → 128 ≤ n → P k (n / 128) g → P (suc k) n ((128 + n % 128) ∷ g)) where
  each : (k n : ℕ) → Holds k n → P k n (groups k n)
  each zero n h = rw (narrow zero n h) (one zero n h)
  each (suc k) n h = ⊎_elim (λ l. rw (narrow (suc k) n l) (one (suc k) n l)) (λ l. rw (wider k n l) (more k n (groups k (n / 128)) l (each k (n / 128) h))) (split n 128)

four : (n : ℕ) → n ≤ last_number → Holds 4 n
four n h = omega arith

-- a spelling ends, is not padded, also behind one byte more, and has its number as value
record Spells (n : ℕ) (g : List ℕ) : Type 0 where
  whole : closed g ≡ true
  shortest : padded g ≡ false
  behind : (b : ℕ) → 1 ≤ n → padded (b ∷ g) ≡ false
  value : value_of g ≡ n
  bytes : Bytes g

spells : (k n : ℕ) → Holds k n → Spells n (groups k n)
unfolding closed padded value_of
spells = each (λ k n g. Spells n g)
    (λ k n h. record {
      whole = lt-ltb n 128 h;
      shortest = refl;
      behind = λ b l. ne_eqb n 0 (λ e. omega arith);
      value = omega arith;
      bytes = only n h;
    })
    (λ k n g h r. longer n g h r)
  where
    only : (n : ℕ) → n < 128 → Bytes (n ∷ [])
    only n h zero = omega arith
    only n h (suc i) = omega arith

    longer : (n : ℕ) (g : List ℕ) → 128 ≤ n → Spells (n / 128) g → Spells n ((128 + n % 128) ∷ g)
    longer n [] h r = clash (sym r.whole)
    longer n (c ∷ g) h r = record {
      whole = r.whole;
      shortest = r.behind (128 + n % 128) (omega arith);
      behind = λ b l. r.behind (128 + n % 128) (omega arith);
      value = omega (arith, r.value);
      bytes = first r.bytes;
    }
      where
        first : Bytes (c ∷ g) → Bytes ((128 + n % 128) ∷ c ∷ g)
        first t zero = omega arith
        first t (suc i) = t i

field-groups : (t : List ℕ) (k n : ℕ) → Holds k n → field (suc k) (groups k n ++ t) ≡ groups k n
unfolding field
field-groups t = each (λ k n g. field (suc k) (g ++ t) ≡ g) (λ k n h. rw (lt-ltb n 128 h)) (λ k n g h r. rw (le-ltb (128 + n % 128) 128 (omega arith), r))

-- a number's bytes are read as that number, whatever stands around them
pub read_spelt : (n at : ℕ) (s rest : List ℕ) → n ≤ last_number → drop at s ≡ spell n ++ rest → read_at s at ≡ got n (at + width_of n)
read_spelt n at s rest h e =
    let g = spells 4 n (four n h) in
    rw (e, field-groups rest 4 n (four n h), read_closed (spell n) at n (at + width_of n) false g.whole g.value g.shortest refl, le-ltb last_number n h)

-- no two numbers have the same bytes
pub spell_injective : (m n : ℕ) → m ≤ last_number → n ≤ last_number → spell m ≡ spell n → m ≡ n
spell_injective m n h k e = sym (spells 4 m (four m h)).value ∙ (ap value_of e ∙ (spells 4 n (four n k)).value)

-- a number takes one to five bytes
pub width_range : (n : ℕ) → (1 ≤ width_of n) × (width_of n ≤ 5)
width_range n = lengths 4 n

-- what a number is spelt by is bytes
pub spell_bytes : (n : ℕ) → n ≤ last_number → Bytes (spell n)
spell_bytes n h = (spells 4 n (four n h)).bytes

-- ---- what was read was spelt
-- what a value says of its field
record Whole (f : List ℕ) (at n next : ℕ) : Type 0 where
  whole : closed f ≡ true
  most : value_of f ≤ last_number
  shortest : padded f ≡ false
  value : value_of f ≡ n
  place : at + length f ≡ next

read_value : (f : List ℕ) (at n next : ℕ) → field_read f at ≡ got n next → Whole f at n next
unfolding field_read
read_value f at n next = pick (closed f) (ltb last_number (value_of f)) (padded f) (ltb (length f) 5) refl refl refl
  where
    pick : (c t u w : Bool) → closed f ≡ c → ltb last_number (value_of f) ≡ t → padded f ≡ u
        → cond c (cond (t || u) (Err (no 2)) (got (value_of f) (at + length f))) (cond w (Err (no 1)) (Err (no 2))) ≡ got n next → Whole f at n next
    pick true false false w a b c e = record { whole = a; most = ltb-false _ _ b; shortest = c; value = got_value e; place = got_next e }
    pick true false true w a b c e = let z : ◌≡◌ {A = ℕ} 0 1 = cc in absurd (omega arith)
    pick true true u w a b c e = let z : ◌≡◌ {A = ℕ} 0 1 = cc in absurd (omega arith)
    pick false t u true a b c e = let z : ◌≡◌ {A = ℕ} 0 1 = cc in absurd (omega arith)
    pick false t u false a b c e = let z : ◌≡◌ {A = ℕ} 0 1 = cc in absurd (omega arith)

-- a group that is not padding makes a value that isn't zero
positive : (b d : ℕ) (g : List ℕ) → closed (d ∷ g) ≡ true → padded (b ∷ d ∷ g) ≡ false → 1 ≤ value_of (d ∷ g)
unfolding closed padded value_of
positive b d [] c p = let n : d ≡ 0 → ⊥ = eqb-false d 0 p in omega (arith, ltb-true d 128 c)
positive b d (e ∷ g) c p = omega (arith, positive d e g c p)

lone : (k b : ℕ) → b < 128 → groups k (value_of (b ∷ [])) ≡ b ∷ []
unfolding value_of
lone k b h = let e : b % 128 + 128 * 0 ≡ b = omega arith in rw e (narrow k b h)

longer : (k b : ℕ) (g : List ℕ) → 128 ≤ b → b < 256 → (closed g ≡ true → padded g ≡ false → groups k (value_of g) ≡ g)
    → closed (b ∷ g) ≡ true → padded (b ∷ g) ≡ false → groups (suc k) (value_of (b ∷ g)) ≡ b ∷ g
unfolding closed padded value_of
longer k b [] h l r c p = clash (sym c ∙ le-ltb b 128 h)
longer k b (d ∷ g) h l r c p =
    let m = positive b d g c p in
    let v : ℕ = value_of (d ∷ g) in
    let low : 128 + (b % 128 + 128 * v) % 128 ≡ b = omega arith in
    let high : (b % 128 + 128 * v) / 128 ≡ v = omega arith in
    wider k (b % 128 + 128 * v) (omega arith) ∙ rw (low, high, r c (rest g p))
  where
    rest : (g : List ℕ) → padded (b ∷ d ∷ g) ≡ false → padded (d ∷ g) ≡ false
    rest [] p = refl
    rest (e ∷ g) p = p

spelt : (k : ℕ) (s : List ℕ) → Bytes s → closed (field (suc k) s) ≡ true → padded (field (suc k) s) ≡ false → groups k (value_of (field (suc k) s)) ≡ field (suc k) s
unfolding field closed
spelt zero [] t = λ c p. clash (sym c)
spelt (suc k) [] t = λ c p. clash (sym c)
spelt zero (b ∷ s) t = ⊎_elim (λ h. rw (lt-ltb b 128 h) (λ c p. lone zero b h)) (λ h. rw (le-ltb b 128 h) (λ c p. clash (sym c ∙ le-ltb b 128 h))) (split b 128)
spelt (suc k) (b ∷ s) t =
    ⊎_elim (λ h. rw (lt-ltb b 128 h) (λ c p. lone (suc k) b h))
    (λ h. rw (le-ltb b 128 h) (longer k b (field (suc k) s) h (t 0) (spelt k s (λ i. t (suc i)))))
    (split b 128)

field-take : (k : ℕ) (s : List ℕ) → take (length (field k s)) s ≡ field k s
unfolding field
field-take zero s = refl
field-take (suc k) [] = refl
field-take (suc k) (b ∷ s) = ap (λ (l : List ℕ). b ∷ l) (pick (ltb b 128) (field-take k s))
  where
    pick : (t : Bool) → take (length (field k s)) s ≡ field k s → take (length (cond t [] (field k s))) s ≡ cond t [] (field k s)
    pick true h = refl
    pick false h = h

-- what is read as a number, and the place behind it
pub record Spelt (s : List ℕ) (at n next : ℕ) : Type 0 where
  pub bytes : take (next - at) (drop at s) ≡ spell n
  pub behind : next ≡ at + width_of n
  pub range : n ≤ last_number

-- only a number's own bytes are read as that number
pub only_spelling : (s : List ℕ) (at n next : ℕ) → Bytes s → read_at s at ≡ got n next → Spelt s at n next
only_spelling s at n next t e =
    let w = read_value (field 5 (drop at s)) at n next e in
    let g : spell n ≡ field 5 (drop at s) = rw (← w.value) (spelt 4 (drop at s) (λ i. rw get_or-drop (t (at + i))) w.whole w.shortest) in
    let l : next - at ≡ length (field 5 (drop at s)) = omega (arith, w.place) in
    record {
      bytes = rw (l, field-take 5 (drop at s)) (sym g);
      behind = omega (arith, w.place, ap length g);
      range = omega (arith, w.value, w.most);
    }

field_within : (k : ℕ) (s : List ℕ) → length (field k s) ≤ length s
unfolding field
field_within zero s = omega arith
field_within (suc k) [] = omega arith
field_within (suc k) (b ∷ s) = pick (ltb b 128) (field_within k s)
  where
    pick : (t : Bool) → length (field k s) ≤ length s → suc (length (cond t [] (field k s))) ≤ suc (length s)
    pick true h = omega arith
    pick false h = omega arith

closed_some : (f : List ℕ) → closed f ≡ true → 1 ≤ length f
unfolding closed
closed_some [] c = clash (sym c)
closed_some (b ∷ f) c = omega arith

-- a number that is read ends inside the bytes
pub read_inside : (s : List ℕ) (at n next : ℕ) → read_at s at ≡ got n next → next ≤ length s
read_inside s at n next e =
    let w = read_value (field 5 (drop at s)) at n next e in
    omega (arith, w.place, closed_some (field 5 (drop at s)) w.whole, field_within 5 (drop at s), length-drop at s)

-- ---- where the bytes end inside a field
-- every byte has the high bit
abbrev High : List ℕ → Type 0
High s = (i : ℕ) → i < length s → 128 ≤ get_or s i 0

-- the bytes from a place on are fewer than five, and all have the high bit
pub record Unended (s : List ℕ) (at : ℕ) : Type 0 where
  pub few : length (drop at s) < 5
  pub high : (i : ℕ) → i < length (drop at s) → 128 ≤ get_or (drop at s) i 0

read_unended : (f : List ℕ) (at : ℕ) → field_read f at ≡ Err (no 1) → (closed f ≡ false) × (length f < 5)
unfolding field_read
read_unended f at = pick (closed f) (ltb last_number (value_of f) || padded f) (ltb (length f) 5) refl refl
  where
    pick : (c t w : Bool) → closed f ≡ c → ltb (length f) 5 ≡ w
        → cond c (cond t (Err (no 2)) (got (value_of f) (at + length f))) (cond w (Err (no 1)) (Err (no 2))) ≡ Err (no 1) → (closed f ≡ false) × (length f < 5)
    pick true true w a b e = let z : ◌≡◌ {A = ℕ} 0 1 = cc in absurd (omega arith)
    pick true false w a b e = let z : ◌≡◌ {A = ℕ} 0 1 = cc in absurd (omega arith)
    pick false t true a b e = (a, ltb-true _ _ b)
    pick false t false a b e = let z : ◌≡◌ {A = ℕ} 0 1 = cc in absurd (omega arith)

unclosed : (k : ℕ) (s : List ℕ) → closed (field k s) ≡ false → length (field k s) < k → (length s < k) × High s
unfolding field closed
unclosed zero s = λ c l. absurd (omega arith)
unclosed (suc k) [] = λ c l. (omega arith, λ i h. absurd (omega arith))
unclosed (suc k) (b ∷ s) =
    ⊎_elim (λ h. rw (lt-ltb b 128 h) (λ c l. clash (sym (lt-ltb b 128 h) ∙ c)))
    (λ h. rw (le-ltb b 128 h) (λ c l. more h (unclosed k s (rest (field k s) c) (omega arith))))
    (split b 128)
  where
    rest : (g : List ℕ) → closed (b ∷ g) ≡ false → closed g ≡ false
    rest [] c = refl
    rest (d ∷ g) c = c

    each_high : 128 ≤ b → High s → High (b ∷ s)
    each_high h r zero l = h
    each_high h r (suc i) l = r i (omega arith)

    more : 128 ≤ b → (length s < k) × High s → (length (b ∷ s) < suc k) × High (b ∷ s)
    more h r = (omega (arith, r.0), each_high h r.1)

all_high : (k : ℕ) (s : List ℕ) → length s < k → High s → (field k s ≡ s) × (closed s ≡ false)
unfolding field closed
all_high zero s l h = absurd (omega arith)
all_high (suc k) [] l h = (refl, refl)
all_high (suc k) (b ∷ s) l h = let r = all_high k s (omega arith) (λ i m. h (suc i) (omega arith)) in (rw (le-ltb b 128 (h 0 (omega arith)), r.0), rest s r.1)
  where
    rest : (g : List ℕ) → closed g ≡ false → closed (b ∷ g) ≡ false
    rest [] c = le-ltb b 128 (h 0 (omega arith))
    rest (d ∷ g) c = c

-- refusal 1 is answered just where the bytes end inside a field
pub refused_one : (s : List ℕ) (at : ℕ) → (read_at s at ≡ Err (no 1) → Unended s at) × (Unended s at → read_at s at ≡ Err (no 1))
refused_one s at = (gone, back)
  where
    gone : read_at s at ≡ Err (no 1) → Unended s at
    gone e = let r = read_unended (field 5 (drop at s)) at e in let u = unclosed 5 (drop at s) r.0 r.1 in record { few = u.0; high = u.1 }

    back : Unended s at → read_at s at ≡ Err (no 1)
    back u = let h = all_high 5 (drop at s) u.few u.high in rw h.0 (read_open (drop at s) at h.1 u.few)

-- ---- writing
-- the bytes written are read as the number
pub write_read : (out : List ℕ) (at n : ℕ) → fits_at out at n ≡ true → n ≤ last_number → read_at (bytes_at out at n) at ≡ got n (at + width_of n)
write_read out at n f h = read_spelt n at (bytes_at out at n) (drop (at + width_of n) out) h
    (rw f (drop_at (take at out) _ at (length-take-le at out (omega (arith, leb-true (at + width_of n) (length out) f)))))

-- where the number doesn't fit, nothing is written
pub write_refused : (out : List ℕ) (at n : ℕ) → fits_at out at n ≡ false → bytes_at out at n ≡ out
write_refused out at n f = rw f

-- bytes put over a list's own
module _ (out new : List ℕ) (at : ℕ) (h : at + length new ≤ length out) where
  before : length (take at out) ≡ at
  before = length-take-le at out (omega arith)

  over-length : length (take at out ++ (new ++ drop (at + length new) out)) ≡ length out
  over-length = simp (length-append, before, length-drop) (omega arith)

  over-other : (i : ℕ) → (i < at) ⊎ (at + length new ≤ i) → get_or (take at out ++ (new ++ drop (at + length new) out)) i 0 ≡ get_or out i 0
  over-other i = ⊎_elim (λ l. get_or-append (take at out) _ 0 i (omega (arith, before)) ∙ get_or-take at out i 0 l)
      (λ l.
      let e : i ≡ length (take at out) + (length new + (i - (at + length new))) = omega (arith, before) in
      let m : at + length new + (i - (at + length new)) ≡ i = omega arith in
      ap (λ (j : ℕ). get_or (take at out ++ (new ++ drop (at + length new) out)) j 0) e
      ∙ (get_or-append-add (take at out) _ _ 0 ∙ (get_or-append-add new _ _ 0 ∙ (get_or-drop (at + length new) out _ 0 ∙ ap (λ (j : ℕ). get_or out j 0) m))))

-- the buffer stays as long as it was
pub write_length : (out : List ℕ) (at n : ℕ) → length (bytes_at out at n) ≡ length out
write_length out at n = pick (fits_at out at n) refl
  where
    pick : (t : Bool) → fits_at out at n ≡ t → length (cond t (take at out ++ (spell n ++ drop (at + width_of n) out)) out) ≡ length out
    pick true f = over-length out (spell n) at (leb-true (at + width_of n) (length out) f)
    pick false f = refl

-- every byte before and behind the number's place is as it was
pub write_outside : (out : List ℕ) (at n i : ℕ) → (i < at) ⊎ (at + width_of n ≤ i) → get_or (bytes_at out at n) i 0 ≡ get_or out i 0
write_outside out at n i o = pick (fits_at out at n) refl
  where
    pick : (t : Bool) → fits_at out at n ≡ t → get_or (cond t (take at out ++ (spell n ++ drop (at + width_of n) out)) out) i 0 ≡ get_or out i 0
    pick true f = over-other out (spell n) at (leb-true (at + width_of n) (length out) f) i o
    pick false f = refl

-- ---- the document's rows
-- bytes, and what they are read as
abbrev pub rows : List (List ℕ × Read ℕ)
rows =
    (0x7F ∷ [], got 127 1)
    ∷ (0x80 ∷ 0x01 ∷ [], got 128 2)
    ∷ (0xFF ∷ 0xFF ∷ 0x03 ∷ [], got 65535 3)
    ∷ (0x80 ∷ 0x80 ∷ 0x04 ∷ [], got 65536 3)
    ∷ (0xFF ∷ 0xFF ∷ 0xFF ∷ 0xFF ∷ 0x0F ∷ [], got 4294967295 5)
    ∷ (0xFF ∷ 0xFF ∷ 0xFF ∷ 0xFF ∷ 0x10 ∷ [], Err (no 2))
    ∷ (0x80 ∷ 0x00 ∷ [], Err (no 2))
    ∷ []

-- the spelling of the number read; where none was, the bytes themselves
abbrev pub respelt : List ℕ → Read ℕ → List ℕ
respelt b (Ok g) = spell g.value
respelt b (Err r) = b

-- every row's bytes are read so, and are the spelling of the number read
pub rows_hold : map (λ (r : List ℕ × Read ℕ). (respelt r.0 r.1, read_at r.0 0)) rows ≡ rows
unfolding field value_of closed padded field_read groups
rows_hold = refl
