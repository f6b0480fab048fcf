-- Laws on lists of bytes and numbers that the functions' proofs cite. Assumes nothing.
use Prim.Native.Nat.{ℕ, zero, suc, ◌+◌, ◌-◌, ◌*◌, ◌/◌, ◌%◌, ◌<◌, ◌≤◌}
use native.Mathlib.Omega.{arith}
use native.Mathlib.Numerals.{add-one}
use native.Mathlib.Nat.{mul-le-mul, mul_assoc}
use mathlib.Core.Path.{◌≡◌, refl, sym, ap, ◌∙◌}
use mathlib.Core.Logic.{◌⊎◌, inl, inr, ⊎_elim}
use mathlib.Core.Bool.{Bool, true, false, cond, ◌||◌, ◌&&◌}
use mathlib.Core.List.{List, [], ◌∷◌, ◌++◌, append_assoc, append-nil}
use lib.ListN.{length, take, drop, get_or, set, length-append, length-set, drop_of_length-le}
use lib.Seq.{drop-cons, set_split, take-suc-set, drop-set-lt}
use lib.Dec.{ltb, eqb}
use borrow.Author.Tests.{lt-ltb, le-ltb, le-leb, lt-leb}
use Rattle.lists.proofs.Cases.{split}
use Rattle.refusal.specs.Refusal.{no}
use Rattle.std.specs.Prelude.{Ok, Err}
use Rattle.leb128.specs.Leb128.{Read, got, last_number, field, value_of, closed, padded, field_read, read_at, groups, spell, width_of, Wrote}

pub product : (a b m n : ℕ) → a ≤ m → b ≤ n → a * b ≤ m * n
product a b m n h k = mul-le-mul h k

-- ---- a byte more behind a list
closed_snoc : (s : List ℕ) (b : ℕ) → closed (s ++ (b ∷ [])) ≡ ltb b 128
unfolding closed
closed_snoc [] b = refl
closed_snoc (a ∷ []) b = refl
closed_snoc (a ∷ c ∷ s) b = closed_snoc (c ∷ s) b

padded_snoc : (a : ℕ) (s : List ℕ) (b : ℕ) → padded (a ∷ (s ++ (b ∷ []))) ≡ eqb b 0
unfolding padded
padded_snoc a [] b = refl
padded_snoc a (c ∷ []) b = refl
padded_snoc a (c ∷ d ∷ s) b = padded_snoc c (d ∷ s) b

-- the scale of the group behind so many
abbrev scale_of : ℕ → ℕ
scale_of zero = 1
scale_of (suc j) = scale_of j * 128

scale_pos : (j : ℕ) → 1 ≤ scale_of j
scale_pos zero = omega arith
scale_pos (suc j) = omega (arith, scale_pos j)

value_snoc : (s : List ℕ) (b : ℕ) → value_of (s ++ (b ∷ [])) ≡ value_of s + b % 128 * scale_of (length s)
unfolding value_of
value_snoc [] b = omega arith
value_snoc (a ∷ s) b = omega (arith, value_snoc s b, mul_assoc (b % 128) (scale_of (length s)) 128)

zero-behind : (s : List ℕ) (b : ℕ) → padded (s ++ (b ∷ [])) ≡ (eqb b 0 && ltb 1 (scale_of (length s)))
unfolding padded
zero-behind [] b = both (eqb b 0)
  where
    both : (t : Bool) → false ≡ (t && false)
    both true = refl
    both false = refl
zero-behind (a ∷ s) b = rw (padded_snoc a s b, lt-ltb 1 (scale_of (length s) * 128) (omega (arith, scale_pos (length s)))) (both (eqb b 0))
  where
    both : (t : Bool) → t ≡ (t && true)
    both true = refl
    both false = refl

-- the fifth group's scale, or one of those before it
scales : (j : ℕ) → j ≤ 4 → ((j ≡ 4) × (scale_of j ≡ 268435456)) ⊎ ((j < 4) × (scale_of j ≤ 2097152))
scales zero h = inr (omega arith, omega arith)
scales (suc zero) h = inr (omega arith, omega arith)
scales (suc (suc zero)) h = inr (omega arith, omega arith)
scales (suc (suc (suc zero))) h = inr (omega arith, omega arith)
scales (suc (suc (suc (suc zero)))) h = inl (refl, refl)
scales (suc (suc (suc (suc (suc j))))) h = absurd (omega arith)

-- ---- reading
-- what a whole field is read as, given its value, whether it is padded, and the place behind it
pub read_closed : (f : List ℕ) (at v n : ℕ) (q : Bool) → closed f ≡ true → value_of f ≡ v → padded f ≡ q → at + length f ≡ n
    → field_read f at ≡ cond (ltb last_number v || q) (Err (no 2)) (got v n)
unfolding field_read
read_closed f at v n q c e p l = rw (c, e, p, l)

-- what the start of a field is read as, where the bytes end
pub read_open : (f : List ℕ) (at : ℕ) → closed f ≡ false → length f < 5 → field_read f at ≡ Err (no 1)
unfolding field_read
read_open f at c l = rw (c, lt-ltb (length f) 5 l)

-- what the loop knows: the bytes passed, none of which ends the field, and how many may follow the next
pub record Reading (s : List ℕ) (at i p v : ℕ) : Type 0 where
  pub passed : List ℕ
  pub more : ℕ
  pub few : length passed + more ≡ 4
  pub same : field 5 (drop at s) ≡ passed ++ field (suc more) (drop i s)
  pub unclosed : closed passed ≡ false
  pub place : i ≡ at + length passed
  pub scale : p ≡ scale_of (length passed)
  pub sum : v ≡ value_of passed
  pub small : v < p

pub begin : (s : List ℕ) (at : ℕ) → Reading s at at 1 0
unfolding closed value_of
begin s at = record { passed = []; more = 4; few = refl; same = refl; unclosed = refl; place = omega arith; scale = refl; sum = refl; small = omega arith }

pub scale_most : {s : List ℕ} {at i p v : ℕ} → Reading s at i p v → p ≤ 268435456
scale_most r = ⊎_elim (λ w. omega (arith, w.1, r.scale)) (λ w. omega (arith, w.1, r.scale)) (scales (length r.passed) (omega (arith, r.few)))

pub group_most : {s : List ℕ} {at i p v b : ℕ} → Reading s at i p v → 128 ≤ b → b < 256 → (b - 128) * p ≤ 127 * 268435456
group_most {p = p} {b = b} r h k = product (b - 128) p 127 268435456 (omega arith) (scale_most r)

-- a byte more
module _ {s : List ℕ} {at i p v b : ℕ} (r : Reading s at i p v) (l : i < length s) (e : b ≡ get_or s i 0) where
  head : drop i s ≡ b ∷ drop (i + 1) s
  head = rw (add-one, e, drop-cons s i 0)

  longer : at + length (r.passed ++ (b ∷ [])) ≡ i + 1
  longer = omega (arith, r.place, length-append r.passed (b ∷ []))

  whole : (t : List ℕ) → cond (ltb b 128) [] (field r.more (drop (i + 1) s)) ≡ t → field 5 (drop at s) ≡ r.passed ++ (b ∷ t)
  unfolding field
  whole t h = r.same ∙ rw (head, h)

  value : b < 128 → value_of (r.passed ++ (b ∷ [])) ≡ v + b * p
  value h = let m : b % 128 ≡ b = omega arith in value_snoc r.passed b ∙ rw (r.sum, r.scale, m)

  pub ends : {t : Read ℕ} → b < 128 → t ≡ cond (ltb last_number (v + b * p) || (eqb b 0 && ltb 1 p)) (Err (no 2)) (got (v + b * p) (i + 1)) → t ≡ read_at s at
  ends h e =
      let f = whole [] (rw (lt-ltb b 128 h)) in
      e ∙ sym (rw f (read_closed (r.passed ++ (b ∷ [])) at _ _ _ (closed_snoc r.passed b ∙ lt-ltb _ _ h) (value h) (rw r.scale (zero-behind r.passed b)) longer))

  pub large : 128 ≤ b → p ≡ 268435456 → read_at s at ≡ Err (no 2)
  unfolding field field_read
  large h k =
      let none : r.more ≡ 0 = ⊎_elim (λ w. omega (arith, w.0, r.few)) (λ w. absurd (omega (arith, w.1, r.scale))) (scales (length r.passed) (omega (arith, r.few))) in
      let five : length (r.passed ++ (b ∷ [])) ≡ 5 = omega (arith, r.few, length-append r.passed (b ∷ [])) in
      rw (whole [] (rw (le-ltb b 128 h, none)), closed_snoc, le-ltb b 128 h, five)

  pub goes : 128 ≤ b → b < 256 → (p ≡ 268435456 → ⊥) → Reading s at (i + 1) (p * 128) (v + (b - 128) * p)
  unfolding value_of
  goes h k n = rest r.more refl
    where
      few : (r.more ≡ 0) → ⊥
      few z = ⊎_elim (λ w. n (r.scale ∙ w.1)) (λ w. absurd (omega (arith, w.0, r.few))) (scales (length r.passed) (omega (arith, r.few)))

      m : b % 128 ≡ b - 128
      m = omega arith

      step : (j : ℕ) → r.more ≡ suc j → Reading s at (i + 1) (p * 128) (v + (b - 128) * p)
      step j e = record {
        passed = r.passed ++ (b ∷ []);
        more = j;
        few = omega (arith, r.few, length-append r.passed (b ∷ []));
        same = whole (field (suc j) (drop (i + 1) s)) (rw (le-ltb b 128 h, e)) ∙ sym (append_assoc r.passed (b ∷ []) _);
        unclosed = closed_snoc r.passed b ∙ le-ltb b 128 h;
        place = sym longer;
        scale = rw (length-append, add-one, r.scale);
        sum = sym (value_snoc r.passed b ∙ rw (r.sum, r.scale, m));
        small = omega (arith, product (b - 128) p 127 p (omega arith) (omega arith), r.small);
      }

      rest : (j : ℕ) → r.more ≡ j → Reading s at (i + 1) (p * 128) (v + (b - 128) * p)
      rest zero e = absurd (few e)
      rest (suc j) e = step j e

pub over : {s : List ℕ} {at i p v : ℕ} → Reading s at i p v → length s ≤ i → read_at s at ≡ Err (no 1)
unfolding field
over {s} {at} {i} r h = rw (r.same, drop_of_length-le s {i = i} h, append-nil, read_open r.passed at r.unclosed (omega (arith, r.few)))

-- ---- how many bytes a number takes
pub narrow : (k n : ℕ) → n < 128 → groups k n ≡ n ∷ []
unfolding groups
narrow zero n h = refl
narrow (suc k) n h = rw (lt-ltb n 128 h)

pub wider : (k n : ℕ) → 128 ≤ n → groups (suc k) n ≡ (128 + n % 128) ∷ groups k (n / 128)
unfolding groups
wider k n h = rw (le-ltb n 128 h)

pub width_one : (k n : ℕ) → n < 128 → length (groups k n) ≡ 1
width_one k n h = rw (narrow k n h)

pub width_more : (k n w : ℕ) → 128 ≤ n → length (groups k (n / 128)) ≡ w → length (groups (suc k) n) ≡ suc w
width_more k n w h e = rw (wider k n h, e)

-- one byte at least, and k more at most
pub lengths : (k n : ℕ) → (1 ≤ length (groups k n)) × (length (groups k n) ≤ suc k)
unfolding groups
lengths zero n = (omega arith, omega arith)
lengths (suc k) n = ⊎_elim (λ h. omega (arith, width_one (suc k) n h)) (λ h. omega (arith, lengths k (n / 128), width_more k n _ h refl)) (split n 128)

-- ---- writing
-- k groups after the first are enough for a number
abbrev pub Holds : ℕ → ℕ → Type 0
Holds zero n = n < 128
Holds (suc k) n = Holds k (n / 128)

-- what the loop knows: the rest of the number's bytes go to the place i of the buffer as it now is
pub record Putting (before now : List ℕ) (at value i n : ℕ) : Type 0 where
  pub more : ℕ
  pub holds : Holds more n
  pub long : length now ≡ length before
  pub fits : i + length (groups more n) ≤ length now
  pub same : take at before ++ (spell value ++ drop (at + width_of value) before) ≡ take i now ++ (groups more n ++ drop (i + length (groups more n)) now)

pub put_none : (out : List ℕ) (at value : ℕ) → value ≤ 4294967295 → at + width_of value ≤ length out → Putting out out at value at value
put_none out at value h f = record { more = 4; holds = omega arith; long = refl; fits = f; same = refl }

pub put_room : {before now : List ℕ} {at value i n : ℕ} → Putting before now at value i n → i < length now
put_room {n = n} r = omega (arith, r.fits, lengths r.more n)

-- a byte stored behind the bytes that stand
stored : (l : List ℕ) (i b : ℕ) (g : List ℕ) → i < length l → take i l ++ ((b ∷ g) ++ drop (i + suc (length g)) l) ≡ take (i + 1) (set l i b) ++ (g ++ drop (i + 1 + length g) (set l i b))
stored l i b g h =
    let e : i + suc (length g) ≡ i + 1 + length g = omega arith in
    let t : take (i + 1) (set l i b) ≡ take i l ++ (b ∷ []) = rw add-one (take-suc-set l i b h) in
    rw (e, t, drop-set-lt (i + 1 + length g) l i b (omega arith), append_assoc)

pub put_more : {before now : List ℕ} {at value i n : ℕ} → Putting before now at value i n → 128 ≤ n → Putting before (set now i (128 + n % 128)) at value (i + 1) (n / 128)
put_more {before} {now} {at} {value} {i} {n} r h = rest r.more refl
  where
    rest : (k : ℕ) → r.more ≡ k → Putting before (set now i (128 + n % 128)) at value (i + 1) (n / 128)
    rest zero e = absurd (let w = rw e at r.holds in omega (arith, w))
    rest (suc k) e =
        let g : groups r.more n ≡ (128 + n % 128) ∷ groups k (n / 128) = rw e (wider k n h) in
        record {
          more = k;
          holds = rw e at r.holds;
          long = length-set now i _ ∙ r.long;
          fits = omega (arith, length-set now i (128 + n % 128), r.fits, ap length g);
          same = r.same ∙ rw g (stored now i (128 + n % 128) (groups k (n / 128)) (put_room r));
        }

pub put_last : {before now : List ℕ} {at value i n : ℕ} → Putting before now at value i n → n < 128
    → set now i n ≡ take at before ++ (spell value ++ drop (at + width_of value) before)
put_last {now = now} {i = i} {n = n} r h = set_split now i n (put_room r) ∙ sym (r.same ∙ rw (narrow r.more n h, add-one))

-- ---- what a call of write ends with
pub no_room : (out : List ℕ) (at n : ℕ) → length out < at + width_of n → Wrote out out at n (Err (no 15))
no_room out at n h = let f = lt-leb (at + width_of n) (length out) h in record { answers = rw f; holds = rw f }

pub wrote : (out after : List ℕ) (at n w : ℕ) → at + width_of n ≤ length out → w ≡ width_of n → after ≡ take at out ++ (spell n ++ drop (at + width_of n) out)
    → Wrote out after at n (Ok (at + w))
wrote out after at n w h e a = let f = le-leb (at + width_of n) (length out) h in record { answers = rw (f, e); holds = rw f a }
