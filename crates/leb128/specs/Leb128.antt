-- A telegram number, from document 01's section Telegrams and DWARF 4, section 7.6: groups of seven bits, low group first, high
-- bit set on all but the last; the last group isn't zero unless it is the only one; at most five bytes. Assumes nothing.
use Rattle.std.specs.Prelude.{ℕ, Result, Ok, Err, zero, suc, ◌+◌, ◌*◌, ◌/◌, ◌%◌, ◌≡◌, Bool, false, cond, ◌||◌, List, [], ◌∷◌, length, drop, ltb, leb, eqb}
use Rattle.lists.specs.Lists.{laid}
use Rattle.refusal.specs.Refusal.{no}
use Rattle.refusal.specs.declared.Refusal.{Refusal}
use Rattle.leb128.specs.declared.Got.{Got}

-- ---- what reading at a place gives: a thing and the place behind it, or a refusal

abbrev pub Read : Type 0 → Type 0
Read A = Result (Got A) Refusal

abbrev pub got : {A : Type 0} → A → ℕ → Read A
got a next = Ok (record { value = a; next = next })

-- ---- reading

abbrev pub last_number : ℕ
last_number = 4294967295

-- the field that begins a list of bytes: those with the high bit set and the one after them, at most k
unfoldable pub field : ℕ → List ℕ → List ℕ
field zero s = []
field (suc k) [] = []
field (suc k) (b ∷ s) = b ∷ cond (ltb b 128) [] (field k s)

-- groups of seven bits, low group first
unfoldable pub value_of : List ℕ → ℕ
value_of [] = 0
value_of (b ∷ s) = b % 128 + 128 * value_of s

-- the last byte has no high bit
unfoldable pub closed : List ℕ → Bool
closed [] = false
closed (b ∷ []) = ltb b 128
closed (b ∷ c ∷ s) = closed (c ∷ s)

-- the last group is zero and isn't the only one
unfoldable pub padded : List ℕ → Bool
padded [] = false
padded (b ∷ []) = false
padded (b ∷ c ∷ []) = eqb c 0
padded (b ∷ c ∷ d ∷ s) = padded (c ∷ d ∷ s)

-- what a field at a place is read as: 1 where the bytes end before it does; 2 where five bytes have the high bit, where it is
-- too large or not shortest; else its value, and the place behind it
unfoldable pub field_read : List ℕ → ℕ → Read ℕ
field_read f at =
    cond (closed f)
    (cond (ltb last_number (value_of f) || padded f) (Err (no 2)) (got (value_of f) (at + length f)))
    (cond (ltb (length f) 5) (Err (no 1)) (Err (no 2)))

abbrev pub read_at : List ℕ → ℕ → Read ℕ
read_at s at = field_read (field 5 (drop at s)) at

-- ---- writing

-- the groups of a number, with k more bytes after the first at most
unfoldable pub groups : ℕ → ℕ → List ℕ
groups zero n = n ∷ []
groups (suc k) n = cond (ltb n 128) (n ∷ []) ((128 + n % 128) ∷ groups k (n / 128))

-- the shortest form of a number: at most five bytes
abbrev pub spell : ℕ → List ℕ
spell n = groups 4 n

abbrev pub width_of : ℕ → ℕ
width_of n = length (spell n)

-- the buffer holds the number's bytes from a place on
abbrev pub fits_at : List ℕ → ℕ → ℕ → Bool
fits_at out at n = leb (at + width_of n) (length out)

-- what writing a number at a place answers: the place behind it, or 15 where the buffer is too short
abbrev pub write_at : List ℕ → ℕ → ℕ → Result ℕ Refusal
write_at out at n = cond (fits_at out at n) (Ok (at + width_of n)) (Err (no 15))

-- what the buffer then holds: the number's bytes in their place, and every other byte as it was
abbrev pub bytes_at : List ℕ → ℕ → ℕ → List ℕ
bytes_at out at n = cond (fits_at out at n) (laid out at (spell n)) out

-- the answer and the buffer afterwards
pub record Wrote (out after : List ℕ) (at n : ℕ) (answer : Result ℕ Refusal) : Type 0 where
  pub answers : answer ≡ write_at out at n
  pub holds : after ≡ bytes_at out at n
