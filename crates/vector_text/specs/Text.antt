-- What the lines of the test programs are read by: hex digits, of which the letters are small, and numbers in decimal digits. Assumes nothing.
use Rattle.std.specs.Prelude.{ℕ, ◌+◌, ◌-◌, ◌*◌, ◌%◌, cond, ◌&&◌, List, [], ◌∷◌, length, drop, min, leb, Option, Some, None}
use Rattle.vector_text.specs.declared.Decimal.{Decimal}

-- '0' to '9' and 'a' to 'f'
abbrev pub nibble_of : ℕ → Option ℕ
nibble_of b = cond (leb 48 b && leb b 57) (Some (b - 48)) (cond (leb 97 b && leb b 102) (Some (b - 97 + 10)) None)

abbrev pub byte_by : Option ℕ → Option ℕ → Option ℕ
byte_by (Some high) (Some low) = Some (16 * high + low)
byte_by (Some high) None = None
byte_by None low = None

-- two digits and nothing else
abbrev pub hex_byte_of : List ℕ → Option ℕ
hex_byte_of [] = None
hex_byte_of (high ∷ []) = None
hex_byte_of (high ∷ low ∷ []) = byte_by (nibble_of high) (nibble_of low)
hex_byte_of (high ∷ low ∷ more ∷ s) = None

-- a number so far with one digit more: of more than eighteen the last eighteen count
abbrev pub with_digit : ℕ → ℕ → ℕ
with_digit value d = value % 100000000000000000 * 10 + d

-- the digits at the front of some bytes, which begin at place i, behind those that make a value
unfoldable pub number_from : ℕ → ℕ → List ℕ → Decimal
number_from value i [] = record { value = value; next = i }
number_from value i (b ∷ s) =
    cond (leb 48 b && leb b 57) (number_from (with_digit value (b - 48)) (i + 1) s) (record { value = value; next = i })

abbrev pub number_at_of : List ℕ → ℕ → Decimal
number_at_of text at = number_from 0 (min at (length text)) (drop (min at (length text)) text)
