-- Fields of a telegram, from document 01: reading goes left to right and the first bad field decides; inside a field the order is
-- 1, 2, then 3, 4 or 9. Assumes nothing.
use Rattle.std.specs.Prelude.{ℕ, zero, suc, ◌+◌, Bool, cond, ◌&&◌, Result, Ok, Err, List, [], ◌∷◌, length, take, drop, leb, ltb, eqb}
use Rattle.refusal.specs.declared.Refusal.{Refusal}
use Rattle.refusal.specs.Refusal.{no}
use Rattle.leb128.specs.Leb128.{Read, got, read_at}
use Rattle.telegram.specs.declared.field.Kind.{Kind}
use Rattle.telegram.specs.declared.field.Kind.TheVariants as kinds
use Rattle.telegram.specs.declared.field.Part.{Part}

-- the rest is read from the place behind; a refusal is that of the first bad field
abbrev pub after : {A B : Type 0} → Read A → (A → ℕ → Read B) → Read B
after (Ok g) f = f g.value g.next
after (Err k) f = Err k

-- the place behind what was read
abbrev pub end_of : {A : Type 0} → Read A → Result ℕ Refusal
end_of (Ok g) = Ok g.next
end_of (Err k) = Err k

-- the number that a telegram of a kind begins with
abbrev pub number_of : Kind → ℕ
number_of kinds.Event = 1
number_of kinds.Batch = 2
number_of kinds.Since = 3

-- ---- numbers: 1 or 2, then 3, 4 or 9

abbrev pub number : List ℕ → ℕ → Read ℕ
number s at = read_at s at

-- a number that passes a test, or else the refusal
abbrev pub judged : Refusal → (ℕ → Bool) → Read ℕ → Read ℕ
judged k test g = after g (λ n next. cond (test n) (got n next) (Err k))

-- the telegram's kind: 3 where it is another
unfoldable pub kind : ℕ → List ℕ → ℕ → Read ℕ
kind k s at = judged (no 3) (λ n. eqb n k) (number s at)

-- a count or length: 4 outside its range
unfoldable pub counted : ℕ → ℕ → List ℕ → ℕ → Read ℕ
counted low high s at = judged (no 4) (λ n. leb low n && leb n high) (number s at)

-- a place: 9 where it isn't below its count
unfoldable pub placed : ℕ → List ℕ → ℕ → Read ℕ
placed count s at = judged (no 9) (λ n. ltb n count) (number s at)

-- ---- bytes

-- n bytes: 1 where the telegram ends before
unfoldable pub part : ℕ → List ℕ → ℕ → Read Part
part n s at = cond (leb (at + n) (length s)) (got (record { start = at; len = n }) (at + n)) (Err (no 1))

-- a length, then its bytes
unfoldable pub sized : ℕ → ℕ → List ℕ → ℕ → Read Part
sized low high s at = after (counted low high s at) (λ n next. part n s next)

-- the bytes of a part
abbrev pub text : List ℕ → Part → List ℕ
text s p = take p.len (drop p.start s)

-- ---- several things, one behind the other

unfoldable pub many : {A : Type 0} → ℕ → (ℕ → Read A) → ℕ → Read (List A)
many zero f at = got [] at
many (suc k) f at = after (f at) (λ a next. after (many k f next) (λ l end. got (a ∷ l) end))
