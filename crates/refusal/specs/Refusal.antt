-- Document 01's refusal numbers: the number of each case, and the case of each number. Assumes nothing.
use Rattle.std.specs.Prelude.{ℕ, cond, eqb, Result, Ok, Err}
use Rattle.refusal.specs.declared.Refusal.{Refusal}
use Rattle.refusal.specs.declared.Refusal.TheVariants.{EndsInField, BadNumber, WrongKind, OutOfRange, BytesFollow, BadName, NoMember, ListDiffers, BadPlace, FromOurselves, BadEventNumber, InboxFull, OutboxFull, LastNumber, BufferShort}

abbrev pub number_of : Refusal → ℕ
number_of EndsInField = 1
number_of BadNumber = 2
number_of WrongKind = 3
number_of OutOfRange = 4
number_of BytesFollow = 5
number_of BadName = 6
number_of NoMember = 7
number_of ListDiffers = 8
number_of BadPlace = 9
number_of FromOurselves = 10
number_of BadEventNumber = 11
number_of InboxFull = 12
number_of OutboxFull = 13
number_of LastNumber = 14
number_of BufferShort = 15

-- the refusal with a number from 1 to 15, as definitions cite it: `no 4`
abbrev pub no : ℕ → Refusal
no k =
    cond (eqb k 1) EndsInField
    (cond (eqb k 2) BadNumber
    (cond (eqb k 3) WrongKind
    (cond (eqb k 4) OutOfRange
    (cond (eqb k 5) BytesFollow
    (cond (eqb k 6) BadName
    (cond (eqb k 7) NoMember
    (cond (eqb k 8) ListDiffers
    (cond (eqb k 9) BadPlace
    (cond (eqb k 10) FromOurselves
    (cond (eqb k 11) BadEventNumber
    (cond (eqb k 12) InboxFull
    (cond (eqb k 13) OutboxFull
    (cond (eqb k 14) LastNumber BufferShort)))))))))))))

-- what comes next is asked of the value; a refusal stays
abbrev pub then : {A B : Type 0} → Result A Refusal → (A → Result B Refusal) → Result B Refusal
then (Ok a) f = f a
then (Err r) f = Err r
