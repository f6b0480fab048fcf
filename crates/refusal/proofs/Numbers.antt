-- A refusal and its number name each other; an equation leaves one outcome. Assumes nothing.
use mathlib.Core.Path.{◌≡◌, refl, sym, ap, ◌∙◌}
use Rattle.refusal.specs.declared.Refusal.{Refusal}
use Rattle.refusal.specs.declared.Refusal.TheVariants.{EndsInField, BadNumber, WrongKind, OutOfRange, BytesFollow, BadName, NoMember, ListDiffers, BadPlace, FromOurselves, BadEventNumber, InboxFull, OutboxFull, LastNumber, BufferShort}
use Rattle.refusal.specs.Refusal.{number_of, no}

pub no_number : (r : Refusal) → no (number_of r) ≡ r
no_number EndsInField = refl
no_number BadNumber = refl
no_number WrongKind = refl
no_number OutOfRange = refl
no_number BytesFollow = refl
no_number BadName = refl
no_number NoMember = refl
no_number ListDiffers = refl
no_number BadPlace = refl
no_number FromOurselves = refl
no_number BadEventNumber = refl
no_number InboxFull = refl
no_number OutboxFull = refl
no_number LastNumber = refl
no_number BufferShort = refl

-- two refusals with one number are one refusal
pub one_number : (r s : Refusal) → number_of r ≡ number_of s → r ≡ s
one_number r s e = sym (no_number r) ∙ (ap no e ∙ no_number s)

-- where a contract is an equation with a definition, no second outcome fits
pub one_outcome : {A : Type 0} {x y z : A} → x ≡ z → y ≡ z → x ≡ y
one_outcome p q = p ∙ sym q
