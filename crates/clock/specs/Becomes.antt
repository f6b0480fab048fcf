-- What a call that changes a value answers and leaves. Its definition wants what the value becomes, or says why it is refused; a refusal
-- leaves the value as it was. Assumes nothing.
use Rattle.std.specs.Prelude.{◌≡◌, Result, Ok, Err}
use Rattle.refusal.specs.declared.Refusal.{Refusal}

-- what is answered: no more than that it is done, or why it is refused
abbrev pub answered : {A : Type 0} → Result A Refusal → Result (Unit {0}) Refusal
answered (Ok a) = Ok tt
answered (Err r) = Err r

-- what is left: the value that was wanted, and where it is refused the one from before
abbrev pub left : {A : Type 0} → A → Result A Refusal → A
left old (Ok a) = a
left old (Err r) = old

pub record Becomes {A : Type 0} (old new : A) (answer : Result (Unit {0}) Refusal) (want : Result A Refusal) : Type 0 where
  pub answers : answer ≡ answered want
  pub leaves : new ≡ left old want

-- the same for a call that answers something beside the value
abbrev pub beside : {A B : Type 0} → Result (A × B) Refusal → Result B Refusal
beside (Ok p) = Ok p.1
beside (Err r) = Err r

abbrev pub left_with : {A B : Type 0} → A → Result (A × B) Refusal → A
left_with old (Ok p) = p.0
left_with old (Err r) = old

pub record BecomesWith {A B : Type 0} (old new : A) (answer : Result B Refusal) (want : Result (A × B) Refusal) : Type 0 where
  pub answers : answer ≡ beside want
  pub leaves : new ≡ left_with old want
