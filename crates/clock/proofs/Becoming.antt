-- What follows from a call's answer and the value that it leaves. Assumes nothing.
use Rattle.std.specs.Prelude.{◌≡◌, Result, Ok, Err}
use mathlib.Core.Path.{sym, ap, ◌∙◌}
use Rattle.refusal.specs.declared.Refusal.{Refusal}
use Rattle.clock.specs.Becomes.{answered, left, Becomes, beside, left_with, BecomesWith}

module _ {A : Type 0} {old new : A} {want : Result A Refusal} where
  pub becomes_done : want ≡ Ok new → Becomes old new (Ok (tt {0})) want
  becomes_done e = record { answers = sym (ap answered e); leaves = sym (ap (left old) e) }

  -- what is done leaves the value that was wanted
  pub done_wanted : Becomes old new (Ok (tt {0})) want → want ≡ Ok new
  done_wanted b = go want b.answers b.leaves
    where
      go : (w : Result A Refusal) → Ok (tt {0}) ≡ answered w → new ≡ left old w → w ≡ Ok new
      go (Ok a) p q = ap Ok (sym q)
      go (Err r) p q = cc

  -- what is refused is wanted so
  pub refused_wanted : {r : Refusal} → Becomes old new (Err r) want → want ≡ Err r
  refused_wanted {r} b = go want b.answers
    where
      go : (w : Result A Refusal) → Err r ≡ answered w → w ≡ Err r
      go (Ok a) p = cc
      go (Err s) p = cc

  -- a refusal leaves the value as it was
  pub refused_leaves : {r : Refusal} → Becomes old new (Err r) want → new ≡ old
  refused_leaves b = b.leaves ∙ ap (left old) (refused_wanted b)

pub becomes_refused : {A : Type 0} {old : A} {want : Result A Refusal} {r : Refusal} → want ≡ Err r → Becomes old old (Err r) want
becomes_refused {old = old} e = record { answers = sym (ap answered e); leaves = sym (ap (left old) e) }

-- no second outcome fits
pub one_end : {A : Type 0} {old new other : A} {want : Result A Refusal} {answer another : Result (Unit {0}) Refusal}
    → Becomes old new answer want → Becomes old other another want → (new ≡ other) × (answer ≡ another)
one_end b c = (b.leaves ∙ sym c.leaves, b.answers ∙ sym c.answers)

module _ {A B : Type 0} {old new : A} {want : Result (A × B) Refusal} where
  pub becomes_done_with : {x : B} → want ≡ Ok (new, x) → BecomesWith old new (Ok x) want
  becomes_done_with e = record { answers = sym (ap beside e); leaves = sym (ap (left_with old) e) }

  pub done_wanted_with : {x : B} → BecomesWith old new (Ok x) want → want ≡ Ok (new, x)
  done_wanted_with {x} b = go want b.answers b.leaves
    where
      go : (w : Result (A × B) Refusal) → Ok x ≡ beside w → new ≡ left_with old w → w ≡ Ok (new, x)
      go (Ok p) e q = let f : x ≡ p.1 = cc in λ i. Ok (sym q i, sym f i)
      go (Err r) e q = cc

  pub refused_wanted_with : {r : Refusal} → BecomesWith old new (Err r) want → want ≡ Err r
  refused_wanted_with {r} b = go want b.answers
    where
      go : (w : Result (A × B) Refusal) → Err r ≡ beside w → w ≡ Err r
      go (Ok p) e = cc
      go (Err s) e = cc

  pub refused_leaves_with : {r : Refusal} → BecomesWith old new (Err r) want → new ≡ old
  refused_leaves_with b = b.leaves ∙ ap (left_with old) (refused_wanted_with b)

pub becomes_refused_with : {A B : Type 0} {old : A} {want : Result (A × B) Refusal} {r : Refusal} → want ≡ Err r → BecomesWith old old (Err r) want
becomes_refused_with {old = old} e = record { answers = sym (ap beside e); leaves = sym (ap (left_with old) e) }

pub one_end_with : {A B : Type 0} {old new other : A} {want : Result (A × B) Refusal} {answer another : Result B Refusal}
    → BecomesWith old new answer want → BecomesWith old other another want → (new ≡ other) × (answer ≡ another)
one_end_with b c = (b.leaves ∙ sym c.leaves, b.answers ∙ sym c.answers)
