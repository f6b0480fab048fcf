-- What a reading that comes through says of each of its steps. Assumes nothing.
use mathlib.Core.Path.{◌≡◌, refl, sym, ap, ◌∙◌}
use mathlib.Core.Bool.{Bool, true, false, cond}
use mathlib.Core.List.{List}
use Prim.Native.Nat.{ℕ}
use native.Mathlib.Omega.{arith}
use lib.ListN.{length}
use lib.Dec.{eqb}
use borrow.Author.Tests.{eqb-true}
use Rattle.refusal.specs.declared.Refusal.{Refusal}
use Rattle.refusal.specs.Refusal.{no, then}
use Rattle.std.specs.Prelude.{Ok, Err}
use Rattle.leb128.specs.Leb128.{Read, got}
use Rattle.leb128.proofs.Gots.{got_value, got_next}
use Rattle.telegram.specs.Fields.{after, judged}
use Rattle.telegram.specs.Reading.{Whole, ended, texts, fair, fairly}
use Rattle.telegram.specs.declared.list.Names.{Names}

module _ {A : Type 0} where
  pub got_same : {a b : A} {m n : ℕ} → got a m ≡ got b n → (a ≡ b) × (m ≡ n)
  got_same e = (got_value e, got_next e)

  -- what holds of the thing and place on one side holds on the other
  pub got_carry : (P : A → ℕ → Type 0) {a b : A} {m n : ℕ} → got a m ≡ got b n → P a m → P b n
  got_carry P e p = let q = got_same e in rw (← q.0, ← q.1) p

  pub whole_same : {a b : A} → ◌≡◌ {A = Whole A} (Ok a) (Ok b) → a ≡ b
  whole_same e = cc

  -- the first thing was read, and the rest from the place behind it
  pub after_is : {B C : Type 0} (g : Read A) (f : A → ℕ → Read B) {b : B} {next : ℕ} → after g f ≡ got b next
      → ((a : A) (mid : ℕ) → g ≡ got a mid → f a mid ≡ got b next → C) → C
  after_is (Ok g) f e k = k g.value g.next refl e
  after_is (Err r) f e k = absurd (let z : ◌≡◌ {A = ℕ} 0 1 = cc in omega arith)

  pub then_is : {B C : Type 0} (w : Whole A) (f : A → Whole B) {b : B} → then w f ≡ Ok b → ((a : A) → w ≡ Ok a → f a ≡ Ok b → C) → C
  then_is (Ok a) f e k = k a refl e
  then_is (Err r) f e k = absurd (let z : ◌≡◌ {A = ℕ} 0 1 = cc in omega arith)

  -- what a test let through
  pub if_got : (t : Bool) (g : Read A) (k : Refusal) {a : A} {next : ℕ} → cond t g (Err k) ≡ got a next → (t ≡ true) × (g ≡ got a next)
  if_got true g k e = (refl, e)
  if_got false g k e = absurd (let z : ◌≡◌ {A = ℕ} 0 1 = cc in omega arith)

  pub if_whole : (t : Bool) (w : Whole A) (k : Refusal) {a : A} → cond t w (Err k) ≡ Ok a → (t ≡ true) × (w ≡ Ok a)
  if_whole true w k e = (refl, e)
  if_whole false w k e = absurd (let z : ◌≡◌ {A = ℕ} 0 1 = cc in omega arith)

  pub ended_is : (s : List ℕ) (g : Read A) {a : A} → ended s g ≡ Ok a → g ≡ got a (length s)
  ended_is s (Ok g) e =
      let i = if_whole (eqb g.next (length s)) (Ok g.value) (no 5) e in
      let l = eqb-true g.next (length s) i.0 in
      let m = whole_same i.1 in
      λ j. got (m j) (l j)
  ended_is s (Err k) e = absurd (let z : ◌≡◌ {A = ℕ} 0 1 = cc in omega arith)

  pub fairly-is : (s : List ℕ) (namesIn : A → Names) (w : Whole A) {a : A} → fairly s namesIn w ≡ Ok a → (w ≡ Ok a) × (fair (texts s (namesIn a)) ≡ true)
  fairly-is s namesIn (Ok x) e =
      let i = if_whole (fair (texts s (namesIn x))) (Ok x) (no 6) e in
      (i.1, ap (λ (y : A). fair (texts s (namesIn y))) (sym (whole_same i.1)) ∙ i.0)
  fairly-is s namesIn (Err k) e = absurd (let z : ◌≡◌ {A = ℕ} 0 1 = cc in omega arith)

pub judged-is : (k : Refusal) (test : ℕ → Bool) (g : Read ℕ) (n next : ℕ) → judged k test g ≡ got n next → (test n ≡ true) × (g ≡ got n next)
judged-is k test (Ok g) n next e =
    let i = if_got (test g.value) (Ok g) k e in
    (ap test (sym (got_same i.1).0) ∙ i.0, i.1)
judged-is k test (Err j) n next e = absurd (let z : ◌≡◌ {A = ℕ} 0 1 = cc in omega arith)
