-- No second outcome fits a call of the replica: its answer, the state that it leaves and the buffer are the only ones. Assumes nothing.
use Prim.Native.Nat.{ℕ, ◌<◌}
use mathlib.Core.Path.{◌≡◌, refl, sym, ◌∙◌}
use mathlib.Core.Bool.{Bool}
use mathlib.Core.List.{List}
use lib.ListN.{length}
use Rattle.clock.specs.declared.causal_frontier.CausalFrontier.{CausalFrontier}
use Rattle.telegram.specs.declared.list.Names.{Names}
use Rattle.store.specs.declared.event.Event.{Event}
use Rattle.store.specs.Orders.{events}
use Rattle.tcsb.specs.Replica.{State, Call, receive_of, batch_of, stable_call}
use Rattle.tcsb.specs.Tcsb.{view, Good, Founds, Does, Writes, WritesOnly}
use Rattle.tcsb.specs.Delivery.{DeliversAt}
use Rattle.tcsb.specs.declared.batch.Tally.{Tally}
use Rattle.tcsb.specs.declared.receive.Verdict.{Verdict}
use Rattle.tcsb.specs.declared.tcsb.Tcsb.{Tcsb}
use Rattle.std.specs.Prelude.{Result, Ok, Err, Option}
use Rattle.refusal.specs.declared.Refusal.{Refusal}

-- ---- founding

pub one_founded : {list : List ℕ} {names : Names} {place : ℕ} {p q : List ℕ} {a b : Result Tcsb Refusal} → Founds list names place p q a → Founds list names place p q b → a ≡ b
one_founded x y = x.answers ∙ sym y.answers

-- ---- answers and states; which slot holds an event is open

pub one_does : {A : Type 0} {list p q p₁ q₁ p₂ q₂ : List ℕ} {words : Bool} {t t₁ t₂ : Tcsb} {a b : Result A Refusal} {want : State → Call A} → Good t list p q
    → Does list p p₁ q q₁ words t t₁ a want → Does list p p₂ q q₂ words t t₂ b want → (a ≡ b) × (view t₁ list p₁ q₁ ≡ view t₂ list p₂ q₂)
one_does g x y = (x.answers g ∙ sym (y.answers g), x.leaves g ∙ sym (y.leaves g))

pub one_writes : {list p q p₁ q₁ p₂ q₂ out out₁ out₂ : List ℕ} {words : Bool} {t t₁ t₂ : Tcsb} {a b : Result ℕ Refusal} {want : State → Call (List ℕ)} → Good t list p q
    → Writes list p p₁ q q₁ out out₁ words t t₁ a want → Writes list p p₂ q q₂ out out₂ words t t₂ b want
    → (a ≡ b) × ((out₁ ≡ out₂) × (view t₁ list p₁ q₁ ≡ view t₂ list p₂ q₂))
one_writes g x y =
    ((x.wrote g).answers ∙ sym (y.wrote g).answers, ((x.wrote g).holds ∙ sym (y.wrote g).holds, x.leaves g ∙ sym (y.leaves g)))

pub one_since : {list p q out out₁ out₂ : List ℕ} {words : Bool} {t : Tcsb} {a b : Result ℕ Refusal} {want : State → List ℕ} → Good t list p q
    → WritesOnly list p q out out₁ words t a want → WritesOnly list p q out out₂ words t b want → (a ≡ b) × (out₁ ≡ out₂)
one_since g x y = ((x.wrote g).answers ∙ sym (y.wrote g).answers, (x.wrote g).holds ∙ sym (y.wrote g).holds)

-- ---- calls that are done: what they answer

module _ {A : Type 0} {list p q p₁ q₁ p₂ q₂ : List ℕ} {words : Bool} {t t₁ t₂ : Tcsb} {want : State → Call A} (g : Good t list p q) where
  one_answer : {x y : A} → Does list p p₁ q q₁ words t t₁ (Ok x) want → Does list p p₂ q q₂ words t t₂ (Ok y) want → (x ≡ y) × (view t₁ list p₁ q₁ ≡ view t₂ list p₂ q₂)
  one_answer d e = let o = one_does g d e in (let h = o.0 in cc, o.1)

  -- where one is refused, the other is refused with the same number, and both leave everything as it was
  pub one_refusal : {k : Refusal} {b : Result A Refusal} → Does list p p₁ q q₁ words t t₁ (Err k) want → Does list p p₂ q q₂ words t t₂ b want
      → (b ≡ Err k) × ((t₁ ≡ t₂) × ((p₁ ≡ p₂) × (q₁ ≡ q₂)))
  one_refusal {k} d e =
      let same = sym (one_does g d e).0 in
      let a = d.kept k refl in
      let b = e.kept k same in
      (same, (a.0 ∙ sym b.0, (a.1.0 ∙ sym b.1.0, a.1.1 ∙ sym b.1.1)))

module _ {list p q p₁ q₁ p₂ q₂ : List ℕ} {words : Bool} {t t₁ t₂ : Tcsb} (g : Good t list p q) where
  -- one verdict on an event
  pub one_receipt : (s : List ℕ) {v w : Verdict} → Does list p p₁ q q₁ words t t₁ (Ok v) (λ st. receive_of st s) → Does list p p₂ q q₂ words t t₂ (Ok w) (λ st. receive_of st s)
      → (v ≡ w) × (view t₁ list p₁ q₁ ≡ view t₂ list p₂ q₂)
  one_receipt s = one_answer g

  -- one count of a batch's events
  pub one_counted : (s : List ℕ) {v w : Tally} → Does list p p₁ q q₁ words t t₁ (Ok v) (λ st. batch_of st s) → Does list p p₂ q q₂ words t t₂ (Ok w) (λ st. batch_of st s)
      → (v ≡ w) × (view t₁ list p₁ q₁ ≡ view t₂ list p₂ q₂)
  one_counted s = one_answer g

  -- of a delivery, the next or a named one, the same event or none
  pub one_delivery : {want : State → Call (Option Event)} {x y : Option Event} → Does list p p₁ q q₁ words t t₁ (Ok x) want → Does list p p₂ q q₂ words t t₂ (Ok y) want
      → (x ≡ y) × (view t₁ list p₁ q₁ ≡ view t₂ list p₂ q₂)
  one_delivery = one_answer g

  -- of a frontier call, the same frontier or none
  pub one_moved : {x y : Option CausalFrontier} → Does list p p₁ q q₁ words t t₁ (Ok x) stable_call → Does list p p₂ q q₂ words t t₂ (Ok y) stable_call
      → (x ≡ y) × (view t₁ list p₁ q₁ ≡ view t₂ list p₂ q₂)
  one_moved = one_answer g

-- the delivery at a position of the inbox
pub one_delivered : {list p q : List ℕ} {t t₁ t₂ : Tcsb} {i : ℕ} {a b : Result (Option Event) Refusal} → Good t list p q → i < length (events p t.inbox.order)
    → DeliversAt p t i t₁ a → DeliversAt p t i t₂ b → (a ≡ b) × (view t₁ list p q ≡ view t₂ list p q)
one_delivered {list} {q = q} g lt d e = (d.answers list q g lt ∙ sym (e.answers list q g lt), d.leaves list q g lt ∙ sym (e.leaves list q g lt))
