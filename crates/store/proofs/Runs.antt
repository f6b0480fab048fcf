-- Runs of words stored, and an event in its words. Assumes nothing.
use Prim.Native.Nat.{ℕ, zero, suc, ◌+◌, ◌*◌, ◌/◌, ◌%◌, ◌<◌, ◌≤◌}
use native.Mathlib.Nat.{add-zero}
use native.Mathlib.Omega.{arith}
use mathlib.Core.Path.{◌≡◌, sym, ap, ◌∙◌}
use mathlib.Core.Logic.{◌⊎◌, inl, inr, ⊎_elim}
use mathlib.Core.List.{List, [], ◌∷◌}
use lib.ListN.{length, get_or}
use Rattle.lists.specs.Lists.{tab}
use Rattle.lists.proofs.Cases.{split}
use Rattle.lists.proofs.Laws.{length-tab, get_or-tab, is-tab}
use Rattle.store.specs.declared.event.Event.{Event}
use Rattle.store.specs.Words.{byte_of, word_of, event_from, Ran, Saved}

-- ---- an event in its words

event-from : (q : List ℕ) (a : ℕ) (e : Event) → get_or q a 0 ≡ e.origin.0 → get_or q (a + 1) 0 ≡ e.number → get_or q (a + 2) 0 ≡ e.len
    → length e.version.entries ≡ 16 → ((k : ℕ) → k < 16 → get_or q (a + 3 + k) 0 ≡ get_or e.version.entries k 0)
    → length e.operation ≡ 32 → ((k : ℕ) → k < 32 → byte_of (get_or q (a + 19 + k / 4) 0) (k % 4) ≡ get_or e.operation k 0) → event_from q a ≡ e
unfolding event_from
event-from q a e o n l ve v pe p =
    rw (
      o,
      n,
      l,
      ← is-tab 0 e.version.entries 16 (λ k. get_or q (a + 3 + k) 0) ve (λ k h. sym (v k h)),
      ← is-tab 0 e.operation 32 (λ k. byte_of (get_or q (a + 19 + k / 4) 0) (k % 4)) pe (λ k h. sym (p k h)),
    )

-- words that agree on the 27 of a slot hold one event there
event-same : (p q : List ℕ) (a : ℕ) → ((j : ℕ) → a ≤ j → j < a + 27 → get_or q j 0 ≡ get_or p j 0) → event_from q a ≡ event_from p a
unfolding event_from
event-same p q a h = event-from q a (event_from p a) (h a (omega arith) (omega arith)) (h (a + 1) (omega arith) (omega arith)) (h (a + 2) (omega arith) (omega arith))
    (length-tab 16 (λ k. get_or p (a + 3 + k) 0)) (λ k lt. h (a + 3 + k) (omega arith) (omega arith) ∙ sym (get_or-tab 0 16 (λ k. get_or p (a + 3 + k) 0) k lt))
    (length-tab 32 (λ k. byte_of (get_or p (a + 19 + k / 4) 0) (k % 4)))
    (λ k lt. ap (λ (w : ℕ). byte_of w (k % 4)) (h (a + 19 + k / 4) (omega arith) (omega arith))
    ∙ sym (get_or-tab 0 32 (λ k. byte_of (get_or p (a + 19 + k / 4) 0) (k % 4)) k lt))

-- a byte of a word of four bytes
byte_at : (b : List ℕ) (q r : ℕ) → r < 4 → ((i : ℕ) → get_or b i 0 < 256) → byte_of (word_of b q) r ≡ get_or b (4 * q + r) 0
unfolding word_of
byte_at b q zero l h = rw add-zero (omega (arith, h (4 * q), h (4 * q + 1), h (4 * q + 2), h (4 * q + 3)))
byte_at b q (suc zero) l h = omega (arith, h (4 * q), h (4 * q + 1), h (4 * q + 2), h (4 * q + 3))
byte_at b q (suc (suc zero)) l h = omega (arith, h (4 * q), h (4 * q + 1), h (4 * q + 2), h (4 * q + 3))
byte_at b q (suc (suc (suc zero))) l h = omega (arith, h (4 * q), h (4 * q + 1), h (4 * q + 2), h (4 * q + 3))
byte_at b q (suc (suc (suc (suc r)))) l h = absurd (omega arith)

byte_of_word : (b : List ℕ) (k : ℕ) → ((i : ℕ) → get_or b i 0 < 256) → byte_of (word_of b (k / 4)) (k % 4) ≡ get_or b k 0
byte_of_word b k h = byte_at b (k / 4) (k % 4) (omega arith) h ∙ ap (λ (i : ℕ). get_or b i 0) (omega arith)

-- the three runs that `save` stores: the head, the version and the operation
pub saved : (p p₁ p₂ p₃ : List ℕ) (s : ℕ) (e : Event) (w : List ℕ)
    → length e.version.entries ≡ 16 → length e.operation ≡ 32 → ((i : ℕ) → get_or e.operation i 0 < 256) → w ≡ tab 8 (word_of e.operation)
    → Ran p p₁ (27 * s) 3 (λ k. get_or (e.origin.0 ∷ e.number ∷ e.len ∷ []) k 0)
    → Ran p₁ p₂ (27 * s + 3) (length e.version.entries) (λ k. get_or e.version.entries k 0)
    → Ran p₂ p₃ (27 * s + 19) (length w) (λ k. get_or w k 0)
    → Saved p p₃ s e
saved p p₁ p₂ p₃ s e w ve oe ob we R₁ R₂ R₃ = record {
  long = R₃.long ∙ R₂.long ∙ R₁.long;
  here = λ room. event-from p₃ (27 * s) e
      (head (27 * s) (omega arith) ∙ ap (λ (i : ℕ). get_or p₁ i 0) (sym (add-zero (27 * s))) ∙ R₁.here (omega arith) 0 (omega arith))
      (head (27 * s + 1) (omega arith) ∙ R₁.here (omega arith) 1 (omega arith))
      (head (27 * s + 2) (omega arith) ∙ R₁.here (omega arith) 2 (omega arith))
      ve (λ k h. R₃.rest (27 * s + 3 + k) (inl (omega arith)) ∙ R₂.here (omega (arith, R₁.long)) k (omega arith))
      oe (λ k h. rw (
        R₃.here (omega (arith, wl, R₁.long, R₂.long)) (k / 4) (omega (arith, wl)),
        we,
        get_or-tab 0 8 (word_of e.operation) (k / 4) (omega arith),
      ) (byte_of_word e.operation k ob));
  there = λ t ne. event-same p p₃ (27 * t) (λ j lo hi. beside j (⊎_elim (λ (lt : t < s). inl (omega arith)) (λ le. inr (omega arith)) (split t s)));
  rest = beside;
}
  where
    wl : length w ≡ 8
    wl = rw we (length-tab 8 (word_of e.operation))

    head : (j : ℕ) → j < 27 * s + 3 → get_or p₃ j 0 ≡ get_or p₁ j 0
    head j h = R₃.rest j (inl (omega arith)) ∙ R₂.rest j (inl h)

    beside : (j : ℕ) → (j < 27 * s) ⊎ (27 * s + 27 ≤ j) → get_or p₃ j 0 ≡ get_or p j 0
    beside j (inl h) = R₃.rest j (inl (omega arith)) ∙ R₂.rest j (inl (omega arith)) ∙ R₁.rest j (inl (omega arith))
    beside j (inr h) = R₃.rest j (inr (omega (arith, wl))) ∙ R₂.rest j (inr (omega arith)) ∙ R₁.rest j (inr (omega arith))
