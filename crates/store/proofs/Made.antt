-- An array that `array::from_fn` makes, as a table. Assumes nothing.
use Prim.Native.Nat.{ℕ, zero, suc, ◌+◌, ◌<◌, ◌≤◌}
use native.Mathlib.Omega.{arith}
use mathlib.Core.Path.{◌≡◌, ◌∙◌}
use mathlib.Core.Logic.{⊎_elim}
use mathlib.Core.List.{List}
use lib.ListN.{get_or}
use Rattle.std.specs.Fn.{Mut, Called}
use Rattle.std.specs.Array.{IsFromFnResultFrom, IsFromFnResult}
use Rattle.lists.specs.Lists.{tab}
use Rattle.lists.proofs.Cases.{split}
use Rattle.lists.proofs.Laws.{is-tab}

-- g is the closure's calls, P what each of its states keeps, and h what the call at a place below m gives
module _ {F B : Type 0} {g : Mut F (ℕ × Unit {0}) B} (m : ℕ) (P : F → Type 0) (h : ℕ → B)
    (step : (p q : F) (k : ℕ) (y : B) → P p → k < m → Called g p (k, tt) y q → (y ≡ h k) × P q) where
  each_made : (f : F) (ys : List B) (i n : ℕ) (d : B) → P f → i + n ≤ m → IsFromFnResultFrom g f ys i n → (k : ℕ) → i ≤ k → k < i + n → get_or ys k d ≡ h k
  each_made f ys i zero d a r e k l u = absurd (omega arith)
  each_made f ys i (suc n) d a r (q, y, is, called, rest) k l u =
      ⊎_elim (λ (t : i < k). each_made q ys (i + 1) n d (step f q i y a (omega arith) called).1 (omega arith) rest k (omega arith) (omega arith))
      (λ t. let e : k ≡ i = omega arith in rw e (is.1 d ∙ (step f q i y a (omega arith) called).0))
      (split i k)

pub made : {F B : Type 0} {g : Mut F (ℕ × Unit {0}) B} {f : F} {ys : List B} {m : ℕ} → IsFromFnResult g f ys m → (d : B) (P : F → Type 0) (h : ℕ → B) → P f
    → ((p q : F) (k : ℕ) (y : B) → P p → k < m → Called g p (k, tt) y q → (y ≡ h k) × P q) → ys ≡ tab m h
made {f = f} {ys} {m} e d P h a step = is-tab d ys m h e.long (λ k l. each_made m P h step f ys 0 m d a (omega arith) e.each k (omega arith) (omega arith))
