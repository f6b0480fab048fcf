-- Case distinctions that every layer makes. Assumes nothing.
use mathlib.Core.Logic.{◌⊎◌, inl, inr, ⊎_elim}
use Prim.Native.Nat.{ℕ, zero, suc, ◌≤◌, ◌<◌, zero-le, suc-le-suc}
use native.Mathlib.Omega.{arith}

-- one number is below another, or it isn't
pub split : (m n : ℕ) → (m < n) ⊎ (n ≤ m)
split m zero = inr zero-le
split zero (suc n) = inl (omega arith)
split (suc m) (suc n) = ⊎_elim (λ h. inl (suc-le-suc h)) (λ h. inr (suc-le-suc h)) (split m n)
