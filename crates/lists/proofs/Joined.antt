-- What the elements of a list give, one behind the other. Assumes nothing.
use mathlib.Core.Path.{◌≡◌, refl, sym, ap, ◌∙◌}
use mathlib.Core.Logic.{⊎_elim}
use mathlib.Core.List.Memᴰ
use mathlib.Core.List.{List, [], ◌∷◌, ◌++◌, map, append_assoc, append-nil, Memᴰ}
use Prim.Native.Nat.{ℕ, zero, suc, ◌*◌, ◌≤◌, ◌<◌}
use native.Mathlib.Omega.{arith}
use native.Mathlib.Nat.{not-suc-le-zero, le_of_suc-le-suc}
use lib.ListN.{length, get_or, replicate, length-append}
use Rattle.lists.specs.Lists.{chain, joined}

-- every element of a list
abbrev pub Each : {X : Type 0} → (X → Type 0) → List X → Type 0
Each {X} P l = (x : X) → Memᴰ x l → P x

module _ {X : Type 0} where
  -- the element at a place is one of the list
  pub each_at : (P : X → Type 0) (d : X) (l : List X) → Each P l → (i : ℕ) → i < length l → P (get_or l i d)
  each_at P d [] h i lt = absurd (not-suc-le-zero lt)
  each_at P d (x ∷ l) h zero lt = h x (Memᴰ.head refl)
  each_at P d (x ∷ l) h (suc i) lt = each_at P d l (λ y m. h y (Memᴰ.tail m)) i (le_of_suc-le-suc lt)

  pub at_each : (P : X → Type 0) (d : X) (l : List X) → ((i : ℕ) → i < length l → P (get_or l i d)) → Each P l
  at_each P d [] h x m = absurd (Memᴰ.not-nil m)
  at_each P d (y ∷ l) h x m = ⊎_elim (λ e. rw e (h 0 (omega arith))) (λ n. at_each P d l (λ i lt. h (suc i) (omega arith)) x n) (Memᴰ.cases_cons m)

  pub each_none : (P : X → Type 0) → Each P []
  each_none P x m = absurd (Memᴰ.not-nil m)

  pub each_more : (P : X → Type 0) (y : X) (l : List X) → P y → Each P l → Each P (y ∷ l)
  each_more P y l p h x m = ⊎_elim (λ e. rw e p) (h x) (Memᴰ.cases_cons m)

  pub each_same : (P : X → Type 0) (n : ℕ) (y : X) → P y → Each P (replicate n y)
  each_same P zero y p = each_none P
  each_same P (suc n) y p = each_more P y (replicate n y) p (each_same P n y p)

module _ {A : Type 0} where
  -- a chain's first list by itself
  pub chain_front : (n : ℕ) (f : ℕ → List A) → chain (suc n) f ≡ f 0 ++ chain n (λ k. f (suc k))
  unfolding chain
  chain_front zero f = sym (append-nil (f 0))
  chain_front (suc n) f = ap (λ (l : List A). l ++ f (suc n)) (chain_front n f) ∙ append_assoc (f 0) (chain n (λ k. f (suc k))) (f (suc n))

  module _ {X : Type 0} where
    pub chain-joined : (f : X → List A) (d : X) (l : List X) → chain (length l) (λ i. f (get_or l i d)) ≡ joined f l
    unfolding chain joined
    chain-joined f d [] = refl
    chain-joined f d (x ∷ l) = chain_front (length l) (λ i. f (get_or (x ∷ l) i d)) ∙ ap (λ (r : List A). f x ++ r) (chain-joined f d l)

    pub joined-map : {Y : Type 0} (f : X → List A) (g : Y → X) (l : List Y) → joined f (map g l) ≡ joined (λ y. f (g y)) l
    unfolding joined
    joined-map f g [] = refl
    joined-map f g (y ∷ l) = ap (λ (r : List A). f (g y) ++ r) (joined-map f g l)

    pub joined_most : (f : X → List A) (most : ℕ) (l : List X) → Each (λ x. length (f x) ≤ most) l → length (joined f l) ≤ length l * most
    unfolding joined
    joined_most f most [] h = omega arith
    joined_most f most (x ∷ l) h =
        omega (arith, length-append (f x) (joined f l), h x (Memᴰ.head refl), joined_most f most l (λ y m. h y (Memᴰ.tail m)))

    pub joined_same : (f : X → List A) (n : ℕ) (x : X) → length (joined f (replicate n x)) ≡ n * length (f x)
    unfolding joined
    joined_same f zero x = omega arith
    joined_same f (suc n) x = omega (arith, length-append (f x) (joined f (replicate n x)), joined_same f n x)
