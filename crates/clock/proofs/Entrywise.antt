-- The laws of `specs/Entries.antt`, over any member count. Assumes nothing.
use mathlib.Core.Path.{◌≡◌, refl, ◌∙◌}
use mathlib.Core.Bool.{Bool, true, false, ◌&&◌, and-false}
use mathlib.Core.Logic.{◌⊎◌, inl, inr}
use mathlib.Core.List.{List}
use Prim.Native.Nat.{ℕ, zero, suc, ◌≤◌, ◌<◌, min}
use native.Mathlib.Omega.{arith}
use lib.ListN.{length, get_or-eq_default}
use lib.Dec.{leb, eqb}
use borrow.Author.Tests.{le-leb, leb-true, lt-leb, eq-eqb, ne_eqb}
use Rattle.lists.specs.Lists.{at, all}
use Rattle.lists.proofs.Cases.{split}
use Rattle.lists.proofs.Laws.{all_clamp, all-each, all-at}
use Rattle.std.specs.Prelude.{IsTrue, ◌↔◌}
use Rattle.std.specs.Cmp.{both_ways}
use Rattle.clock.specs.Entries.{at_most, same_entries}

-- neither of two numbers is above the other where they are the same
leb_both : (x y : ℕ) → leb x y && leb y x ≡ eqb x y
leb_both x y = go (split x y) (split y x)
  where
    go : (x < y) ⊎ (y ≤ x) → (y < x) ⊎ (x ≤ y) → leb x y && leb y x ≡ eqb x y
    go (inl h) _ = rw (lt-leb y x h, ne_eqb x y (λ e. omega arith)) (and-false (leb x y))
    go (inr h) (inl g) = rw (lt-leb x y g, ne_eqb x y (λ e. omega arith)) refl
    go (inr h) (inr g) = rw (le-leb x y g, le-leb y x h, eq-eqb x y (omega arith)) refl

-- no entry of either row is above the other's where all are the same
pub same_both : (n : ℕ) (a b : List ℕ) → at_most n a b && at_most n b a ≡ same_entries n a b
unfolding all
same_both zero a b = refl
same_both (suc n) a b =
    regroup (at_most n a b) (leb (at a n) (at b n)) (at_most n b a) (leb (at b n) (at a n))
    ∙ rw (same_both n a b, leb_both (at a n) (at b n)) refl
  where
    regroup : (p q r s : Bool) → (p && q) && (r && s) ≡ (p && r) && (q && s)
    regroup true q true s = refl
    regroup true q false s = and-false q
    regroup false q r s = refl

-- an entry past a row's end is 0
pub past_end : (r : List ℕ) (k j : ℕ) → length r ≡ k → k ≤ j → at r j ≡ 0
past_end r k j e h = get_or-eq_default r 0 {n = j} (omega arith)

pub at_most_clamp : (n k : ℕ) (a b : List ℕ) → length a ≡ k → at_most (min n k) a b ≡ at_most n a b
at_most_clamp n k a b e = all_clamp n k (λ j. leb (at a j) (at b j)) (λ j h. le-leb (at a j) (at b j) (omega (arith, past_end a k j e h)))

-- a test that answers whether each place below n passes
pub all_told : (r : Bool) (n : ℕ) (p : ℕ → Bool) → (IsTrue r → (j : ℕ) → j < n → p j ≡ true) → (((j : ℕ) → j < n → p j ≡ true) → IsTrue r) → r ≡ all n p
all_told r n p f g = both_ways r (all n p) (λ e. all-each n p (f e)) (λ e. g (λ j l. all-at n j p e l))

-- the same of k places, where each behind them passes
pub all_told_to : (r : Bool) (n k : ℕ) (p : ℕ → Bool) → ((j : ℕ) → k ≤ j → p j ≡ true)
    → (IsTrue r → (j : ℕ) → j < n → j < k → p j ≡ true) → (((j : ℕ) → j < n → j < k → p j ≡ true) → IsTrue r) → r ≡ all n p
all_told_to r n k p past f g = all_told r n p (λ t j l. go t j l (split j k)) (λ h. g (λ j l _. h j l))
  where
    go : IsTrue r → (j : ℕ) → j < n → (j < k) ⊎ (k ≤ j) → p j ≡ true
    go t j l (inl lt) = f t j l lt
    go t j l (inr le) = past j le

-- a test that answers whether no entry is above the other's, of the members that have one
pub at_most_told : (r : Bool) (n k : ℕ) (a b : List ℕ) → length a ≡ k → IsTrue r ↔ ((j : ℕ) → j < n → j < k → at a j ≤ at b j) → r ≡ at_most n a b
at_most_told r n k a b e h =
    all_told_to r n k (λ j. leb (at a j) (at b j)) (λ j g. le-leb (at a j) (at b j) (omega (arith, past_end a k j e g)))
    (λ t j l lt. le-leb (at a j) (at b j) (h.0 t j l lt)) (λ f. h.1 (λ j l lt. leb-true (at a j) (at b j) (f j l lt)))
