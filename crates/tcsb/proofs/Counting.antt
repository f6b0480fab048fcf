-- A good store's order means as many slots as it counts: each of its slots is used or free once, so none is missing. Assumes nothing.
use mathlib.Core.Path.{◌≡◌, refl, ◌∙◌}
use mathlib.Core.List.{List, [], ◌∷◌}
use mathlib.Core.Logic.{⊎_elim}
use Prim.Native.Nat.{ℕ, zero, suc, ◌+◌, ◌≤◌, ◌<◌}
use native.Mathlib.Omega.{arith}
use lib.ListN.{length, length-map, length-take}
use lib.Dec.{eqb}
use borrow.Author.Tests.{eq-eqb, ne_eqb}
use Rattle.lists.specs.Lists.{sum}
use Rattle.lists.proofs.Cases.{split}
use Rattle.store.specs.Words.{event_at}
use Rattle.store.specs.declared.order.Slots.{Slots}
use Rattle.store.specs.Orders.{hit, occ, meant, events, Good}

-- ---- sums

sum-add : (n : ℕ) (f g : ℕ → ℕ) → sum n (λ v. f v + g v) ≡ sum n f + sum n g
unfolding sum
sum-add zero f g = refl
sum-add (suc n) f g = omega (arith, sum-add n f g)

sum-none : (n : ℕ) → sum n (λ v. 0) ≡ 0
unfolding sum
sum-none zero = refl
sum-none (suc n) = omega (arith, sum-none n)

sum_ones : (n : ℕ) (f : ℕ → ℕ) → ((v : ℕ) → v < n → f v ≡ 1) → sum n f ≡ n
unfolding sum
sum_ones zero f h = refl
sum_ones (suc n) f h = omega (arith, sum_ones n f (λ v lt. h v (omega arith)), h n (omega arith))

-- ---- slots

hit-none : (n x : ℕ) → n ≤ x → sum n (λ v. hit (eqb v x)) ≡ 0
unfolding sum
hit-none zero x h = refl
hit-none (suc n) x h =
    let e : hit (eqb n x) ≡ 0 = rw (ne_eqb n x (λ q. omega arith)) refl in
    omega (arith, e, hit-none n x (omega arith))

hit_most : (n x : ℕ) → sum n (λ v. hit (eqb v x)) ≤ 1
unfolding sum
hit_most zero x = omega arith
hit_most (suc n) x =
    ⊎_elim (λ h. let e : hit (eqb n x) ≡ 0 = rw (ne_eqb n x (λ q. omega arith)) refl in omega (arith, e, hit_most n x))
    (λ h.
    ⊎_elim (λ g. let e : hit (eqb n x) ≡ 0 = rw (ne_eqb n x (λ q. omega arith)) refl in omega (arith, e, hit_most n x))
    (λ (g : n ≤ x). let e : hit (eqb n x) ≡ 1 = rw (eq-eqb n x (omega arith)) refl in omega (arith, e, hit-none n x g))
    (split x n))
    (split n x)

-- a list is at least as long as the slots below n that stand in it are many
slots_most : (n : ℕ) (l : List ℕ) → sum n (λ v. occ v l) ≤ length l
unfolding occ
slots_most n [] = omega (arith, sum-none n)
slots_most n (x ∷ l) = omega (arith, sum-add n (λ v. hit (eqb v x)) (λ v. occ v l), hit_most n x, slots_most n l)

meant_most : (o : Slots) → length (meant o) ≤ o.count
meant_most o = omega (arith, length-take o.count o.at)

pub events-length : {c : ℕ} (p : List ℕ) (order free : Slots) → Good c p order free → length (events p order) ≡ order.count
events-length {c} p order free g =
    length-map (meant order) (event_at p)
    ∙ omega (
      arith,
      meant_most order,
      meant_most free,
      slots_most c (meant order),
      slots_most c (meant free),
      sum-add c (λ v. occ v (meant order)) (λ v. occ v (meant free)),
      sum_ones c (λ v. occ v (meant order) + occ v (meant free)) g.once,
      g.counts,
    )
