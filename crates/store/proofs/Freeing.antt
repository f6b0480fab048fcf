-- The first slots of a store, all free. Assumes nothing.
use Prim.Native.Nat.{ℕ, zero, suc, ◌+◌, ◌*◌, ◌<◌, ◌≤◌, min}
use native.Mathlib.Omega.{arith}
use native.Mathlib.Nat.{le_of_suc-le-suc, not-suc-le-zero, add-zero, zero-add}
use mathlib.Core.Path.{◌≡◌, refl, sym, ap, ◌∙◌}
use mathlib.Core.Bool.{cond}
use mathlib.Core.Logic.{◌⊎◌, inl, inr, ⊎_elim}
use mathlib.Core.List.{List, [], ◌∷◌}
use lib.ListN.{length, get_or, replicate, length-take, length-replicate, get_or-replicate}
use lib.Seq.{ext_get_or, get_or-take}
use lib.Dec.{ltb}
use borrow.Author.Tests.{lt-ltb, le-ltb, eq-eqb, ne_eqb}
use Rattle.lists.specs.Lists.{tab, over}
use Rattle.lists.proofs.Cases.{split}
use Rattle.lists.proofs.Laws.{length-tab, get_or-tab, is-tab, length_over, over-at}
use Rattle.store.specs.Orders.{occ, no_slots, free_slots, meant, Good}

abbrev pub free_at : ℕ → ℕ → ℕ
free_at n k = cond (ltb k n) k 0

-- the places below n, of 256 zeros, made their own slots
pub free_all : (n i : ℕ) (r z : List ℕ) → z ≡ replicate 256 0 → r ≡ over 0 i (λ k. k) z → i ≡ min n 256 → r ≡ tab 256 (free_at n)
free_all n i r z s e m = is-tab 0 r 256 (free_at n) (ap length e ∙ (length_over 0 i (λ k. k) z ∙ long))
    (λ k lt. rw (e, over-at 0 i (λ j. j) z k (omega (arith, long))) (⊎_elim (λ (a : k < n). rw (lt-ltb k n a, lt-ltb k i (omega arith)))
    (λ a. rw (le-ltb k n a, le-ltb k i (omega arith)) (ap (λ (l : List ℕ). get_or l k 0) s ∙ get_or-replicate 256 k 0 0 lt)) (split k n)))
  where
    long : length z ≡ 256
    long = ap length s ∙ length-replicate {A = ℕ} 256 0

-- ---- an empty store is good

abbrev up_from : ℕ → ℕ → List ℕ
up_from b zero = []
up_from b (suc n) = b ∷ up_from (suc b) n

none_from : (v b n : ℕ) → (v < b) ⊎ (b + n ≤ v) → occ v (up_from b n) ≡ 0
unfolding occ
none_from v b zero h = refl
none_from v b (suc n) h =
    rw (ne_eqb v b (λ q. ⊎_elim (λ x. omega arith) (λ y. omega arith) h), zero-add)
    (none_from v (suc b) n (⊎_elim (λ x. inl (omega arith)) (λ y. inr (omega arith)) h))

once-from : (v b n : ℕ) → b ≤ v → v < b + n → occ v (up_from b n) ≡ 1
unfolding occ
once-from v b zero l h = absurd (omega arith)
once-from v b (suc n) l h =
    ⊎_elim (λ (x : b < v). rw (ne_eqb v b (λ q. omega arith), zero-add) (once-from v (suc b) n x (omega arith)))
    (λ y. rw (eq-eqb v b (omega arith), none_from v (suc b) n (inl (omega arith))) (omega arith)) (split b v)

get_or-from : (b n k : ℕ) → k < n → get_or (up_from b n) k 0 ≡ b + k
get_or-from b zero k h = absurd (not-suc-le-zero h)
get_or-from b (suc n) zero h = sym (add-zero b)
get_or-from b (suc n) (suc k) h = get_or-from (suc b) n k (le_of_suc-le-suc h) ∙ omega arith

length_from : (b n : ℕ) → length (up_from b n) ≡ n
length_from b zero = refl
length_from b (suc n) = ap suc (length_from (suc b) n)

free_from : (n : ℕ) → n ≤ 256 → meant (free_slots n) ≡ up_from 0 n
free_from n h =
    ext_get_or 0 (meant (free_slots n)) (up_from 0 n) (long ∙ sym (length_from 0 n))
    (λ k lt. get_or-take (min n 256) (tab 256 (free_at n)) k 0 (omega (arith, long))
    ∙ (get_or-tab 0 256 (free_at n) k (omega (arith, long)) ∙ (rw (lt-ltb k n (omega (arith, long))) (omega arith) ∙ sym (get_or-from 0 n k (omega (arith, long))))))
  where
    long : length (meant (free_slots n)) ≡ n
    long = rw (length-take, length-tab 256 (free_at n)) (omega arith)

pub empty_good : (c : ℕ) (p : List ℕ) → c ≤ 256 → 27 * c ≤ length p → Good c p no_slots (free_slots c)
unfolding occ
empty_good c p h r = record {
  room = r;
  size = h;
  counts = omega arith;
  once = λ v lt. rw (free_from c h, once-from v 0 c (omega arith) (omega arith)) (omega arith);
  inside = λ v le. rw (free_from c h, none_from v 0 c (inr (omega arith))) (omega arith);
}
