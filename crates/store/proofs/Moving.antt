-- An element put in or taken out: of a list, and of an array of slots in place. Assumes nothing.
use Prim.Native.Nat.{ℕ, zero, suc, ◌+◌, ◌-◌, ◌<◌, ◌≤◌, min}
use native.Mathlib.Omega.{arith}
use native.Mathlib.Nat.{le_of_suc-le-suc, not-suc-le-zero}
use native.Mathlib.Numerals.{add-one}
use mathlib.Core.Path.{◌≡◌, refl, sym, ap, ◌∙◌}
use mathlib.Core.Bool.{cond, ◌&&◌, and-false}
use mathlib.Core.Logic.{◌⊎◌, inl, inr, ⊎_elim}
use mathlib.Core.List.{List, [], ◌∷◌, ◌++◌, map}
use lib.ListN.{length, get_or, set, length-set, length-take}
use lib.Seq.{ext_get_or, get_or-set_same, get_or-set_other, get_or-take, take-suc-set}
use lib.Dec.{ltb, leb, eqb}
use borrow.Author.Tests.{lt-ltb, le-ltb, le-leb, lt-leb, eq-eqb, ne_eqb}
use Rattle.std.specs.List.{CopiedTo, SameBelow, SameFrom}
use Rattle.lists.specs.Lists.{tab}
use Rattle.lists.proofs.Cases.{split}
use Rattle.lists.proofs.Laws.{length-tab, get_or-tab, is-tab}
use Rattle.store.specs.declared.order.Slots.{Slots}
use Rattle.store.specs.Orders.{ins_at, del_at, hit, occ, meant, moved_up, moved_down, pushed}

-- ---- a list

del_low : (n k : ℕ) (l : List ℕ) → k < n → get_or (del_at n l) k 0 ≡ get_or l k 0
unfolding del_at
del_low n k [] h = refl
del_low zero k (x ∷ xs) h = absurd (not-suc-le-zero h)
del_low (suc n) zero (x ∷ xs) h = refl
del_low (suc n) (suc k) (x ∷ xs) h = del_low n k xs (le_of_suc-le-suc h)

del_high : (n k : ℕ) (l : List ℕ) → n ≤ k → get_or (del_at n l) k 0 ≡ get_or l (suc k) 0
unfolding del_at
del_high n k [] h = refl
del_high zero k (x ∷ xs) h = refl
del_high (suc n) zero (x ∷ xs) h = absurd (not-suc-le-zero h)
del_high (suc n) (suc k) (x ∷ xs) h = del_high n k xs (le_of_suc-le-suc h)

ins_low : (i k a : ℕ) (l : List ℕ) → k < i → i ≤ length l → get_or (ins_at i a l) k 0 ≡ get_or l k 0
unfolding ins_at
ins_low zero k a l h w = absurd (not-suc-le-zero h)
ins_low (suc i) k a [] h w = absurd (not-suc-le-zero w)
ins_low (suc i) zero a (x ∷ xs) h w = refl
ins_low (suc i) (suc k) a (x ∷ xs) h w = ins_low i k a xs (le_of_suc-le-suc h) (le_of_suc-le-suc w)

ins_here : (i a : ℕ) (l : List ℕ) → i ≤ length l → get_or (ins_at i a l) i 0 ≡ a
unfolding ins_at
ins_here zero a l w = refl
ins_here (suc i) a [] w = absurd (not-suc-le-zero w)
ins_here (suc i) a (x ∷ xs) w = ins_here i a xs (le_of_suc-le-suc w)

ins_high : (i k a : ℕ) (l : List ℕ) → i ≤ k → i ≤ length l → get_or (ins_at i a l) (suc k) 0 ≡ get_or l k 0
unfolding ins_at
ins_high zero k a l h w = refl
ins_high (suc i) k a [] h w = absurd (not-suc-le-zero w)
ins_high (suc i) zero a (x ∷ xs) h w = absurd (not-suc-le-zero h)
ins_high (suc i) (suc k) a (x ∷ xs) h w = ins_high i k a xs (le_of_suc-le-suc h) (le_of_suc-le-suc w)

module _ {A : Type 0} where
  length_del : (n : ℕ) (l : List A) → n < length l → suc (length (del_at n l)) ≡ length l
  unfolding del_at
  length_del n [] h = absurd (not-suc-le-zero h)
  length_del zero (x ∷ xs) h = refl
  length_del (suc n) (x ∷ xs) h = ap suc (length_del n xs (le_of_suc-le-suc h))

  pub length_ins : (i : ℕ) (a : A) (l : List A) → length (ins_at i a l) ≡ suc (length l)
  unfolding ins_at
  length_ins zero a l = refl
  length_ins (suc i) a [] = refl
  length_ins (suc i) a (x ∷ xs) = ap suc (length_ins i a xs)

  -- past the end nothing is taken out
  pub del_out : (n : ℕ) (l : List A) → length l ≤ n → del_at n l ≡ l
  unfolding del_at
  del_out n [] h = refl
  del_out zero (x ∷ xs) h = absurd (not-suc-le-zero h)
  del_out (suc n) (x ∷ xs) h = ap (λ (r : List A). x ∷ r) (del_out n xs (le_of_suc-le-suc h))

module _ {A B : Type 0} (f : A → B) where
  pub map_ins : (i : ℕ) (a : A) (l : List A) → map f (ins_at i a l) ≡ ins_at i (f a) (map f l)
  unfolding ins_at
  map_ins zero a l = refl
  map_ins (suc i) a [] = refl
  map_ins (suc i) a (x ∷ xs) = ap (λ (r : List B). f x ∷ r) (map_ins i a xs)

  pub map_del : (i : ℕ) (l : List A) → map f (del_at i l) ≡ del_at i (map f l)
  unfolding del_at
  map_del i [] = refl
  map_del zero (x ∷ xs) = refl
  map_del (suc i) (x ∷ xs) = ap (λ (r : List B). f x ∷ r) (map_del i xs)

-- ---- how often a slot stands in a list

pub occ_ins : (v i a : ℕ) (l : List ℕ) → occ v (ins_at i a l) ≡ hit (eqb v a) + occ v l
unfolding occ ins_at
occ_ins v zero a l = refl
occ_ins v (suc i) a [] = refl
occ_ins v (suc i) a (x ∷ xs) = omega (arith, occ_ins v i a xs)

pub occ_del : (v n : ℕ) (l : List ℕ) → n < length l → hit (eqb v (get_or l n 0)) + occ v (del_at n l) ≡ occ v l
unfolding occ del_at
occ_del v n [] h = absurd (not-suc-le-zero h)
occ_del v zero (x ∷ xs) h = refl
occ_del v (suc n) (x ∷ xs) h = omega (arith, occ_del v n xs (le_of_suc-le-suc h))

pub occ-append : (v : ℕ) (l m : List ℕ) → occ v (l ++ m) ≡ occ v l + occ v m
unfolding occ
occ-append v [] m = omega arith
occ-append v (x ∷ xs) m = omega (arith, occ-append v xs m)

pub hit_self : (v : ℕ) → hit (eqb v v) ≡ 1
hit_self v = rw (eq-eqb v v refl)

pub occ-get_or : (n : ℕ) (l : List ℕ) → n < length l → 1 ≤ occ (get_or l n 0) l
unfolding occ
occ-get_or n [] h = absurd (not-suc-le-zero h)
occ-get_or zero (x ∷ xs) h = omega (arith, hit_self x)
occ-get_or (suc n) (x ∷ xs) h = omega (arith, occ-get_or n xs (le_of_suc-le-suc h))

pub length-meant : (s : Slots) → length s.at ≡ 256 → length (meant s) ≡ min s.count 256
length-meant s e = rw (length-take, e)

-- ---- an array of slots, one put in at a position

module _ (s : Slots) (i x : ℕ) where
  abbrev up_at : ℕ → ℕ
  up_at k = cond (ltb k i) (get_or s.at k 0) (cond (eqb k i) x (cond (leb k s.count) (get_or s.at (k - 1) 0) (get_or s.at k 0)))

  up_low : (k : ℕ) → k < i → up_at k ≡ get_or s.at k 0
  up_low k h = rw (lt-ltb k i h)

  up_here : up_at i ≡ x
  up_here = let h : i ≤ i = omega arith in rw (le-ltb i i h, eq-eqb i i refl)

  up_next : (k : ℕ) → i < k → k ≤ s.count → up_at k ≡ get_or s.at (k - 1) 0
  up_next k h g = let le : i ≤ k = omega arith in rw (le-ltb k i le, ne_eqb k i (λ q. omega arith), le-leb k s.count g)

  up_high : (k : ℕ) → i < k → s.count < k → up_at k ≡ get_or s.at k 0
  up_high k h g = let le : i ≤ k = omega arith in rw (le-ltb k i le, ne_eqb k i (λ q. omega arith), lt-leb k s.count g)

  pub meant_up : length s.at ≡ 256 → i ≤ s.count → s.count < 256 → meant (moved_up s i x) ≡ ins_at i x (meant s)
  meant_up e h g =
      ext_get_or 0 (meant (moved_up s i x)) (ins_at i x (meant s)) (long ∙ (ap suc (sym m) ∙ sym (length_ins i x (meant s))))
      (λ k lt. get_or-take (s.count + 1) (tab 256 up_at) k 0 (omega (arith, long))
      ∙ (get_or-tab 0 256 up_at k (omega (arith, long)) ∙ place k (omega (arith, long)) (split k i) (split i k)))
    where
      m : length (meant s) ≡ s.count
      m = rw (length-take, e) (omega arith)

      long : length (meant (moved_up s i x)) ≡ suc s.count
      long = rw (length-take, length-tab 256 up_at) (omega arith)

      place : (k : ℕ) → k ≤ s.count → (k < i) ⊎ (i ≤ k) → (i < k) ⊎ (k ≤ i) → up_at k ≡ get_or (ins_at i x (meant s)) k 0
      place k lt (inl a) _ = up_low k a ∙ sym (ins_low i k x (meant s) a (omega (arith, m)) ∙ get_or-take s.count s.at k 0 (omega arith))
      place k lt (inr b) (inr a) = let q : k ≡ i = omega arith in rw q (up_here ∙ sym (ins_here i x (meant s) (omega (arith, m))))
      place zero lt (inr b) (inl a) = absurd (not-suc-le-zero a)
      place (suc k) lt (inr b) (inl a) =
          let q : suc k - 1 ≡ k = omega arith in
          up_next (suc k) a lt ∙ rw q (sym (ins_high i k x (meant s) (omega arith) (omega (arith, m)) ∙ get_or-take s.count s.at k 0 (omega arith)))

  -- those from the position on copied one place up, and the slot stored
  pub raised : (r : List ℕ) → length s.at ≡ 256 → length r ≡ length s.at → i ≤ s.count → s.count < 256
      → CopiedTo s.at r i (i + 1) (s.count - i) → SameBelow s.at r (i + 1) → SameFrom s.at r (i + 1 + (s.count - i)) → set r i x ≡ (moved_up s i x).at
  raised r e l h g copied below from = is-tab 0 (set r i x) 256 up_at (length-set r i x ∙ (l ∙ e)) (λ k lt. place k (split k i) (split i k))
    where
      place : (k : ℕ) → (k < i) ⊎ (i ≤ k) → (i < k) ⊎ (k ≤ i) → get_or (set r i x) k 0 ≡ up_at k
      place k (inl a) _ = get_or-set_other r i k x 0 (λ q. omega arith) ∙ (below k 0 (omega arith) ∙ sym (up_low k a))
      place k (inr b) (inr a) = let q : k ≡ i = omega arith in rw q (get_or-set_same r i x 0 (omega arith) ∙ sym up_here)
      place k (inr b) (inl a) =
          get_or-set_other r i k x 0 (λ q. omega arith)
          ∙ ⊎_elim (λ c. from k 0 (omega arith) ∙ sym (up_high k a c))
          (λ c. copied k 0 (omega arith) (omega arith) ∙ (ap (λ (j : ℕ). get_or s.at j 0) (omega arith) ∙ sym (up_next k a c)))
          (split s.count k)

-- ---- an array of slots, the one at a position taken out

module _ (s : Slots) (i : ℕ) where
  abbrev down_at : ℕ → ℕ
  down_at k = cond (leb i k && ltb (k + 1) s.count) (get_or s.at (k + 1) 0) (get_or s.at k 0)

  down_low : (k : ℕ) → k < i → down_at k ≡ get_or s.at k 0
  down_low k h = rw (lt-leb i k h)

  down_next : (k : ℕ) → i ≤ k → k + 1 < s.count → down_at k ≡ get_or s.at (k + 1) 0
  down_next k h g = rw (le-leb i k h, lt-ltb (k + 1) s.count g)

  down_high : (k : ℕ) → s.count ≤ k + 1 → down_at k ≡ get_or s.at k 0
  down_high k h = rw (le-ltb (k + 1) s.count h, and-false)

  pub meant_down : length s.at ≡ 256 → i < s.count → s.count ≤ 256 → meant (moved_down s i) ≡ del_at i (meant s)
  meant_down e h g =
      ext_get_or 0 (meant (moved_down s i)) (del_at i (meant s)) (long ∙ sym rest)
      (λ k lt. get_or-take (s.count - 1) (tab 256 down_at) k 0 (omega (arith, long))
      ∙ (get_or-tab 0 256 down_at k (omega (arith, long)) ∙ place k (omega (arith, long)) (split k i)))
    where
      m : length (meant s) ≡ s.count
      m = rw (length-take, e) (omega arith)

      rest : length (del_at i (meant s)) ≡ s.count - 1
      rest = omega (arith, m, length_del i (meant s) (omega (arith, m)))

      long : length (meant (moved_down s i)) ≡ s.count - 1
      long = rw (length-take, length-tab 256 down_at) (omega arith)

      place : (k : ℕ) → k + 1 < s.count → (k < i) ⊎ (i ≤ k) → down_at k ≡ get_or (del_at i (meant s)) k 0
      place k lt (inl a) = down_low k a ∙ sym (del_low i k (meant s) a ∙ get_or-take s.count s.at k 0 (omega arith))
      place k lt (inr a) = down_next k a lt ∙ rw add-one (sym (del_high i k (meant s) a ∙ get_or-take s.count s.at (suc k) 0 (omega arith)))

  -- those behind the position copied one place down
  pub lowered : (r : List ℕ) → length s.at ≡ 256 → length r ≡ length s.at → i < s.count
      → CopiedTo s.at r (i + 1) i (s.count - (i + 1)) → SameBelow s.at r i → SameFrom s.at r (i + (s.count - (i + 1))) → r ≡ (moved_down s i).at
  lowered r e l h copied below from =
      is-tab 0 r 256 down_at (l ∙ e) (λ j lt. ⊎_elim (λ a. below j 0 a ∙ sym (down_low j a)) (λ a. beyond j a (split (j + 1) s.count)) (split j i))
    where
      beyond : (j : ℕ) → i ≤ j → (j + 1 < s.count) ⊎ (s.count ≤ j + 1) → get_or r j 0 ≡ down_at j
      beyond j a (inl b) = copied j 0 a (omega arith) ∙ (ap (λ (k : ℕ). get_or s.at k 0) (omega arith) ∙ sym (down_next j a b))
      beyond j a (inr b) = from j 0 (omega arith) ∙ sym (down_high j b)

-- ---- a slot put behind the others, and the last one taken out

pub meant_push : (s : Slots) (x : ℕ) → s.count < length s.at → meant (pushed s x) ≡ meant s ++ (x ∷ [])
meant_push s x h = rw (add-one, take-suc-set s.at s.count x h)

pub length_push : (s : Slots) (x : ℕ) → length (pushed s x).at ≡ length s.at
length_push s x = length-set s.at s.count x
