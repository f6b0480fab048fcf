-- The laws of `specs/Lists.antt`. Assumes nothing.
use mathlib.Core.Path.{◌≡◌, refl, sym, ap, ◌∙◌}
use mathlib.Core.Bool.{Bool, true, false, cond, not, ◌&&◌, and-true, and-false, or-true}
use mathlib.Core.Logic.{◌⊎◌, inl, inr, ⊎_elim}
use mathlib.Core.List.{List, [], ◌∷◌, ◌++◌, map}
use Prim.Native.Nat.{ℕ, zero, suc, ◌+◌, ◌≤◌, ◌<◌, min, zero-le}
use native.Mathlib.Nat.{not-suc-le-zero, le_of_suc-le-suc}
use native.Mathlib.Numerals.{add-one}
use native.Mathlib.Omega.{arith}
use lib.ListN.{length, get_or, set, replicate, length-set, length-map, length-append, get_or-append, length-replicate, get_or-replicate, get_or-eq_default}
use lib.Seq.{ext_get_or, get_or-append_seam, get_or-set_same, get_or-set_other, set-get_or}
use lib.Dec.{ltb, leb}
use borrow.Author.Tests.{lt-ltb, le-ltb, le-leb, lt-leb, not-true, not-false}
use Rattle.lists.specs.Lists.{tab, over, all, any, sum, chain}
use Rattle.lists.proofs.Cases.{split}

-- ---- tab

module _ {A : Type 0} where
  pub length-tab : (n : ℕ) (f : ℕ → A) → length (tab n f) ≡ n
  unfolding tab
  length-tab zero f = refl
  length-tab (suc n) f = ap suc (length-tab n (λ j. f (suc j)))

  pub get_or-tab : (d : A) (n : ℕ) (f : ℕ → A) (k : ℕ) → k < n → get_or (tab n f) k d ≡ f k
  unfolding tab
  get_or-tab d zero f k h = absurd (not-suc-le-zero h)
  get_or-tab d (suc n) f zero h = refl
  get_or-tab d (suc n) f (suc k) h = get_or-tab d n (λ j. f (suc j)) k (le_of_suc-le-suc h)

  -- a list that has f's values is the table of f
  pub is-tab : (d : A) (l : List A) (n : ℕ) (f : ℕ → A) → length l ≡ n → ((k : ℕ) → k < n → get_or l k d ≡ f k) → l ≡ tab n f
  is-tab d l n f e h = ext_get_or d l (tab n f) (e ∙ sym (length-tab n f)) (λ k lt. h k (omega arith) ∙ sym (get_or-tab d n f k (omega arith)))

  -- an array of one value
  pub tab-same : (n : ℕ) (a : A) → replicate n a ≡ tab n (λ j. a)
  tab-same n a = is-tab a (replicate n a) n (λ j. a) (length-replicate n a) (λ k lt. get_or-replicate n k a a lt)

  -- ---- over: a loop that makes the entries from place 0 on

  pub length_over : (d : A) (n : ℕ) (f : ℕ → A) (r : List A) → length (over d n f r) ≡ length r
  unfolding over
  length_over d n f r = length-tab (length r) (λ j. cond (ltb j n) (f j) (get_or r j d))

  pub over-at : (d : A) (n : ℕ) (f : ℕ → A) (r : List A) (k : ℕ) → k < length r → get_or (over d n f r) k d ≡ cond (ltb k n) (f k) (get_or r k d)
  unfolding over
  over-at d n f r k h = get_or-tab d (length r) (λ j. cond (ltb j n) (f j) (get_or r j d)) k h

  pub over_none : (d : A) (f : ℕ → A) (r : List A) → over d 0 f r ≡ r
  over_none d f r =
      ext_get_or d (over d 0 f r) r (length_over d 0 f r)
      (λ k lt. over-at d 0 f r k (rw (length_over d 0 f r) at lt) ∙ rw (le-ltb k 0 zero-le))

  -- one place more
  pub over-more : (d : A) (i : ℕ) (f : ℕ → A) (r : List A) → i < length r → set (over d i f r) i (f i) ≡ over d (i + 1) f r
  over-more d i f r h =
      ext_get_or d (set (over d i f r) i (f i)) (over d (i + 1) f r) (length-set (over d i f r) i (f i) ∙ (length_over d i f r ∙ sym (length_over d (i + 1) f r)))
      (λ k lt. place k (rw (length-set (over d i f r) i (f i), length_over d i f r) at lt) (split k i) (split i k))
    where
      place : (k : ℕ) → k < length r → (k < i) ⊎ (i ≤ k) → (i < k) ⊎ (k ≤ i) → get_or (set (over d i f r) i (f i)) k d ≡ get_or (over d (i + 1) f r) k d
      place k lt (inl a) _ =
          get_or-set_other (over d i f r) i k (f i) d (λ q. omega arith)
          ∙ (over-at d i f r k lt ∙ (rw (lt-ltb k i a, lt-ltb k (i + 1) (omega arith)) refl ∙ sym (over-at d (i + 1) f r k lt)))
      place k lt (inr b) (inl a) =
          get_or-set_other (over d i f r) i k (f i) d (λ q. omega arith)
          ∙ (over-at d i f r k lt ∙ (rw (le-ltb k i b, le-ltb k (i + 1) (omega arith)) refl ∙ sym (over-at d (i + 1) f r k lt)))
      place k lt (inr b) (inr a) =
          let e : k ≡ i = omega arith in
          rw e (get_or-set_same (over d i f r) i (f i) d (omega (arith, length_over d i f r)) ∙ (rw (lt-ltb i (i + 1) (omega arith)) refl ∙ sym (over-at d (i + 1) f r i h)))

  -- a place that has its value already
  pub over_skip : (d : A) (i : ℕ) (f : ℕ → A) (r : List A) → i < length r → f i ≡ get_or r i d → over d i f r ≡ over d (i + 1) f r
  over_skip d i f r h e =
      let le : i ≤ i = omega arith in
      sym (set-get_or (over d i f r) i d)
      ∙ (ap (λ (x : A). set (over d i f r) i x) (over-at d i f r i h ∙ rw (le-ltb i i le) (sym e)) ∙ over-more d i f r h)

  -- places past the end are none
  pub over_past : (d : A) (m n : ℕ) (f : ℕ → A) (r : List A) → length r ≤ m → length r ≤ n → over d m f r ≡ over d n f r
  over_past d m n f r h g =
      ext_get_or d (over d m f r) (over d n f r) (length_over d m f r ∙ sym (length_over d n f r))
      (λ k lt. place k (rw (length_over d m f r) at lt))
    where
      place : (k : ℕ) → k < length r → get_or (over d m f r) k d ≡ get_or (over d n f r) k d
      place k lt = over-at d m f r k lt ∙ (rw (lt-ltb k m (omega arith), lt-ltb k n (omega arith)) refl ∙ sym (over-at d n f r k lt))

  -- every place made
  pub over-whole : (d : A) (n : ℕ) (f : ℕ → A) (r : List A) → length r ≡ n → over d n f r ≡ tab n f
  over-whole d n f r e =
      is-tab d (over d n f r) n f (length_over d n f r ∙ e) (λ k lt. over-at d n f r k (omega arith) ∙ rw (lt-ltb k n lt))

  -- a count above the length counts as the length
  pub over_clamp : (d : A) (n k : ℕ) (f : ℕ → A) (r : List A) → length r ≡ k → over d (min n k) f r ≡ over d n f r
  over_clamp d n k f r e =
      ⊎_elim (λ h. let m : min n k ≡ n = omega arith in rw m refl) (λ h. over_past d (min n k) n f r (omega arith) (omega arith)) (split n k)

-- ---- tests and sums over places

-- a count above what the test is always true from on
pub all_clamp : (n k : ℕ) (p : ℕ → Bool) → ((j : ℕ) → k ≤ j → p j ≡ true) → all (min n k) p ≡ all n p
unfolding all
all_clamp zero k p h = let e : min 0 k ≡ 0 = omega arith in rw e refl
all_clamp (suc n) k p h =
    ⊎_elim (λ g. let e : min (suc n) k ≡ suc n = omega arith in rw e refl)
    (λ g. let e : min (suc n) k ≡ min n k = omega arith in rw (e, all_clamp n k p h, h n (omega arith)) (sym (and-true (all n p))))
    (split n k)

pub sum_clamp : (n k : ℕ) (f : ℕ → ℕ) → ((j : ℕ) → k ≤ j → f j ≡ 0) → sum (min n k) f ≡ sum n f
unfolding sum
sum_clamp zero k f h = let e : min 0 k ≡ 0 = omega arith in rw e refl
sum_clamp (suc n) k f h =
    ⊎_elim (λ g. let e : min (suc n) k ≡ suc n = omega arith in rw e refl)
    (λ g. let e : min (suc n) k ≡ min n k = omega arith in rw (e, sum_clamp n k f h) (omega (arith, h n (omega arith))))
    (split n k)

-- one place more
pub all_more : (i : ℕ) (p : ℕ → Bool) → all i p ≡ true → p i ≡ true → all (i + 1) p ≡ true
unfolding all
all_more i p h e = rw (add-one, h, e) refl

-- a place that fails
pub all_fails : (n i : ℕ) (p : ℕ → Bool) → i < n → p i ≡ false → all n p ≡ false
unfolding all
all_fails zero i p h e = absurd (not-suc-le-zero h)
all_fails (suc n) i p h e =
    ⊎_elim (λ g. rw (all_fails n i p g e) refl) (λ g. let q : n ≡ i = omega arith in rw (q, e) (and-false (all i p))) (split i n)

pub any_found : (n i : ℕ) (p : ℕ → Bool) → i < n → p i ≡ true → any n p ≡ true
unfolding any
any_found zero i p h e = absurd (not-suc-le-zero h)
any_found (suc n) i p h e =
    ⊎_elim (λ g. rw (any_found n i p g e) refl) (λ g. let q : n ≡ i = omega arith in rw (q, e) (or-true (any i p))) (split i n)

-- tests that agree below n
pub all_same : (n : ℕ) (p q : ℕ → Bool) → ((j : ℕ) → j < n → p j ≡ q j) → all n p ≡ all n q
unfolding all
all_same zero p q h = refl
all_same (suc n) p q h = rw (all_same n p q (λ j lt. h j (omega arith)), h n (omega arith)) refl

pub all-each : (n : ℕ) (p : ℕ → Bool) → ((j : ℕ) → j < n → p j ≡ true) → all n p ≡ true
unfolding all
all-each zero p h = refl
all-each (suc n) p h = rw (all-each n p (λ j lt. h j (omega arith)), h n (omega arith)) refl

pub sum_more : (i : ℕ) (f : ℕ → ℕ) → sum (i + 1) f ≡ sum i f + f i
unfolding sum
sum_more i f = rw add-one refl

-- ---- lists

-- inside a list the default does not matter
pub get_d_any : {A : Type 0} (l : List A) (i : ℕ) (d e : A) → i < length l → get_or l i d ≡ get_or l i e
get_d_any [] i d e h = absurd (not-suc-le-zero h)
get_d_any (x ∷ l) zero d e h = refl
get_d_any (x ∷ l) (suc i) d e h = get_d_any l i d e (le_of_suc-le-suc h)

-- an array of structs is as long as the array of what they are made of
pub length_mapped : (X Y : Type 0) (f : X → Y) (l : List X) (n : ℕ) → length (map f l) ≡ n → length l ≡ n
length_mapped X Y f l n e = sym (length-map l f) ∙ e

-- an element put behind a list that is kept in n places
pub tab_push : {A : Type 0} (d : A) (n : ℕ) (l : List A) (x : A) → length l < n → set (tab n (λ j. get_or l j d)) (length l) x ≡ tab n (λ j. get_or (l ++ (x ∷ [])) j d)
tab_push {A} d n l x h =
    is-tab d (set (tab n (λ j. get_or l j d)) (length l) x) n (λ j. get_or (l ++ (x ∷ [])) j d)
    (length-set (tab n (λ j. get_or l j d)) (length l) x ∙ length-tab n (λ j. get_or l j d))
    (λ k lt. place k lt (split k (length l)) (split (length l) k))
  where
    place : (k : ℕ) → k < n → (k < length l) ⊎ (length l ≤ k) → (length l < k) ⊎ (k ≤ length l) → get_or (set (tab n (λ j. get_or l j d)) (length l) x) k d ≡ get_or (l ++ (x ∷ [])) k d
    place k lt (inl a) _ =
        get_or-set_other (tab n (λ j. get_or l j d)) (length l) k x d (λ q. omega arith)
        ∙ (get_or-tab d n (λ j. get_or l j d) k lt ∙ sym (get_or-append l (x ∷ []) d k a))
    place k lt (inr b) (inl a) =
        get_or-set_other (tab n (λ j. get_or l j d)) (length l) k x d (λ q. omega arith)
        ∙ (get_or-tab d n (λ j. get_or l j d) k lt
        ∙ (get_or-eq_default l d {n = k} (omega arith) ∙ sym (get_or-eq_default (l ++ (x ∷ [])) d {n = k} (rw (length-append l (x ∷ [])) (omega arith)))))
    place k lt (inr b) (inr a) =
        let e : k ≡ length l = omega arith in
        rw e (get_or-set_same (tab n (λ j. get_or l j d)) (length l) x d (omega (arith, length-tab n (λ j. get_or l j d))) ∙ sym (get_or-append_seam l x [] d))

-- ---- chain

module _ {A : Type 0} where
  pub chain_more : (i : ℕ) (f : ℕ → List A) → chain (i + 1) f ≡ chain i f ++ f i
  unfolding chain
  chain_more i f = rw add-one refl

  -- what is made of the first places and one more is part of the whole
  pub chain-room : (i n : ℕ) (f : ℕ → List A) → i < n → length (chain i f) + length (f i) ≤ length (chain n f)
  unfolding chain
  chain-room i zero f h = absurd (not-suc-le-zero h)
  chain-room i (suc n) f h =
      ⊎_elim (λ g. omega (arith, chain-room i n f g, length-append (chain n f) (f n)))
      (λ (g : n ≤ i). let e : n ≡ i = omega arith in rw e (omega (arith, length-append (chain i f) (f i))))
      (split i n)

  -- functions that agree below n
  pub chain_same : (n : ℕ) (f g : ℕ → List A) → ((j : ℕ) → j < n → f j ≡ g j) → chain n f ≡ chain n g
  unfolding chain
  chain_same zero f g h = refl
  chain_same (suc n) f g h = rw (chain_same n f g (λ j lt. h j (omega arith)), h n (omega arith)) refl

-- ---- tests

-- a test that passes below n passes at each place there
pub all-at : (n i : ℕ) (p : ℕ → Bool) → all n p ≡ true → i < n → p i ≡ true
all-at n i p h lt = pick (p i) refl
  where
    pick : (t : Bool) → p i ≡ t → p i ≡ true
    pick true e = e
    pick false e = let z : ◌≡◌ {A = ℕ} 0 1 = (let y = all_fails n i p lt e in cc) in absurd (omega arith)

-- two tests that both pass
pub and_both : (a b : Bool) → (a && b) ≡ true → (a ≡ true) × (b ≡ true)
and_both true b e = (refl, e)
and_both false b e = let z : ◌≡◌ {A = ℕ} 0 1 = cc in absurd (omega arith)

-- what an answer says of the test that it tells, where its negation was tested
pub answered_no : {r t : Bool} → r ≡ t → not r ≡ true → t ≡ false
answered_no {r} e n = sym e ∙ not-true r n

pub answered_yes : {r t : Bool} → r ≡ t → not r ≡ false → t ≡ true
answered_yes {r} e n = sym e ∙ not-false r n

-- comparisons that hold together
pub leb_same : (a b m n : ℕ) → (a ≤ b → m ≤ n) → (b < a → n < m) → leb a b ≡ leb m n
leb_same a b m n h g = ⊎_elim (λ l. lt-leb a b l ∙ sym (lt-leb m n (g l))) (λ l. le-leb a b l ∙ sym (le-leb m n (h l))) (split b a)
