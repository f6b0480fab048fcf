-- Lists by place: a row that is set, entries that are made over, an element that is taken out. Assumes nothing.
use mathlib.Core.Path.{◌≡◌, refl, sym, ◌∙◌}
use mathlib.Core.Bool.{Bool, true, false, cond}
use mathlib.Core.Logic.{◌⊎◌, inl, inr, ⊎_elim}
use mathlib.Core.List.Memᴰ
use mathlib.Core.List.{List, [], ◌∷◌}
use Prim.Native.Nat.{ℕ, zero, suc, ◌≤◌, ◌<◌, max, suc-le-suc}
use native.Mathlib.Nat.{not-suc-le-zero, le_of_suc-le-suc}
use native.Mathlib.Omega.{arith}
use lib.ListN.{length, get_or, set, get_or-eq_default}
use lib.Seq.{get_or-set_same, get_or-set_other}
use borrow.Author.Tests.{lt-ltb, le-ltb}
use Rattle.lists.specs.Lists.{at, tab, over, least}
use Rattle.lists.proofs.Cases.{split}
use Rattle.lists.proofs.Joined.{each_at}
use Rattle.lists.proofs.Laws.{over-at, length_over, length-tab, get_or-tab}
use Rattle.clock.specs.declared.version_vector.Row.{Row}
use Rattle.clock.specs.Entries.{join_entries}
use Rattle.clock.specs.Matrix.{zero_row, row_of}
use Rattle.store.specs.declared.event.Event.{Event}
use Rattle.store.specs.Orders.{In, SameId, Sorted, del_at, keep}
use Rattle.store.proofs.Sorting.{before_other}

-- a choice by a test, by the two cases
pub cond_ind : {A : Type 0} (P : A → Type 0) (b : Bool) {x y : A} → (b ≡ true → P x) → (b ≡ false → P y) → P (cond b x y)
cond_ind P true f g = f refl
cond_ind P false f g = g refl

-- two numbers are the same, or they aren't
pub same-or-other : (i k : ℕ) → (i ≡ k) ⊎ (i ≡ k → ⊥)
same-or-other i k = ⊎_elim (λ h. inr (λ e. omega arith)) (λ h. ⊎_elim (λ g. inr (λ e. omega arith)) (λ g. inl (omega arith)) (split k i)) (split i k)

-- ---- tables of one value

pub tab-each : {A : Type 0} (n : ℕ) (a : A) (k : ℕ) → get_or (tab n (λ j. a)) k a ≡ a
tab-each n a k =
    ⊎_elim (λ h. get_or-tab a n (λ j. a) k h) (λ h. get_or-eq_default (tab n (λ j. a)) a {n = k} (omega (arith, length-tab n (λ j. a)))) (split k n)

-- ---- entries made over

pub over_low : (n : ℕ) (f : ℕ → ℕ) (r : List ℕ) (j : ℕ) → n ≤ length r → j < n → at (over 0 n f r) j ≡ f j
over_low n f r j h lt = over-at 0 n f r j (omega arith) ∙ rw (lt-ltb j n lt) refl

pub over_high : (n : ℕ) (f : ℕ → ℕ) (r : List ℕ) (j : ℕ) → n ≤ j → at (over 0 n f r) j ≡ at r j
over_high n f r j h =
    ⊎_elim (λ lt. over-at 0 n f r j lt ∙ rw (le-ltb j n h) refl)
    (λ g. get_or-eq_default (over 0 n f r) 0 {n = j} (omega (arith, length_over 0 n f r)) ∙ sym (get_or-eq_default r 0 {n = j} g))
    (split j (length r))

-- an entry of a join: the larger below the member count, and as it was behind it
pub join_low : (n : ℕ) (a v : List ℕ) (j : ℕ) → n ≤ length a → j < n → at (join_entries n a v) j ≡ max (at a j) (at v j)
join_low n a v j = over_low n (λ k. max (at a k) (at v k)) a j

pub join_high : (n : ℕ) (a v : List ℕ) (j : ℕ) → n ≤ j → at (join_entries n a v) j ≡ at a j
join_high n a v j = over_high n (λ k. max (at a k) (at v k)) a j

-- ---- the least

pub least_le : (k : ℕ) (f : ℕ → ℕ) (i : ℕ) → i ≤ k → least k f ≤ f i
unfolding least
least_le zero f i h = let e : i ≡ 0 = omega arith in rw e (omega arith)
least_le (suc k) f i h =
    ⊎_elim (λ (lt : i < suc k). omega (arith, least_le k f i (omega arith))) (λ (g : suc k ≤ i). let e : i ≡ suc k = omega arith in rw e (omega arith)) (split i (suc k))

-- ---- an element that is set

-- element k where element i is set, by the two cases
pub set_ind : {A : Type 0} (P : A → Type 0) (l : List A) (i : ℕ) (a d : A) (k : ℕ) → i < length l
    → (k ≡ i → P a) → ((k ≡ i → ⊥) → P (get_or l k d)) → P (get_or (set l i a) k d)
set_ind P l i a d k h f g =
    ⊎_elim (λ e. rw e (rw (get_or-set_same l i a d h) (f e))) (λ e. rw (get_or-set_other l i k a d e) (g e)) (same-or-other k i)

-- the same of a matrix's rows
pub row_ind : (P : List ℕ → Type 0) (rows : List Row) (i : ℕ) (l : List ℕ) (k : ℕ) → i < length rows
    → (k ≡ i → P l) → ((k ≡ i → ⊥) → P (row_of rows k)) → P (row_of (set rows i (record { entries = l })) k)
row_ind P rows i l k = set_ind (λ (r : Row). P r.entries) rows i (record { entries = l }) zero_row k

-- ---- stores

pub keep-few : {A : Type 0} (p : A → Bool) (l : List A) → length (keep p l) ≤ length l
unfolding keep
keep-few p [] = omega arith
keep-few {A} p (x ∷ l) =
    cond_ind (λ (c : List A). length c ≤ suc (length l)) (p x) (λ t. suc-le-suc (keep-few p l)) (λ t. omega (arith, keep-few p l))

pub delete_few : {A : Type 0} (i : ℕ) (l : List A) → length (del_at i l) ≤ length l
unfolding del_at
delete_few i [] = omega arith
delete_few zero (x ∷ l) = omega arith
delete_few (suc i) (x ∷ l) = suc-le-suc (delete_few i l)

-- the element at a place is one of the list
pub in_at : {A : Type 0} (l : List A) (i : ℕ) (d : A) → i < length l → In (get_or l i d) l
in_at {A} l i d = each_at (λ (x : A). In x l) d l (λ x m. m) i

-- what is left has other ids than what was taken out
pub delete_other : (i : ℕ) (l : List Event) (d : Event) {x : Event} → Sorted l → i < length l → In x (del_at i l) → SameId x (get_or l i d) → ⊥
unfolding del_at
delete_other i [] d s lt m same = not-suc-le-zero lt
delete_other zero (y ∷ l) d {x} s lt m same = before_other y x (s.0 x m) (sym same.0, sym same.1)
delete_other (suc i) (y ∷ l) d {x} s lt m same =
    ⊎_elim (λ c. before_other y (get_or l i d) (s.0 (get_or l i d) (in_at l i d (le_of_suc-le-suc lt))) (rw c at same))
    (λ c. delete_other i l d s.1 (le_of_suc-le-suc lt) c same)
    (Memᴰ.cases_cons m)
