-- What loops over places keep, turn by turn, whatever they make or test. Assumes nothing.
use mathlib.Core.Path.{◌≡◌, refl, sym, ap, ◌∙◌}
use mathlib.Core.Bool.{Bool, true, false, cond}
use mathlib.Core.List.{List}
use Prim.Native.Nat.{ℕ, zero, suc, ◌+◌, ◌-◌, ◌*◌, ◌≤◌, ◌<◌, min}
use native.Mathlib.Numerals.{add-one}
use native.Mathlib.Omega.{arith}
use lib.ListN.{length, get_or, set}
use lib.Dec.{eqb}
use borrow.Author.Tests.{eq-eqb, ne_eqb}
use Rattle.lists.specs.Lists.{at, all, any, sum, least, over, tab}
use Rattle.lists.proofs.Laws.{over_none, over-more, over_skip, over-whole, all_more, all_fails, any_found, sum_more}

-- ---- a list whose first i elements, of n, are made f 0, f 1, ..

pub record Making {A : Type 0} (d : A) (f : ℕ → A) (start r : List A) (n i : ℕ) : Type 0 where
  pub room : n ≤ length start
  pub within : i ≤ n
  pub so_far : r ≡ over d i f start

module _ {A : Type 0} {d : A} {f : ℕ → A} {start : List A} {n : ℕ} where
  pub make_none : n ≤ length start → Making d f start start n 0
  make_none h = record { room = h; within = omega arith; so_far = sym (over_none d f start) }

  pub make_more : {r : List A} {i : ℕ} → Making d f start r n i → i < n → Making d f start (set r i (f i)) n (i + 1)
  make_more {r} {i} M h = record {
    room = M.room;
    within = omega arith;
    so_far = rw M.so_far (over-more d i f start (omega (arith, M.room)));
  }

  pub make_skip : {r : List A} {i : ℕ} → Making d f start r n i → i < n → f i ≡ get_or start i d → Making d f start r n (i + 1)
  make_skip {r} {i} M h e = record {
    room = M.room;
    within = omega arith;
    so_far = M.so_far ∙ over_skip d i f start (omega (arith, M.room)) e;
  }

  pub make_all : {r : List A} {i : ℕ} → Making d f start r n i → n ≤ i → r ≡ over d n f start
  make_all {r} {i} M h = let e : i ≡ n = omega (arith, M.within) in M.so_far ∙ ap (λ (k : ℕ). over d k f start) e

  pub make_tab : {r : List A} {i : ℕ} → Making d f start r n i → n ≤ i → length start ≡ n → r ≡ tab n f
  make_tab {r} {i} M h e = make_all M h ∙ over-whole d n f start e

-- ---- a test that each place below i, of n, has passed

pub record Passing (p : ℕ → Bool) (n i : ℕ) : Type 0 where
  pub within : i ≤ n
  pub so_far : all i p ≡ true

module _ {p : ℕ → Bool} {n : ℕ} where
  pub pass_none : Passing p n 0
  unfolding all
  pass_none = record { within = omega arith; so_far = refl }

  pub pass_more : {i : ℕ} → Passing p n i → i < n → p i ≡ true → Passing p n (i + 1)
  pass_more {i} M h e = record { within = omega arith; so_far = all_more i p M.so_far e }

  pub pass_fails : {i : ℕ} → Passing p n i → i < n → p i ≡ false → all n p ≡ false
  pass_fails {i} M h e = all_fails n i p h e

  pub pass_all : {i : ℕ} → Passing p n i → n ≤ i → all n p ≡ true
  pass_all {i} M h = let e : n ≡ i = omega (arith, M.within) in rw e M.so_far

-- ---- the sum of the entries below i, of n

pub record Summing (a : List ℕ) (n i total : ℕ) : Type 0 where
  pub few : n ≤ 16
  pub within : i ≤ n
  pub small : total ≤ 4294967295 * i
  pub so_far : total ≡ sum i (at a)

module _ {a : List ℕ} {n : ℕ} where
  pub sum-none : n ≤ 16 → Summing a n 0 0
  unfolding sum
  sum-none h = record { few = h; within = omega arith; small = omega arith; so_far = refl }

  pub sum_one : {i total : ℕ} → Summing a n i total → i < n → at a i ≤ 4294967295 → Summing a n (i + 1) (total + at a i)
  sum_one {i} {total} M h g = record {
    few = M.few;
    within = omega arith;
    small = omega (arith, M.small);
    so_far = ap (λ (t : ℕ). t + at a i) M.so_far ∙ sym (sum_more i (at a));
  }

  pub sum-all : {i total : ℕ} → Summing a n i total → n ≤ i → total ≡ sum n (at a)
  sum-all {i} {total} M h = let e : i ≡ n = omega (arith, M.within) in M.so_far ∙ ap (λ (k : ℕ). sum k (at a)) e

-- ---- a column of n rows, f 0, f 1, .., scanned as far as i: none is x so far, and low is the least

pub record Scanning (f : ℕ → ℕ) (x n i low : ℕ) : Type 0 where
  pub within : i ≤ n
  pub none : any i (λ k. eqb (f k) x) ≡ false
  pub lowest : low ≡ least (i - 1) f

-- the first element counts once or twice
low_more : (f : ℕ → ℕ) (i : ℕ) → min (least (i - 1) f) (f i) ≡ least i f
unfolding least
low_more f zero = let e : 0 - 1 ≡ 0 = omega arith in rw e (omega arith)
low_more f (suc k) = let e : suc k - 1 ≡ k = omega arith in rw e refl

module _ {f : ℕ → ℕ} {x n : ℕ} where
  pub scan_none : Scanning f x n 0 (f 0)
  unfolding any least
  scan_none = record { within = omega arith; none = refl; lowest = let e : 0 - 1 ≡ 0 = omega arith in rw e refl }

  pub scan_more : {i low : ℕ} → Scanning f x n i low → i < n → (f i ≡ x → ⊥) → Scanning f x n (i + 1) (min low (f i))
  unfolding any
  scan_more {i} {low} M h g = record {
    within = omega arith;
    none = rw (add-one, M.none, ne_eqb (f i) x g) refl;
    lowest = let e : i + 1 - 1 ≡ i = omega arith in rw (e, M.lowest) (low_more f i);
  }

  pub scan_found : {i low : ℕ} → Scanning f x n i low → i < n → f i ≡ x → x ≡ cond (any n (λ k. eqb (f k) x)) x (least (n - 1) f)
  scan_found {i} M h g = rw (any_found n i (λ k. eqb (f k) x) h (eq-eqb (f i) x g)) refl

  pub scan_all : {i low : ℕ} → Scanning f x n i low → n ≤ i → low ≡ cond (any n (λ k. eqb (f k) x)) x (least (n - 1) f)
  scan_all {i} {low} M h = let e : n ≡ i = omega (arith, M.within) in rw (e, M.none) M.lowest
