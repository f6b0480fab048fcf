-- Laws of the matrix clock and of what fits together. Assumes nothing.
use Rattle.refusal.specs.declared.Refusal.{Refusal}
use Rattle.clock.specs.declared.version_vector.Version.{Version}
use Rattle.clock.specs.declared.matrix_clock.MatrixClock.{MatrixClock}
use mathlib.Core.Path.{◌≡◌, refl, sym, ap, ◌∙◌}
use mathlib.Core.Bool.{Bool, true, false, true≢false, cond, not, ◌||◌}
use mathlib.Core.List.{List}
use Prim.Native.Nat.{ℕ, ◌≤◌, ◌<◌, min}
use native.Mathlib.Omega.{arith}
use lib.ListN.{length, get_or-eq_default}
use lib.Dec.{leb, ltb, eqb}
use borrow.Author.Tests.{le-leb, lt-ltb, ltb-false, leb-false, eqb-true, eq-eqb}
use Rattle.std.specs.Prelude.{Ok, Err, Result}
use Rattle.refusal.specs.Refusal.{no, then}
use Rattle.lists.specs.Lists.{at, over, all}
use Rattle.clock.specs.Entries.{zero_entries, at_most, same_entries}
use Rattle.clock.specs.Version.{fits_of}
use Rattle.clock.specs.Matrix.{zero_row, row_of, cell, diagonal, same_rows, fits_update}
use Rattle.clock.specs.declared.version_vector.Row.{Row}
use Rattle.lists.proofs.Laws.{all-each, all_same, over-at, length-tab, get_or-tab, all_clamp}
use Rattle.lists.proofs.Cases.{split}
use Rattle.clock.proofs.Entrywise.{past_end, all_told_to}
use mathlib.Core.Logic.{◌⊎◌, inl, inr}

-- what is refused in no way has 2 to 16 members, like counts, and its places in the list
pub record Fits (n m i j : ℕ) : Type 0 where
  pub two : 2 ≤ n
  pub few : n ≤ 16
  pub like : n ≡ m
  pub place : i < n
  pub another : j < n

pub fits_done : (n m i j : ℕ) → fits_of n m i j ≡ Ok (tt {0}) → Fits n m i j
unfolding fits_of
fits_done n m i j = go (ltb n 2) (ltb 16 n) (eqb n m) (leb n i) (leb n j) refl refl refl refl refl
  where
    go : (a b c d e : Bool) → ltb n 2 ≡ a → ltb 16 n ≡ b → eqb n m ≡ c → leb n i ≡ d → leb n j ≡ e
        → cond (a || (b || not c)) (Err (no 4)) (cond (d || e) (Err (no 9)) (Ok tt)) ≡ Ok (tt {0}) → Fits n m i j
    go true b c d e pa pb pc pd pe h = cc
    go false true c d e pa pb pc pd pe h = cc
    go false false false d e pa pb pc pd pe h = cc
    go false false true true e pa pb pc pd pe h = cc
    go false false true false true pa pb pc pd pe h = cc
    go false false true false false pa pb pc pd pe h = record {
      two = ltb-false n 2 pa;
      few = ltb-false 16 n pb;
      like = eqb-true n m pc;
      place = leb-false n i pd;
      another = leb-false n j pe;
    }

-- no row differs from itself
pub same_self : (n : ℕ) (a : List ℕ) → same_entries n a a ≡ true
same_self n a = all-each n (λ j. eqb (at a j) (at a j)) (λ j h. eq-eqb (at a j) (at a j) refl)

-- past sixteen there are no rows
pub no_row : (a : List Row) (k : ℕ) → length a ≡ 16 → 16 ≤ k → row_of a k ≡ zero_entries
no_row a k p h = ap (λ (r : Row). r.entries) (get_or-eq_default a zero_row {n = k} (omega arith))

-- and zeros are above nothing
pub zeros-at_most : (n : ℕ) (b : List ℕ) → at_most n zero_entries b ≡ true
zeros-at_most n b =
    all-each n (λ j. leb (at zero_entries j) (at b j)) (λ j h. le-leb (at zero_entries j) (at b j) (omega (arith, zero j (split j 16))))
  where
    zero : (j : ℕ) → (j < 16) ⊎ (16 ≤ j) → at zero_entries j ≡ 0
    zero j (inl h) = get_or-tab 0 16 (λ k. 0) j h
    zero j (inr h) = past_end zero_entries 16 j (length-tab 16 (λ k. 0)) h

-- a test that shows where it fails is true where nothing fails
met : {n : ℕ} (r : Bool) (p : ℕ → Bool) → (r ≡ false → (k : ℕ) × (k < n) × (k < 16) × (p k ≡ false)) → ((k : ℕ) → k < n → k < 16 → p k ≡ true) → r ≡ true
met true p g h = refl
met false p g h = let w = g refl in absurd (true≢false (sym (h w.0 w.1 w.2) ∙ w.3))

pub rows-at_most_told : (r : Bool) (n : ℕ) (a : List Row) (top : List ℕ) → length a ≡ 16
    → (r ≡ true → (k : ℕ) → k < n → k < 16 → at_most n (row_of a k) top ≡ true)
    → (r ≡ false → (k : ℕ) × (k < n) × (k < 16) × (at_most n (row_of a k) top ≡ false))
    → r ≡ all n (λ i. at_most n (row_of a i) top)
rows-at_most_told r n a top p f g =
    all_told_to r n 16 (λ i. at_most n (row_of a i) top) (λ k l. rw (no_row a k p l) (zeros-at_most n top)) f (met r _ g)

pub same-rows_told : (r : Bool) (n : ℕ) (a b : List Row) → length a ≡ 16 → length b ≡ 16
    → (r ≡ true → (k : ℕ) → k < n → k < 16 → same_entries n (row_of a k) (row_of b k) ≡ true)
    → (r ≡ false → (k : ℕ) × (k < n) × (k < 16) × (same_entries n (row_of a k) (row_of b k) ≡ false))
    → r ≡ same_rows n a b
same-rows_told r n a b p q f g =
    all_told_to r n 16 (λ k. same_entries n (row_of a k) (row_of b k)) (λ k l. rw (no_row a k p l, no_row b k q l) (same_self n zero_entries)) f (met r _ g)

-- a row is nowhere above the diagonal's entries
pub below-diagonal : (n : ℕ) (rows : List Row) → n ≤ 16
    → all n (λ i. at_most n (row_of rows i) (over 0 n (λ j. cell rows j j) zero_entries)) ≡ diagonal rows n
below-diagonal n rows h =
    all_same n (λ i. at_most n (row_of rows i) (over 0 n (λ j. cell rows j j) zero_entries)) (λ i. all n (λ j. leb (cell rows i j) (cell rows j j)))
    (λ i _. all_same n (λ j. leb (cell rows i j) (at (over 0 n (λ k. cell rows k k) zero_entries) j)) (λ j. leb (cell rows i j) (cell rows j j))
    (λ j lt. ap (λ (x : ℕ). leb (cell rows i j) x)
    (over-at 0 n (λ k. cell rows k k) zero_entries j (omega (arith, length-tab {A = ℕ} 16 (λ k. 0))) ∙ rw (lt-ltb j n lt) refl)))

-- a row that can be set: what its first test and its second ask
pub update_fits : (m : MatrixClock) (i : ℕ) (v : Version) → fits_update m i v ≡ Ok (tt {0}) → Fits m.members v.members m.origin.0 i
update_fits m i v = go (fits_of m.members v.members m.origin.0 i) refl
  where
    go : (o : Result (Unit {0}) Refusal) → fits_of m.members v.members m.origin.0 i ≡ o → then o (λ _. fits_of m.members v.members v.origin.0 v.origin.0) ≡ Ok (tt {0}) → Fits m.members v.members m.origin.0 i
    go (Ok t) e h = fits_done m.members v.members m.origin.0 i e
    go (Err r) e h = cc

pub same-rows_clamp : (n : ℕ) (a b : List Row) → length a ≡ 16 → length b ≡ 16
    → same_rows n a b ≡ all (min n 16) (λ k. same_entries n (row_of a k) (row_of b k))
same-rows_clamp n a b p q =
    sym (all_clamp n 16 (λ k. same_entries n (row_of a k) (row_of b k))
    (λ k h. rw (no_row a k p h, no_row b k q h) (same_self n zero_entries)))
