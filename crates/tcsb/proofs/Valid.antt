-- What a valid matrix says by place, and back; the member count of a well-formed state. Assumes nothing.
use mathlib.Core.Path.{◌≡◌, refl}
use mathlib.Core.Bool.{true, ◌&&◌}
use mathlib.Core.List.{List, []}
use Prim.Native.Nat.{ℕ, ◌≤◌, ◌<◌}
use native.Mathlib.Omega.{arith}
use lib.ListN.{length, get_or}
use lib.Dec.{leb}
use borrow.Author.Tests.{le-ltb, lt-leb, le-leb, eq-eqb, leb-true}
use Rattle.lists.specs.Lists.{all}
use Rattle.lists.proofs.Laws.{all-at, all-each, and_both}
use Rattle.clock.specs.Version.{fits_of}
use Rattle.clock.specs.Matrix.{cell, diagonal, dominate, fits_matrix, valid_of}
use Rattle.clock.specs.declared.matrix_clock.MatrixClock.{MatrixClock}
use Rattle.clock.proofs.Matrices.{Fits, fits_done}
use Rattle.tcsb.specs.Replica.{State, members, counts_fit}
use Rattle.tcsb.specs.WellFormed.{WellFormed}
use Rattle.std.specs.Prelude.{Result, Ok, Err}
use Rattle.refusal.specs.declared.Refusal.{Refusal}
use Rattle.refusal.specs.Refusal.{then}

-- 2 to 16 members, we are one of them; no row i has entry j above row j's entry j, and our own row is the largest
pub record Valid (m : MatrixClock) : Type 0 where
  pub two : 2 ≤ m.members
  pub few : m.members ≤ 16
  pub place : m.origin.0 < m.members
  pub under : (i j : ℕ) → i < m.members → j < m.members → cell m.rows i j ≤ cell m.rows j j
  pub largest : (i j : ℕ) → i < m.members → j < m.members → cell m.rows i j ≤ cell m.rows m.origin.0 j

pub done_fits : (n m i j : ℕ) → Fits n m i j → fits_of n m i j ≡ Ok (tt {0})
unfolding fits_of
done_fits n m i j h =
    rw (le-ltb n 2 h.two, le-ltb 16 n h.few, eq-eqb n m h.like, lt-leb n i h.place, lt-leb n j h.another) refl

-- a test of each cell
cells_at : (n : ℕ) (f g : ℕ → ℕ → ℕ) → all n (λ i. all n (λ j. leb (f i j) (g i j))) ≡ true → (i j : ℕ) → i < n → j < n → f i j ≤ g i j
cells_at n f g h i j lt lu =
    leb-true (f i j) (g i j) (all-at n j (λ j. leb (f i j) (g i j)) (all-at n i (λ i. all n (λ j. leb (f i j) (g i j))) h lt) lu)

cells_each : (n : ℕ) (f g : ℕ → ℕ → ℕ) → ((i j : ℕ) → i < n → j < n → f i j ≤ g i j) → all n (λ i. all n (λ j. leb (f i j) (g i j))) ≡ true
cells_each n f g h =
    all-each n (λ i. all n (λ j. leb (f i j) (g i j))) (λ i lt. all-each n (λ j. leb (f i j) (g i j)) (λ j lu. le-leb (f i j) (g i j) (h i j lt lu)))

pub valid_facts : (m : MatrixClock) → valid_of m ≡ Ok true → Valid m
valid_facts m = go (fits_matrix m m.origin.0) refl
  where
    go : (o : Result (Unit {0}) Refusal) → fits_matrix m m.origin.0 ≡ o
        → then o (λ _. Ok (diagonal m.rows m.members && dominate m.rows m.members m.origin.0)) ≡ Ok true → Valid m
    go (Ok u) e h =
        let f = fits_done m.members m.members m.origin.0 m.origin.0 e in
        let t : (diagonal m.rows m.members && dominate m.rows m.members m.origin.0) ≡ true = cc in
        let b = and_both (diagonal m.rows m.members) (dominate m.rows m.members m.origin.0) t in
        record {
          two = f.two;
          few = f.few;
          place = f.place;
          under = cells_at m.members (λ i j. cell m.rows i j) (λ i j. cell m.rows j j) b.0;
          largest = cells_at m.members (λ i j. cell m.rows i j) (λ i j. cell m.rows m.origin.0 j) b.1;
        }
    go (Err r) e h = absurd (let z : ◌≡◌ {A = ℕ} 0 1 = cc in omega arith)

pub facts_valid : (m : MatrixClock) → Valid m → valid_of m ≡ Ok true
facts_valid m v =
    rw (
      done_fits m.members m.members m.origin.0 m.origin.0
          (record { two = v.two; few = v.few; like = refl; place = v.place; another = v.place }),
      cells_each m.members (λ i j. cell m.rows i j) (λ i j. cell m.rows j j) v.under,
      cells_each m.members (λ i j. cell m.rows i j) (λ i j. cell m.rows m.origin.0 j) v.largest,
    )
    refl

-- ---- the member count

pub counts_range : (names : List (List ℕ)) → counts_fit names ≡ true → (2 ≤ length names) × (length names ≤ 16)
unfolding counts_fit
counts_range names h =
    let a = and_both (leb 2 (length names) && leb (length names) 16) (all (length names) (λ i. leb 1 (length (get_or names i [])) && leb (length (get_or names i [])) 16)) h in
    let b = and_both (leb 2 (length names)) (leb (length names) 16) a.0 in
    (leb-true 2 (length names) b.0, leb-true (length names) 16 b.1)

pub members_range : {st : State} → WellFormed st → (2 ≤ members st) × (members st ≤ 16)
members_range {st} w = rw w.listed at (counts_range st.names w.counts)
