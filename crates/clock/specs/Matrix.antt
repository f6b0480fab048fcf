-- The matrix clock, from document 01's section Versions and its calls Next and Frontier. Assumes nothing.
use Rattle.std.specs.Prelude.{ℕ, ◌-◌, Bool, false, cond, ◌&&◌, List, get_or, set, leb, ltb, eqb, Result, Ok}
use Rattle.refusal.specs.declared.Refusal.{Refusal}
use Rattle.refusal.specs.Refusal.{then}
use Rattle.lists.specs.Lists.{at, tab, over, all, any, least}
use Rattle.clock.specs.Entries.{zero_entries, join_entries, at_most, same_entries}
use Rattle.clock.specs.Version.{fits_of}
use Rattle.clock.specs.Frontier.{with_cut}
use Rattle.clock.specs.declared.version_vector.Row.{Row}
use Rattle.clock.specs.declared.version_vector.Version.{Version}
use Rattle.clock.specs.declared.causal_frontier.CausalFrontier.{CausalFrontier}
use Rattle.clock.specs.declared.matrix_clock.MatrixClock.{MatrixClock}
use Rattle.clock.specs.declared.matrix_clock.Columns.{Columns}

-- ---- rows and cells

abbrev pub zero_row : Row
zero_row = record { entries = zero_entries }

abbrev pub row_of : List Row → ℕ → List ℕ
row_of rows i = (get_or rows i zero_row).entries

abbrev pub cell : List Row → ℕ → ℕ → ℕ
cell rows i j = at (row_of rows i) j

abbrev pub with_rows : MatrixClock → List Row → MatrixClock
with_rows m l = record { members = m.members; origin = m.origin; rows = l }

abbrev pub with_row_at : MatrixClock → ℕ → List ℕ → MatrixClock
with_row_at m i l = with_rows m (set m.rows i (record { entries = l }))

-- our own place and another; those, and a version
abbrev pub fits_matrix : MatrixClock → ℕ → Result (Unit {0}) Refusal
fits_matrix m i = fits_of m.members m.members m.origin.0 i

abbrev pub fits_update : MatrixClock → ℕ → Version → Result (Unit {0}) Refusal
fits_update m i v =
    then (fits_of m.members v.members m.origin.0 i) (λ _. fits_of m.members v.members v.origin.0 v.origin.0)

-- ---- the calls

-- a matrix of zeros
abbrev pub zero_matrix : ℕ → ℕ → MatrixClock
zero_matrix i n = record { members = n; origin = record { 0 = i }; rows = tab 16 (λ k. zero_row) }

abbrev pub new_matrix : ℕ → ℕ → Result MatrixClock Refusal
new_matrix i n = then (fits_of n n i i) (λ _. Ok (zero_matrix i n))

-- row i as the version of the member at that place
abbrev pub version_at : MatrixClock → ℕ → Result Version Refusal
version_at m i =
    then (fits_matrix m i)
    (λ _. Ok (record { members = m.members; origin = record { 0 = i }; row = record { entries = row_of m.rows i } }))

abbrev pub set_row : MatrixClock → ℕ → Version → Result MatrixClock Refusal
set_row m i v = then (fits_update m i v) (λ _. Ok (with_row_at m i v.row.entries))

-- ---- raised columns

-- no column
abbrev pub no_columns : List Bool
no_columns = tab 16 (λ j. false)

-- the columns in which the version is above the row
abbrev pub raised_of : ℕ → List ℕ → List ℕ → List Bool
raised_of n r v = over false n (λ j. ltb (at r j) (at v j)) no_columns

-- the row takes every larger entry, and those columns are the raised ones
abbrev pub set_row_incremental : MatrixClock → ℕ → Version → Result (MatrixClock × Columns) Refusal
set_row_incremental m i v =
    then (fits_update m i v)
    (λ _. Ok (
      with_row_at m i (join_entries m.members (row_of m.rows i) v.row.entries),
      record { raised = raised_of m.members (row_of m.rows i) v.row.entries },
    ))

-- ---- the column rule

-- if a row holds exactly the frontier's entry it stays, else it becomes the least of the column
abbrev pub settled : List Row → ℕ → ℕ → ℕ → ℕ
settled rows n j x = cond (any n (λ i. eqb (cell rows i j) x)) x (least (n - 1) (λ i. cell rows i j))

-- for a listed column; one that isn't listed stays
abbrev pub column : List Row → ℕ → List Bool → ℕ → ℕ → ℕ
column rows n raised j x = cond (get_or raised j false) (settled rows n j x) x

abbrev pub settled_cut : List Row → ℕ → List Bool → List ℕ → List ℕ
settled_cut rows n raised f = over 0 n (λ j. column rows n raised j (at f j)) f

abbrev pub column_wise_min : MatrixClock → CausalFrontier → Columns → Result CausalFrontier Refusal
column_wise_min m f c =
    then (fits_of m.members f.members m.origin.0 m.origin.0)
    (λ _. Ok (with_cut f (settled_cut m.rows m.members c.raised f.row.entries)))

-- ---- validity: no row i has entry j above row j's entry j, and our own row is entrywise the largest. A matrix of n members
-- has n rows of n entries, so it is square

abbrev pub diagonal : List Row → ℕ → Bool
diagonal rows n = all n (λ i. all n (λ j. leb (cell rows i j) (cell rows j j)))

abbrev pub dominate : List Row → ℕ → ℕ → Bool
dominate rows n own = all n (λ i. at_most n (row_of rows i) (row_of rows own))

abbrev pub valid_of : MatrixClock → Result Bool Refusal
valid_of m =
    then (fits_matrix m m.origin.0)
    (λ _. Ok (diagonal m.rows m.members && dominate m.rows m.members m.origin.0))

-- same list, same origin, same rows
abbrev pub same_rows : ℕ → List Row → List Row → Bool
same_rows n a b = all n (λ i. same_entries n (row_of a i) (row_of b i))

abbrev pub same_matrix : MatrixClock → MatrixClock → Bool
same_matrix a b = eqb a.members b.members && (eqb a.origin.0 b.origin.0 && same_rows a.members a.rows b.rows)
