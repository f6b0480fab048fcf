-- Rows of entries, one per member. Assumes nothing.
use Rattle.std.specs.Prelude.{ℕ, min, max, Bool, true, false, List, leb, eqb}
use Rattle.lists.specs.Lists.{at, tab, over, all, sum}

abbrev pub zero_entries : List ℕ
zero_entries = tab 16 (λ j. 0)

abbrev pub pick_by : Bool → ℕ → ℕ → ℕ
pick_by true = max
pick_by false = min

-- entry by entry, for n members
abbrev pub merge_entries : (ℕ → ℕ → ℕ) → ℕ → List ℕ → List ℕ → List ℕ
merge_entries f n a b = over 0 n (λ j. f (at a j) (at b j)) a

abbrev pub join_entries : ℕ → List ℕ → List ℕ → List ℕ
join_entries = merge_entries max

abbrev pub meet_entries : ℕ → List ℕ → List ℕ → List ℕ
meet_entries = merge_entries min

-- no entry is above the other's
abbrev pub at_most : ℕ → List ℕ → List ℕ → Bool
at_most n a b = all n (λ j. leb (at a j) (at b j))

abbrev pub sum_entries : ℕ → List ℕ → ℕ
sum_entries n a = sum n (at a)

-- each entry is the other's
abbrev pub same_entries : ℕ → List ℕ → List ℕ → Bool
same_entries n a b = all n (λ j. eqb (at a j) (at b j))
