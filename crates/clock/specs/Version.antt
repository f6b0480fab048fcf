-- Versions and event ids, from document 01's section Versions. Assumes nothing.
use Rattle.std.specs.Prelude.{ℕ, zero, suc, ◌-◌, ◌+◌, Bool, true, false, cond, not, ◌&&◌, ◌||◌, List, [], ◌∷◌, ◌++◌, length, get_or, set, leb, ltb, eqb, Option, Some, None, Result, Ok, Err}
use Rattle.std.specs.declared.cmp.Ordering.{Ordering}
use Rattle.std.specs.declared.cmp.Ordering.TheVariants.{Less, Equal, Greater}
use Rattle.refusal.specs.declared.Refusal.{Refusal}
use Rattle.refusal.specs.Refusal.{no, then}
use Rattle.lists.specs.Lists.{at, tab}
use Rattle.clock.specs.Entries.{zero_entries, join_entries, meet_entries, at_most, sum_entries, same_entries}
use Rattle.clock.specs.declared.id.EventId.{EventId}
use Rattle.clock.specs.declared.causal_frontier.CausalFrontier.{CausalFrontier}
use Rattle.clock.specs.declared.version_vector.Version.{Version}
use Rattle.clock.specs.declared.version_vector.Dependencies.{Dependencies}

-- ---- what fits together

-- counts outside 2 to 16, or unlike: 4; a place outside the list: 9
unfoldable pub fits_of : ℕ → ℕ → ℕ → ℕ → Result (Unit {0}) Refusal
fits_of n m i j =
    cond (ltb n 2 || (ltb 16 n || not (eqb n m))) (Err (no 4))
    (cond (leb n i || leb n j) (Err (no 9)) (Ok tt))

-- a version by itself; with a place; two versions
abbrev pub fits_place : Version → ℕ → Result (Unit {0}) Refusal
fits_place v i = fits_of v.members v.members v.origin.0 i

abbrev pub fits_version : Version → Result (Unit {0}) Refusal
fits_version v = fits_place v v.origin.0

abbrev pub fits_both : Version → Version → Result (Unit {0}) Refusal
fits_both a b = fits_of a.members b.members a.origin.0 b.origin.0

-- ---- a version's entries

abbrev pub entry_of : Version → ℕ → ℕ
entry_of v j = at v.row.entries j

abbrev pub own_entry : Version → ℕ
own_entry v = entry_of v v.origin.0

abbrev pub with_entries : Version → List ℕ → Version
with_entries v l = record { members = v.members; origin = v.origin; row = record { entries = l } }

-- ---- the calls

abbrev pub new_version : ℕ → ℕ → Result Version Refusal
new_version i n =
    then (fits_of n n i i) (λ _. Ok (record { members = n; origin = record { 0 = i }; row = record { entries = zero_entries } }))

-- 14 where the origin's entry is already the last number
abbrev pub increment_of : Version → Result Version Refusal
increment_of v =
    then (fits_version v)
    (λ _. cond (eqb (own_entry v) 4294967295) (Err (no 14)) (Ok (with_entries v (set v.row.entries v.origin.0 (own_entry v + 1)))))

-- 11 where the other's origin entry is 0. Nothing happens if self's entry for other's origin is at least other's own; else the
-- larger, entry by entry
abbrev pub join_of : Version → Version → Result Version Refusal
join_of a b =
    then (fits_both a b)
    (λ _. cond (eqb (own_entry b) 0) (Err (no 11))
    (cond (leb (own_entry b) (entry_of a b.origin.0)) (Ok a)
    (Ok (with_entries a (join_entries a.members a.row.entries b.row.entries)))))

-- the smaller, entry by entry
abbrev pub meet_of : Version → Version → Result Version Refusal
meet_of a b = then (fits_both a b) (λ _. Ok (with_entries a (meet_entries a.members a.row.entries b.row.entries)))

abbrev pub sum_of : Version → Result ℕ Refusal
sum_of v = then (fits_version v) (λ _. Ok (sum_entries v.members v.row.entries))

abbrev pub seq_of : Version → ℕ → Result ℕ Refusal
seq_of v i = then (fits_place v i) (λ _. Ok (entry_of v i))

abbrev pub set_of : Version → ℕ → ℕ → Result Version Refusal
set_of v i x = then (fits_place v i) (λ _. Ok (with_entries v (set v.row.entries i x)))

-- the id of the event that a version belongs to: 11 where its origin's entry is 0
abbrev pub id_of : Version → Result EventId Refusal
id_of v = then (fits_version v) (λ _. cond (eqb (own_entry v) 0) (Err (no 11)) (Ok (record { idx = v.origin; seq = own_entry v })))

-- every entry is at least the frontier's
abbrev pub includes_of : Version → CausalFrontier → Result Bool Refusal
includes_of v f = then (fits_of v.members f.members v.origin.0 v.origin.0) (λ _. Ok (at_most v.members f.row.entries v.row.entries))

-- same list, same origin, same entries
abbrev pub same_version : Version → Version → Bool
same_version a b =
    eqb a.members b.members && (eqb a.origin.0 b.origin.0 && same_entries a.members a.row.entries b.row.entries)

-- a frontier's entries with an origin chosen for them
abbrev pub version_from : CausalFrontier → ℕ → Result Version Refusal
version_from f i = then (fits_of f.members f.members i i) (λ _. Ok (record { members = f.members; origin = record { 0 = i }; row = f.row }))

-- ---- dependencies

-- the id that an entry x at place j names: the origin's less one
abbrev pub dependency_id : ℕ → ℕ → ℕ → EventId
dependency_id j origin x = record { idx = record { 0 = j }; seq = cond (eqb j origin) (x - 1) x }

-- by place: each entry above 0
abbrev pub dependency_at : Version → ℕ → List EventId
dependency_at v j = cond (eqb (entry_of v j) 0) [] (dependency_id j v.origin.0 (entry_of v j) ∷ [])

-- of the places below n
unfoldable pub dependencies_to : ℕ → Version → List EventId
dependencies_to zero v = []
dependencies_to (suc k) v = dependencies_to k v ++ dependency_at v k

abbrev pub no_id : EventId
no_id = record { idx = record { 0 = 0 }; seq = 0 }

-- a list of ids in sixteen places, the ones behind it 0
abbrev pub sixteen_ids : List EventId → List EventId
sixteen_ids l = tab 16 (λ j. get_or l j no_id)

abbrev pub dependencies : List EventId → Dependencies
dependencies l = record { count = length l; ids = sixteen_ids l }

abbrev pub dependencies_of : Version → Result Dependencies Refusal
dependencies_of v = then (fits_version v) (λ _. Ok (dependencies (dependencies_to v.members v)))

-- ---- comparison

-- by whether no entry of the first is above the second's, and the other way round
abbrev pub order_of : Bool → Bool → Option Ordering
order_of true true = Some Equal
order_of true false = Some Less
order_of false true = Some Greater
order_of false false = None

-- all entries: larger in some and smaller in others is concurrent
abbrev pub entries_order : ℕ → List ℕ → List ℕ → Option Ordering
entries_order n a b = order_of (at_most n a b) (at_most n b a)

-- two numbers
abbrev pub numbers_order : ℕ → ℕ → Option Ordering
numbers_order x y = order_of (leb x y) (leb y x)

-- other origins. x: self's entry for other's origin is at least other's own; y: other's entry for self's origin is at least
-- self's own. Not x and not y: concurrent. Only y: less. Only x: greater. Both: all entries
abbrev pub origins_order : Bool → Bool → Option Ordering → Option Ordering
origins_order false false whole = None
origins_order false true whole = Some Less
origins_order true false whole = Some Greater
origins_order true true whole = whole

abbrev pub versions_order : Version → Version → Option Ordering
versions_order a b =
    cond (eqb a.origin.0 b.origin.0) (numbers_order (own_entry a) (own_entry b))
    (origins_order (leb (own_entry b) (entry_of a b.origin.0)) (leb (own_entry a) (entry_of b a.origin.0))
    (entries_order a.members a.row.entries b.row.entries))

abbrev pub compare_of : Version → Version → Result (Option Ordering) Refusal
compare_of a b = then (fits_both a b) (λ _. Ok (versions_order a b))

-- ---- ids

abbrev pub same_id : EventId → EventId → Bool
same_id a b = eqb a.idx.0 b.idx.0 && eqb a.seq b.seq

-- the version's entry for the id's place is at least its number
abbrev pub predecessor_of : EventId → Version → Result Bool Refusal
predecessor_of e v = then (fits_place v e.idx.0) (λ _. Ok (leb e.seq (entry_of v e.idx.0)))
