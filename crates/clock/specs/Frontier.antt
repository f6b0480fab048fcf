-- The causal frontier, from document 01's section Versions. Assumes nothing.
use Rattle.std.specs.Prelude.{ℕ, Bool, ◌&&◌, List, set, leb, eqb, Option, Result, Ok}
use Rattle.std.specs.declared.cmp.Ordering.{Ordering}
use Rattle.refusal.specs.declared.Refusal.{Refusal}
use Rattle.refusal.specs.Refusal.{then}
use Rattle.lists.specs.Lists.{at}
use Rattle.clock.specs.Entries.{zero_entries, join_entries, meet_entries, sum_entries, same_entries}
use Rattle.clock.specs.Version.{fits_of, fits_version, entries_order}
use Rattle.clock.specs.declared.id.EventId.{EventId}
use Rattle.clock.specs.declared.version_vector.Version.{Version}
use Rattle.clock.specs.declared.causal_frontier.CausalFrontier.{CausalFrontier}

-- a frontier with a place; two frontiers. A frontier has no place of its own, and 0 is a place of every list
abbrev pub fits_cut_place : CausalFrontier → ℕ → Result (Unit {0}) Refusal
fits_cut_place f i = fits_of f.members f.members i i

abbrev pub fits_cut : CausalFrontier → Result (Unit {0}) Refusal
fits_cut f = fits_cut_place f 0

abbrev pub fits_cuts : CausalFrontier → CausalFrontier → Result (Unit {0}) Refusal
fits_cuts f g = fits_of f.members g.members 0 0

abbrev pub with_cut : CausalFrontier → List ℕ → CausalFrontier
with_cut f l = record { members = f.members; row = record { entries = l } }

-- ---- the calls

abbrev pub new_frontier : ℕ → Result CausalFrontier Refusal
new_frontier n =
    then (fits_of n n 0 0) (λ _. Ok (record { members = n; row = record { entries = zero_entries } }))

abbrev pub cut_seq : CausalFrontier → ℕ → Result ℕ Refusal
cut_seq f i = then (fits_cut_place f i) (λ _. Ok (at f.row.entries i))

abbrev pub cut_set : CausalFrontier → ℕ → ℕ → Result CausalFrontier Refusal
cut_set f i x = then (fits_cut_place f i) (λ _. Ok (with_cut f (set f.row.entries i x)))

abbrev pub cut_sum : CausalFrontier → Result ℕ Refusal
cut_sum f = then (fits_cut f) (λ _. Ok (sum_entries f.members f.row.entries))

-- the larger, entry by entry
abbrev pub cut_join : CausalFrontier → CausalFrontier → Result CausalFrontier Refusal
cut_join f g =
    then (fits_cuts f g) (λ _. Ok (with_cut f (join_entries f.members f.row.entries g.row.entries)))

abbrev pub cut_join_version : CausalFrontier → Version → Result CausalFrontier Refusal
cut_join_version f v =
    then (fits_of f.members v.members v.origin.0 v.origin.0) (λ _. Ok (with_cut f (join_entries f.members f.row.entries v.row.entries)))

-- the smaller, entry by entry
abbrev pub cut_meet : CausalFrontier → CausalFrontier → Result CausalFrontier Refusal
cut_meet f g =
    then (fits_cuts f g) (λ _. Ok (with_cut f (meet_entries f.members f.row.entries g.row.entries)))

-- a frontier contains an id when its entry is at least the id's number
abbrev pub contains_of : CausalFrontier → EventId → Result Bool Refusal
contains_of f e = then (fits_cut_place f e.idx.0) (λ _. Ok (leb e.seq (at f.row.entries e.idx.0)))

-- a frontier compares entry by entry
abbrev pub cut_compare : CausalFrontier → CausalFrontier → Result (Option Ordering) Refusal
cut_compare f g = then (fits_cuts f g) (λ _. Ok (entries_order f.members f.row.entries g.row.entries))

-- same list, same entries
abbrev pub same_frontier : CausalFrontier → CausalFrontier → Bool
same_frontier f g = eqb f.members g.members && same_entries f.members f.row.entries g.row.entries

-- a version's entries
abbrev pub frontier_from : Version → Result CausalFrontier Refusal
frontier_from v = then (fits_version v) (λ _. Ok (record { members = v.members; row = v.row }))
