-- Laws of the search in an order. Assumes nothing.
use Prim.Native.Nat.{ℕ, ◌+◌, ◌<◌, ◌≤◌}
use native.Mathlib.Omega.{arith}
use native.Mathlib.Numerals.{add-one}
use mathlib.Core.Path.{◌≡◌, refl, sym, ◌∙◌}
use mathlib.Core.List.{List, ◌∷◌, map}
use lib.ListN.{length, get_or, drop, length-map, get_or-map, drop_of_length-le}
use lib.Seq.{drop-cons}
use Rattle.std.specs.Prelude.{Ok, Err}
use Rattle.std.specs.declared.cmp.Ordering.{Ordering}
use Rattle.std.specs.Ordering.{ordering_then, nat_cmp}
use Rattle.std.proofs.lemmas.Bool.Decides.{nat_tests}
use Rattle.clock.specs.declared.id.EventId.{EventId}
use Rattle.clock.specs.contracts.id.EventIdOrd.TheImpl as derived
use Rattle.store.specs.Words.{event_at, id_of}
use Rattle.store.specs.Orders.{choose, cmp_of, find_from}

-- the derived order of ids: by place, then number
pub id_order : (a b o n : ℕ) → ordering_then (nat_cmp a o) (nat_cmp b n) ≡ cmp_of a b o n
id_order a b o n = grind (arith, nat_tests)

-- what the derived `cmp` of ids answers
pub derived_order : (a b : EventId) → (derived.ghosts).cmp a b ≡ cmp_of a.idx.0 a.seq b.idx.0 b.seq
derived_order a b = id_order a.idx.0 a.seq b.idx.0 b.seq

events_next : (p l : List ℕ) (i : ℕ) → i < length l → drop i (map (event_at p) l) ≡ event_at p (get_or l i 0) ∷ drop (i + 1) (map (event_at p) l)
events_next p l i h = drop-cons (map (event_at p) l) i (event_at p 0) (simp length-map (omega arith)) ∙ rw (get_or-map (event_at p) l i 0, add-one)

-- d is the id of the event at position i, r how it compares, and v the variant that r is known to be
pub find_next : (id d : EventId) (i : ℕ) (p l : List ℕ) (r v : Ordering) → i < length l → d ≡ id_of (event_at p (get_or l i 0))
    → r ≡ cmp_of d.idx.0 d.seq id.idx.0 id.seq → r ≡ v
    → find_from id.idx.0 id.seq i (drop i (map (event_at p) l)) ≡ choose v (find_from id.idx.0 id.seq (i + 1) (drop (i + 1) (map (event_at p) l))) (Ok i) (Err i)
unfolding find_from
find_next id d i p l r v h e g f = rw (events_next p l i h, ← cmp) refl
  where
    cmp : v ≡ cmp_of (event_at p (get_or l i 0)).origin.0 (event_at p (get_or l i 0)).number id.idx.0 id.seq
    cmp = sym f ∙ g ∙ rw e refl

pub find_end : (id : EventId) (i : ℕ) (p l : List ℕ) → length l ≤ i → find_from id.idx.0 id.seq i (drop i (map (event_at p) l)) ≡ Err i
unfolding find_from
find_end id i p l h = rw (drop_of_length-le (map (event_at p) l) {i = i} (simp length-map (omega arith)))
