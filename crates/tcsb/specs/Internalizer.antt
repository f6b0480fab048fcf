-- Names to places, from document 01: a member's place in our list and its place in a sender's list are never to be confused; only
-- the sender's row turns the second into the first. Assumes nothing.
use Rattle.std.specs.Prelude.{ℕ, zero, suc, Bool, cond, ◌&&◌, List, [], ◌∷◌, length, get_or, set, leb, ltb, eqb}
use Rattle.refusal.specs.Refusal.{no}
use Rattle.lists.specs.Lists.{at, tab, all}
use Rattle.clock.specs.Entries.{zero_entries}
use Rattle.telegram.specs.Fields.{text}
use Rattle.telegram.specs.Reading.{same_bytes}
use Rattle.telegram.specs.declared.body.Body.{Body}
use Rattle.store.specs.declared.event.Event.{Event}
use Rattle.tcsb.specs.declared.internalizer.Translation.{Translation}
use Rattle.std.specs.Prelude.{Result, Ok, Err, Option, Some, None}
use Rattle.refusal.specs.declared.Refusal.{Refusal}

-- nothing is known of a sender that never sent
abbrev pub no_translation : Translation
no_translation = record { count = 0; places = tab 16 (λ p. 0) }

-- the place of a name in a list; past its end where it isn't there
unfoldable pub place_of : List (List ℕ) → List ℕ → ℕ
place_of [] t = 0
place_of (x ∷ l) t = cond (same_bytes x t) 0 (suc (place_of l t))

-- that place, or none
abbrev pub member_at : List (List ℕ) → List ℕ → Option ℕ
member_at l t = cond (ltb (place_of l t) (length l)) (Some (place_of l t)) None

-- our places of the names that a sender lists: 7 where one is no member
unfoldable pub translation_of : List (List ℕ) → List (List ℕ) → Result Translation Refusal
translation_of names listed =
    cond (all (length listed) (λ p. ltb (place_of names (get_or listed p [])) (length names)))
    (Ok (record { count = length listed; places = tab 16 (λ p. cond (ltb p (length listed)) (place_of names (get_or listed p [])) 0) }))
    (Err (no 7))

-- the row has all that the known one has, in its places
unfoldable pub continues : Translation → Translation → Bool
continues known row = leb known.count row.count && all known.count (λ p. eqb (at known.places p) (at row.places p))

-- our place of a sender's place
abbrev pub our_place : Translation → ℕ → ℕ
our_place row p = at row.places p

-- the first n entries of a version at our places; a member that the sender doesn't list has entry 0
unfoldable pub our_entries : ℕ → Translation → List ℕ → List ℕ
our_entries zero row v = zero_entries
our_entries (suc p) row v = set (our_entries p row v) (our_place row p) (at v p)

-- an event body as an event of ours
unfoldable pub event_of : Translation → List ℕ → Body → Event
event_of row s b = record {
  origin = record { 0 = our_place row b.place.0 };
  number = b.number;
  version = record { entries = our_entries row.count row b.entries };
  len = b.operation.len;
  operation = tab 32 (λ k. at (text s b.operation) k);
}
